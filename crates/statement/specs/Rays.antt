-- The statements that are required where anything is needed of their target: its field, and the fields that are asked then, by kind.
use Rattle.std.specs.Prelude.{◌≡◌, cond, ℕ, ◌<◌, eqb}
use Rattle.std.proofs.Math.Option.{Option, some, none as nothing}
use Rattle.module.specs.Module.{ExpressionHandle}
use Rattle.module.specs.Decode.{option_of}
use Rattle.access.specs.Access.{handle_in}
use Rattle.valid.specs.Valid.{MaybeBelow}
use Rattle.statement.specs.declared.rays.Ray as declared

pub data RayKind (kind : ℕ) : Type 0 where
  query : kind ≡ 16 → RayKind kind
  load : kind ≡ 17 → RayKind kind
  ballot : kind ≡ 18 → RayKind kind
  gather : kind ≡ 19 → RayKind kind
  collective : kind ≡ 20 → RayKind kind

-- the fields
pub record Ray : Type 0 where
  pub target : ExpressionHandle
  pub first : Option ExpressionHandle
  pub second : Option ExpressionHandle

abbrev pub ray_of : declared.Ray → Ray
ray_of x = record { target = x.target.0; first = handle_in x.first; second = handle_in x.second }

-- a gather, by its mode: 1 names an expression
unfoldable pub gather_fields : (mode : ℕ) → (ℕ → ℕ) → Ray
gather_fields mode o =
    cond (eqb mode 1) (record { target = o 3; first = some (o 1); second = some (o 2) }) (record { target = o 2; first = nothing; second = some (o 1) })

unfoldable pub ray_fields : ℕ → (ℕ → ℕ) → Ray
ray_fields kind o =
    cond (eqb kind 16) (record { target = o 0; first = nothing; second = nothing })
    (cond (eqb kind 18) (record { target = o 0; first = option_of (o 1); second = nothing })
    (cond (eqb kind 19) (gather_fields (o 0) o) (record { target = o 1; first = some (o 0); second = nothing })))

pub record RayBelow (n : ℕ) (x : Ray) : Type 0 where
  pub target : x.target < n
  pub first : MaybeBelow n x.first
  pub second : MaybeBelow n x.second
