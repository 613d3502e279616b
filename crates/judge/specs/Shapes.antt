-- Shapes of types, by the table of types and that of the alike ones.
use Rattle.std.specs.Prelude.{ℕ, ◌≤◌, ◌≡◌, Bool, cond, List, eqb, length}
use Rattle.std.proofs.Math.Option.{Option}
use Rattle.module.specs.Module.{TypeHandle, TypeInner, Scalar, Vector, Matrix, Atomic, Pointer, Array, Struct, BindingArray, Opaque}
use Rattle.context.specs.Types.{types_of}
use Rattle.clearance.specs.Scope.{Scope, inner}
use Rattle.clearance.specs.Judged.{part_type, element_type, pointee_type}
use Rattle.judge.specs.Alike.{Lower, AlikeTable}

-- r is what `said` says in every scope with these types
abbrev pub InTypes : List ℕ → (Scope → Bool) → Bool → Type 0
InTypes types said r = (S : Scope) → S.program.types ≡ types_of types → r ≡ said S

-- the types are made of lower ones, and the table decides which are alike
pub record Shapes (types alike : List ℕ) : Type 0 where
  pub lower : Lower (types_of types)
  pub table : AlikeTable (types_of types) alike

-- how many parts a type has for a constant index
unfoldable pub part_count : TypeInner → ℕ
part_count Scalar = 0
part_count (Vector n) = n
part_count (Matrix columns rows) = columns
part_count Atomic = 0
part_count (Pointer base) = 0
part_count (Array base n) = n
part_count (Struct ms) = length ms
part_count (BindingArray base) = 0
part_count Opaque = 0

-- r is what a pointer of the type t leads to, or t
pub record Pointee (types : List ℕ) (t r : TypeHandle) : Type 0 where
  pub low : r ≤ t
  pub is : (S : Scope) → S.program.types ≡ types_of types → inner S r ≡ pointee_type S (inner S t)

-- what an index gives, by the kind of its expression: a dynamic one (4), or a constant i
unfoldable pub indexed : Scope → ℕ → ℕ → TypeInner → Option TypeInner
indexed S kind i x = cond (eqb kind 4) (element_type S x) (part_type S x i)
