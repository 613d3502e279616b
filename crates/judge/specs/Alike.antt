-- The table of shapes: for each type the lowest type that is alike, so that two types are compared by two numbers.
use Rattle.std.specs.Prelude.{ℕ, ◌<◌, ◌≤◌, ◌≡◌, Bool, true, false, List, eqb, length, get_or}
use Rattle.module.specs.Module.{TypeHandle, TypeInner, Opaque}
use Rattle.module.specs.Knot.{knot}
use Rattle.valid.specs.Valid.{EachBelow}
use Rattle.clearance.specs.Scope.{Scope, bases, alike_inner, alike}

-- `alike`, which looks at a scope's types alone
unfoldable pub alike_in : List TypeInner → TypeHandle → TypeHandle → Bool
alike_in types t u =
    knot {A = TypeHandle → Bool} (λ same h g. alike_inner same (get_or types h Opaque) (get_or types g Opaque)) (λ g. false) t u

-- the types that a type is made of are lower
pub record Lower (types : List TypeInner) : Type 0 where
  pub each : (t : TypeHandle) → EachBelow t (bases (get_or types t Opaque))

-- n is the lowest type that is alike to t
pub record Lowest (types : List TypeInner) (t n : TypeHandle) : Type 0 where
  pub low : n ≤ t
  pub is : alike_in types n t ≡ true
  pub first : (j : TypeHandle) → j < n → alike_in types j t ≡ false

-- the table is right for the types below n
pub record Upto (types : List TypeInner) (table : List ℕ) (n : ℕ) : Type 0 where
  pub each : (t : TypeHandle) → t < n → Lowest types t (get_or table t 0)

-- two types by the table
unfoldable pub by_table : List ℕ → TypeHandle → TypeHandle → Bool
by_table table a b = eqb (get_or table a 0) (get_or table b 0)

-- the table decides `alike` in every scope with these types
pub record AlikeTable (types : List TypeInner) (table : List ℕ) : Type 0 where
  pub long : length table ≡ length types
  pub is : (S : Scope) → S.program.types ≡ types → (a b : TypeHandle) → a < length types → b < length types → by_table table a b ≡ alike S a b
