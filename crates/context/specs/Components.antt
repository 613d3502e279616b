-- How a requirement lists the components of a value, for the theorems that hold it against WGSL.
use Rattle.std.specs.Prelude.{ℕ, ◌+◌, ◌<◌, ◌≡◌, cond, List, [], ◌∷◌, map, eqb}
use Rattle.part.specs.PartReq.{PartReq, all, exist, none, more}
use Rattle.module.specs.Module.{TypeInner, Scalar, Vector, Matrix}
use Rattle.context.specs.Wgsl.{Shape, scalar, vec, mat, Letter, named, Picks}
use Rattle.context.specs.Swizzle.{swizzled, asks}

-- the type of a module that has this shape
abbrev pub type_of : Shape → TypeInner
type_of scalar = Scalar
type_of (vec size) = Vector size
type_of (mat columns rows) = Matrix columns rows

-- how often the requirement has all at the end of these indexes
unfoldable pub times : PartReq → List ℕ → ℕ
times all [] = 1
times all (j ∷ path) = 0
times exist path = 0
times none path = 0
times (more i p r) [] = 0
times (more i p r) (j ∷ path) = cond (eqb i j) (times p path) 0 + times r (j ∷ path)

-- a part of components below n, of which all is asked
abbrev pub Whole : ℕ → PartReq → Type 0
Whole n all = ⊥
Whole n exist = ⊥
Whole n none = Unit {0}
Whole n (more i p r) = (i < n) × ((p ≡ all) × Whole n r)

-- the component c of the vector is picked for one that p asks of the swizzle
pub record Picked (letters : List Letter) (p : PartReq) (c : ℕ) : Type 0 where
  pub component : ℕ
  pub asked : 0 < times p (component ∷ [])
  pub picks : Picks letters component c

-- What the arm of `Swizzle` asks, s, where p is asked of the swizzle: all of the components that the letters pick, each once, and nothing else.
pub record Agrees (letters : List Letter) (p s : PartReq) : Type 0 where
  pub is : swizzled (map named letters) p ≡ asks s
  pub whole : Whole 4 s
  pub picked : (c : ℕ) → Picked letters p c → times s (c ∷ []) ≡ 1
  pub only : (c : ℕ) → 0 < times s (c ∷ []) → Picked letters p c
