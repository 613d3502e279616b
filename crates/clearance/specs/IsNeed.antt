-- What a need is: a requirement whose indexes ascend, never exist, with nothing emptied and nothing outside its type.
use Rattle.std.specs.Prelude.{◌≡◌, true, false}
use Rattle.part.specs.PartReq.{PartReq, all, exist, none, more}
use Rattle.part.specs.Ascending.{Ascending}
use Rattle.clearance.specs.Shape.{Shape, member, is_void, some}
use Rattle.clearance.specs.Verdict.{Request}

-- never exist, nothing emptied, nothing outside the type
abbrev pub Tidy : PartReq → Shape → Type 0
Tidy all t = is_void t ≡ false
Tidy exist t = ⊥
Tidy none t = Unit {0}
Tidy (more i p r) t = (some p ≡ true) × (Tidy p (member t i) × Tidy r t)

pub record IsNeed (t : Shape) (n : PartReq) : Type 0 where
  pub ascends : Ascending n
  pub tidy : Tidy n t

-- what a request asks has ascending indexes: reading it sees to that
pub record AscendingRequest (R : Request) : Type 0 where
  pub globals : Ascending R.globals
  pub value : Ascending R.value
