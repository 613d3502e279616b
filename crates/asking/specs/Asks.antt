-- One ask in memory: what it leaves in the slots, by the definition's `asking`. The slots below the last may have anything.
use Rattle.std.specs.Prelude.{ℕ, ◌+◌, ◌-◌, ◌<◌, ◌≤◌, ◌≡◌, Bool, true, cond, List, ◌∷◌, ◌++◌, length}
use Rattle.part.specs.PartReq.{PartReq, none}
use Rattle.part.specs.Store.{top, part}
use Rattle.part.specs.Ascending.{Ascending}
use Rattle.clearance.specs.Shape.{under}
use Rattle.clearance.specs.Scope.{Scope, expressions_of}
use Rattle.clearance.specs.Needs.{Ask, of_value}
use Rattle.pass.specs.Pass.{Carried, Passed, part_of, asking}
use Rattle.asked.specs.Within.{wanted, Within}
use Rattle.framed.specs.Given.{Read, Judged}
use Rattle.framed.specs.Kept.{Kept, AskFine}
use Rattle.hold.specs.Hold.{held_by, in_slot, Live, Reach}
use Rattle.standing.specs.Slots.{Ready}
use Rattle.standing.specs.Standing.{passed_by}

-- From s and rs, t and us were left: the last of n slots has the needs by f, or r is false, and the bound was passed. The others mean what they meant.
pub record Asks (S : Scope) (f : List PartReq → PartReq → Carried → Passed) (s rs : List ℕ) (n : ℕ) (t us : List ℕ) (r : Bool) : Type 0 where
  pub cells : length t ≡ length s
  pub slots : length us ≡ length rs
  pub live : r ≡ true → Live t us n
  pub kept : r ≡ true → (j : ℕ) → j + 1 < n → in_slot t us j ≡ in_slot s rs j
  pub need : r ≡ true → Kept S (in_slot t us (n - 1))
  pub is : (aside : List PartReq) (c : Carried) → Reach (held_by s rs n) (in_slot s rs (n - 1) ∷ (aside ++ c.table)) →
      f aside (in_slot s rs (n - 1)) c ≡ passed_by r c (in_slot t us (n - 1))

-- what the ask of the part a at the path q is given: needs at hand, a piece, two slots more, and a path that a step has room for
pub record AskGiven (s rs : List ℕ) (n : ℕ) (q : List ℕ) (a : ℕ) : Type 0 where
  pub live : Live s rs n
  pub hand : 0 < n
  pub spare : n + 2 ≤ length rs
  pub piece : a < top s
  pub short : length q ≤ 1026

-- an ask, as a step from the needs at hand
abbrev pub step_of : Scope → Ask → List PartReq → PartReq → Carried → Passed
step_of S x aside m c = asking S aside x m c

-- the ask x adds the part p at the path q, if anything of it is wanted
pub record Adds (S : Scope) (x : Ask) (q : List ℕ) (p : PartReq) : Type 0 where
  pub is : part_of S x ≡ cond (wanted p) (under q p) none
  pub fine : AskFine x

-- one ask, whichever it is, that adds the part p at the path q
pub record AsksAt (q : List ℕ) (p : PartReq) (s rs : List ℕ) (n : ℕ) (t us : List ℕ) (r : Bool) : Type 0 where
  pub each : (S : Scope) (x : Ask) → Adds S x q p → Kept S (in_slot s rs (n - 1)) → Asks S (step_of S x) s rs n t us r

-- what the ask of the part a of the value v is given
pub record ValueGiven (S : Scope) (s rs : List ℕ) (n v a : ℕ) : Type 0 where
  pub read : Read S
  pub judged : Judged S
  pub live : Live s rs n
  pub hand : 0 < n
  pub spare : n + 2 ≤ length rs
  pub need : Kept S (in_slot s rs (n - 1))
  pub piece : a < top s
  pub ascends : Ascending (part s a)
  pub within : Within S (of_value v (part s a))

-- what a step is given that asks of the value v
pub record StepGiven (S : Scope) (s rs : List ℕ) (n v : ℕ) : Type 0 where
  pub read : Read S
  pub judged : Judged S
  pub ready : Ready S s rs n
  pub spare : n + 2 ≤ length rs
  pub there : v < length (expressions_of S)
