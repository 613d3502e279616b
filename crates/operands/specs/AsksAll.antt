-- A list of asks in memory, the last first: what they are given, and what they leave in the slots, by the definition's `asking_all`. The slot before the last
-- has the part that is needed of an expression, and it stays.
use Rattle.std.specs.Prelude.{ℕ, ◌+◌, ◌-◌, ◌<◌, ◌≤◌, ◌≡◌, Bool, true, List, ◌++◌, length}
use Rattle.part.specs.PartReq.{PartReq}
use Rattle.clearance.specs.Scope.{Scope}
use Rattle.clearance.specs.Needs.{Ask}
use Rattle.pass.specs.Pass.{Carried, asking_all}
use Rattle.asked.specs.Within.{EachWithin}
use Rattle.framed.specs.Given.{Read, Judged}
use Rattle.framed.specs.Kept.{Kept, AsksFine}
use Rattle.hold.specs.Hold.{held_by, in_slot, Live, Reach}
use Rattle.standing.specs.Standing.{passed_by}

-- the part that is needed
abbrev pub wanted_in : List ℕ → List ℕ → ℕ → PartReq
wanted_in s rs n = in_slot s rs (n - 2)

pub record ListGiven (S : Scope) (xs : List Ask) (s rs : List ℕ) (n : ℕ) : Type 0 where
  pub read : Read S
  pub judged : Judged S
  pub live : Live s rs n
  pub two : 2 ≤ n
  pub spare : n + 2 ≤ length rs
  pub need : Kept S (in_slot s rs (n - 1))
  pub within : EachWithin S xs
  pub fine : AsksFine xs

-- From s and rs, t and us were left: the last of n slots has the needs with what xs ask, or r is false, and the bound was passed. The others mean what they
-- meant. Kept aside is what reaches the cells of the others, so that one ask can follow another.
pub record AsksAll (S : Scope) (xs : List Ask) (s rs : List ℕ) (n : ℕ) (t us : List ℕ) (r : Bool) : Type 0 where
  pub cells : length t ≡ length s
  pub slots : length us ≡ length rs
  pub live : r ≡ true → Live t us n
  pub kept : r ≡ true → (j : ℕ) → j + 1 < n → in_slot t us j ≡ in_slot s rs j
  pub need : r ≡ true → Kept S (in_slot t us (n - 1))
  pub is : (aside : List PartReq) (c : Carried) → Reach (held_by s rs (n - 1)) (aside ++ c.table) →
      asking_all S aside xs (in_slot s rs (n - 1)) c ≡ passed_by r c (in_slot t us (n - 1))
