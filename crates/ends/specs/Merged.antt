-- The last two of n + 1 slots become one, which has the sum of the slots i and j; or the bound was passed. And the end of a loop, in every scope.
use Rattle.std.specs.Prelude.{ℕ, ◌+◌, ◌-◌, ◌<◌, ◌≤◌, ◌≡◌, Bool, true, not, List, ◌∷◌, ltb, length}
use Rattle.std.proofs.Math.Option.{Option}
use Rattle.part.specs.PartReq.{add}
use Rattle.part.specs.Collect.{cells_of}
use Rattle.valid.specs.Valid.{MaybeBelow}
use Rattle.clearance.specs.Scope.{Scope, expressions_of}
use Rattle.framed.specs.Given.{Read, Judged}
use Rattle.pass.specs.Pass.{work_bound}
use Rattle.hold.specs.Hold.{held_by, in_slot, Live}
use Rattle.standing.specs.Slots.{table_size, stack_slot, Ready}
use Rattle.standing.specs.Standing.{Entered}
use Rattle.standing.specs.Passing.{Passing}

pub record Merged (s rs : List ℕ) (n i j : ℕ) (t us : List ℕ) (r : Bool) : Type 0 where
  pub cells : length t ≡ length s
  pub slots : length us ≡ length rs
  pub live : r ≡ true → Live t us n
  pub kept : r ≡ true → (l : ℕ) → l + 1 < n → in_slot t us l ≡ in_slot s rs l
  pub hand : r ≡ true → in_slot t us (n - 1) ≡ add (in_slot s rs i) (in_slot s rs j)
  pub is : r ≡ not (ltb work_bound (cells_of (add (in_slot s rs i) (in_slot s rs j) ∷ held_by s rs (n + 1))))

pub record LoopEnds (l : ℕ) (s rs : List ℕ) (n : ℕ) (p : Passing) (t us : List ℕ) (q : Passing) : Type 0 where
  pub is : (S : Scope) → Ready S s rs (n + 1 + 1) → Entered S l s rs n p t us q

-- what the end of an if or of a switch is given, that asks of its condition e: two slots that are to become one
pub record EndGiven (S : Scope) (s rs : List ℕ) (n e : ℕ) : Type 0 where
  pub read : Read S
  pub judged : Judged S
  pub ready : Ready S s rs (n + 1)
  pub high : stack_slot < n
  pub spare : n + 2 ≤ length rs
  pub there : e < length (expressions_of S)

-- what the beginning of the loop l is given, with the number of its `break_if`
pub record BeginGiven (S : Scope) (l : ℕ) (s rs : List ℕ) (n : ℕ) (e : Option ℕ) : Type 0 where
  pub read : Read S
  pub judged : Judged S
  pub ready : Ready S s rs n
  pub low : l < table_size
  pub spare : n + 3 ≤ length rs
  pub there : MaybeBelow (length (expressions_of S)) e
