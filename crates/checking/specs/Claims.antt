-- What a sheet's reader is told: the claim of a check that answers clear, about the bytes that were checked.
use Rattle.std.specs.Prelude.{ℕ, ◌≡◌, List}
use Rattle.std.proofs.Math.Option.{some}
use Rattle.clearance.specs.Scope.{Scope, Place}
use Rattle.clearance.specs.Verdict.{Request, Report}
use Rattle.clearance.specs.Run.{State, Operators, Mode, run}
use Rattle.clearance.specs.Claim.{ByComponent, Changed, Required}
use Rattle.checking.specs.Check.{means, meaning}

-- The bytes mean a function, a request, and marks with a context. For operators that are by component where the rules say so: two runs of the function that end, each of all statements
-- or of the marked ones alone, from starts that differ by any list of changes to unneeded input parts, give the same required outputs.
pub record CheckedClaims (file request report context : List ℕ) : Type 0 where
  pub scope : Scope
  pub asked : Request
  pub judged : Report
  pub meant : meaning file request report context ≡ means scope asked judged
  pub same : (ops : Operators) → ByComponent scope ops →
      (a b : State) → Changed judged a b →
      (one other : Mode) (m n : ℕ) (s t : State) → run scope judged ops one m a ≡ some s → run scope judged ops other n b ≡ some t →
      (p : Place) → Required scope asked p → s p ≡ t p
