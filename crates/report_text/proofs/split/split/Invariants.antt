-- `report_text::split::split` meets its contract. Up to `at` there is no request.
use Prim.Native.Nat.{◌-◌}
use lib.ListN.{length}
use Rattle.report_text.proofs.Splitting.{Passed}
use Rattle.report_text.proofs.split.split.Given as goal

abbrev pub invariant-loop-at : goal.invariant-loop-at
invariant-loop-at l = Passed l.input l.at

abbrev pub decreases-loop-at : goal.decreases-loop-at
decreases-loop-at l = length l.input - l.at
