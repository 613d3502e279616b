-- The loop keeps within the input, and each turn leaves less of it.
use Rattle.std.proofs.Common.{length, ◌-◌, ◌≤◌}
use Rattle.report.proofs.read_input.Given as goal

abbrev pub invariant-loop-done : goal.invariant-loop-done
invariant-loop-done g l = l.done ≤ length l.input

abbrev pub decreases-loop-done : goal.decreases-loop-done
decreases-loop-done g l = length l.initial.input - l.done
