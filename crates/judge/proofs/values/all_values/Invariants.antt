-- `judge::values::all_values` meets its contract. The invariant: the first i are values.
use Prim.Native.Nat.{◌+◌}
use Rattle.access.specs.Access.{operand_at}
use Rattle.clearance.specs.Judged.{is_value}
use Rattle.judge.specs.Given.{scope_at}
use Rattle.judge.proofs.ValueRows.{Each}
use Rattle.judge.proofs.values.all_values.Given as goal

abbrev pub invariant-loop-i : goal.invariant-loop-i
invariant-loop-i l = Each (λ k. is_value (scope_at l.file.bytes l.file.t l.f.0) (operand_at l.file.bytes l.row (1 + k))) l.i
