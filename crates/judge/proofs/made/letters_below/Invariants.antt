-- `judge::made::letters_below` meets its contract. The invariant: the first i are below n.
use Prim.Native.Nat.{◌+◌}
use lib.Dec.{ltb}
use Rattle.access.specs.Access.{operand_at}
use Rattle.judge.proofs.ValueRows.{Each}
use Rattle.judge.proofs.made.letters_below.Given as goal

abbrev pub invariant-loop-i : goal.invariant-loop-i
invariant-loop-i l = Each (λ k. ltb (operand_at l.file.bytes l.row (2 + k)) l.n) l.i
