-- The proof of the cycle of calls {stray_block, stray_cases, stray_statement}: the block's number falls, and a statement and a switch's cases stand
-- between. The loops' invariants: what is passed, with what was found before, is found.
use Prim.Native.Nat.{◌+◌, ◌*◌}
use Rattle.module.specs.Tables.{function_of}
use Rattle.access.specs.Access.{operand_at}
use Rattle.judge.specs.Blamed.{blamed}
use Rattle.strays.specs.Exits.{exits_of}
use Rattle.strays.specs.Places.{stray_cases}
use Rattle.strays.proofs.Steps.{Lowers, later}
use Rattle.strays.proofs.blocks.+stray_block_stray_cases_stray_statement.Given as goal

abbrev pub invariant-stray_block-loop-k : goal.invariant-stray_block-loop-k
invariant-stray_block-loop-k l = Lowers (later (function_of l.file.bytes l.file.t l.f.0) l.b.0 l.first l.initial.k (exits_of l.e) l.k) (blamed l.initial.low) (blamed l.low)

abbrev pub invariant-stray_cases-loop-i : goal.invariant-stray_cases-loop-i
invariant-stray_cases-loop-i l = Lowers (stray_cases (function_of l.file.bytes l.file.t l.f.0) (operand_at l.file.bytes l.row) l.i (exits_of l.e)) (blamed l.initial.low) (blamed l.low)

abbrev pub decreases-stray_block : goal.decreases-stray_block
decreases-stray_block l = 3 * l.b.0 + 2

abbrev pub decreases-stray_cases : goal.decreases-stray_cases
decreases-stray_cases l = 3 * l.b.0

abbrev pub decreases-stray_statement : goal.decreases-stray_statement
decreases-stray_statement l = 3 * l.b.0 + 1
