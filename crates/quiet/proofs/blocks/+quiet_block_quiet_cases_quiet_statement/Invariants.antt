-- The proof of the cycle of calls {quiet_block, quiet_cases, quiet_statement}: the block's number falls, and a statement and a switch's cases stand
-- between. The loops' invariants: what is left says the whole.
use Prim.Native.Nat.{◌+◌, ◌*◌}
use Rattle.access.specs.Access.{operand_at}
use Rattle.judge.specs.Subject.{scope_of}
use Rattle.strays.specs.Exits.{exits_of}
use Rattle.quiet.specs.Acts.{needed_by}
use Rattle.quiet.specs.Places.{quiet_block, quiet_cases}
use Rattle.quiet.proofs.Steps.{Left, later}
use Rattle.quiet.proofs.blocks.+quiet_block_quiet_cases_quiet_statement.Given as goal

abbrev pub invariant-quiet_block-loop-k : goal.invariant-quiet_block-loop-k
invariant-quiet_block-loop-k l = Left (quiet_block (scope_of l.need.subject.now) (needed_by l.need) l.b.0 (exits_of l.e)) (later (scope_of l.need.subject.now) (needed_by l.need) l.b.0 l.first l.k-end (exits_of l.e) l.k) l.initial.path l.path

abbrev pub invariant-quiet_cases-loop-i : goal.invariant-quiet_cases-loop-i
invariant-quiet_cases-loop-i l = Left (quiet_cases (scope_of l.need.subject.now) (needed_by l.need) (operand_at l.need.subject.now.file.now.bytes l.row) (operand_at l.need.subject.now.file.now.bytes l.row 1) (exits_of l.e)) (quiet_cases (scope_of l.need.subject.now) (needed_by l.need) (operand_at l.need.subject.now.file.now.bytes l.row) l.i (exits_of l.e)) l.initial.path l.path

abbrev pub decreases-quiet_block : goal.decreases-quiet_block
decreases-quiet_block l = 3 * l.b.0 + 2

abbrev pub decreases-quiet_cases : goal.decreases-quiet_cases
decreases-quiet_cases l = 3 * l.b.0

abbrev pub decreases-quiet_statement : goal.decreases-quiet_statement
decreases-quiet_statement l = 3 * l.b.0 + 1
