-- The proof of the cycle of calls over blocks, statements and what they hold: the block's number falls. Each member's steps stand in a file of laws: Statements, Holders, Ifs, Switches, Loops.
use Prim.Native.Nat.{◌+◌, ◌*◌}
use Rattle.module.specs.Tables.{function_of}
use Rattle.access.specs.Access.{operand_at}
use Rattle.judge.specs.Given.{scope_at}
use Rattle.backward.specs.Course.{case_block}
use Rattle.standing.specs.Passing.{going}
use Rattle.backward.proofs.Statements.{Later}
use Rattle.backward.proofs.Switches.{Union}
use Rattle.backward.proofs.blocks.+blocks.Given as goal

abbrev pub invariant-pass_block-loop-k : goal.invariant-pass_block-loop-k
invariant-pass_block-loop-k l = Later l.marked.subject.now.file.now.bytes l.marked.subject.now.file.now.t l.marked.subject.now.f.0 l.b.0 l.marked.marks.now l.initial.cells l.initial.slots l.initial.path l.n l.x (going l.initial.q) l.first l.initial.k l.k l.cells l.slots l.path (going l.q)

abbrev pub invariant-pass_cases-loop-i : goal.invariant-pass_cases-loop-i
invariant-pass_cases-loop-i l = Union (scope_at l.statement.marked.now.subject.now.file.now.bytes l.statement.marked.now.subject.now.file.now.t l.statement.marked.now.subject.now.f.0) l.i (case_block (function_of l.statement.marked.now.subject.now.file.now.bytes l.statement.marked.now.subject.now.file.now.t l.statement.marked.now.subject.now.f.0) l.statement.marked.now.marks.now (operand_at l.statement.marked.now.subject.now.file.now.bytes l.statement.row)) l.initial.cells l.initial.slots l.n l.x (going l.initial.q) l.cells l.slots l.initial.path l.path (going l.q)

abbrev pub decreases-pass_around : goal.decreases-pass_around
decreases-pass_around l = 8 * l.b.0 + 8

abbrev pub decreases-pass_bare : goal.decreases-pass_bare
decreases-pass_bare l = 8 * l.statement.now.b.0 + 4

abbrev pub decreases-pass_block : goal.decreases-pass_block
decreases-pass_block l = 8 * l.b.0 + 7

abbrev pub decreases-pass_cases : goal.decreases-pass_cases
decreases-pass_cases l = 8 * l.statement.now.b.0 + 2

abbrev pub decreases-pass_holder : goal.decreases-pass_holder
decreases-pass_holder l = 8 * l.statement.now.b.0 + 5

abbrev pub decreases-pass_if : goal.decreases-pass_if
decreases-pass_if l = 8 * l.statement.now.b.0 + 3

abbrev pub decreases-pass_loop : goal.decreases-pass_loop
decreases-pass_loop l = 8 * l.statement.now.b.0 + 3

abbrev pub decreases-pass_statement : goal.decreases-pass_statement
decreases-pass_statement l = 8 * l.b.0 + 6

abbrev pub decreases-pass_switch : goal.decreases-pass_switch
decreases-pass_switch l = 8 * l.statement.now.b.0 + 3
