-- The proof of the cycle of calls {quiet_block, quiet_cases, quiet_statement}: the block's number falls, and a statement and a switch's cases stand
-- between. The loops' invariants: what is left says the whole.
use Prim.Native.Nat.{◌-◌}
use mathlib.Core.Path.{◌∙◌}
use borrow.Author.Rules.{rules}
use Rattle.strays.specs.Exits.{exits_of}
use Rattle.strays.proofs.Found.{in_function, statement_in, statement_small, there, block_low, accept_low, reject_low, body_low, continuing_low, cases_in, case_there}
use Rattle.strays.proofs.Allowed.{case_is, body_is}
use Rattle.quiet.specs.Acts.{needed_by}
use Rattle.quiet.proofs.Steps.{at_first, stops, goes_on, ends, is_last, statement_first, no_statement, all_statements, case_first, no_case, all_cases, quiet_inner, quiet_if, quiet_loop, quiet_switch}
use native.Mathlib.Omega.{arith}
use Rattle.quiet.proofs.blocks.+quiet_block_quiet_cases_quiet_statement.Goals as goal

pub quiet_block-loop-k-init : goal.quiet_block-loop-k-init
quiet_block-loop-k-init t c = all_statements c.requires.block_of _ _ _ c.block-range.ensures

pub quiet_block-overflow_add-first : goal.quiet_block-overflow_add-first
quiet_block-overflow_add-first t c =
    omega (arith, statement_small (statement_in c.requires.block_of _ c.loop-k.k c.block-range.ensures c.loop-k-test.true))

pub quiet_block-quiet_statement-requires : goal.quiet_block-quiet_statement-requires
quiet_block-quiet_statement-requires t c =
    (omega (arith, c.decreases), (c.requires.needing, (omega (arith, c.loop-k.invariant.long, c.requires.f_in_bounds), statement_in c.requires.block_of _ _ c.block-range.ensures c.loop-k-test.true)))

pub quiet_block-shape_of-path-then-not-quiet_statement : goal.quiet_block-shape_of-path-then-not-quiet_statement
quiet_block-shape_of-path-then-not-quiet_statement t c = c.quiet_statement.ensures.long ∙ c.loop-k.invariant.long

pub quiet_block-returns-then-not-quiet_statement : goal.quiet_block-returns-then-not-quiet_statement
quiet_block-returns-then-not-quiet_statement t c =
    stops c.loop-k.invariant (statement_first _ _ _ _ _ _ c.loop-k-test.true) c.quiet_statement.ensures c.if-not-quiet_statement.true

pub quiet_block-loop-k-preserved : goal.quiet_block-loop-k-preserved
quiet_block-loop-k-preserved t c =
    goes_on c.loop-k.invariant (statement_first _ _ _ _ _ _ c.loop-k-test.true) c.quiet_statement.ensures c.if-not-quiet_statement.false

pub quiet_block-shape_of-path : goal.quiet_block-shape_of-path
quiet_block-shape_of-path t c = c.loop-k.invariant.long

pub quiet_block-returns : goal.quiet_block-returns
quiet_block-returns t c = ends c.loop-k.invariant (no_statement _ _ _ _ _ _ c.loop-k-test.false)

pub quiet_cases-loop-i-init : goal.quiet_cases-loop-i-init
quiet_cases-loop-i-init t c =
    all_cases c.requires.cases_in (needed_by c.args.need.now) (exits_of c.args.e) c.operand-n.ensures _

pub quiet_cases-quiet_block-requires : goal.quiet_cases-quiet_block-requires
quiet_cases-quiet_block-requires t c =
    let h = case_there c.requires.cases_in (c.loop-i.i - 1) (omega (arith, c.loop-i.auto.i, c.operand-n.ensures, c.loop-i-test.true)) c.block_operand-case.ensures in (omega (arith, h.0, c.decreases), (c.requires.needing, (omega (arith, c.loop-i.invariant.long, c.requires.f_in_bounds), h.1)))

pub quiet_cases-shape_of-path-then-not-quiet_block : goal.quiet_cases-shape_of-path-then-not-quiet_block
quiet_cases-shape_of-path-then-not-quiet_block t c = c.quiet_block.ensures.long ∙ c.loop-i.invariant.long

pub quiet_cases-returns-then-not-quiet_block : goal.quiet_cases-returns-then-not-quiet_block
quiet_cases-returns-then-not-quiet_block t c =
    stops c.loop-i.invariant (case_first c.requires.cases_in (needed_by c.args.need.now) (exits_of c.args.e) c.loop-i-test.true c.block_operand-case.ensures) c.quiet_block.ensures c.if-not-quiet_block.true

pub quiet_cases-loop-i-preserved : goal.quiet_cases-loop-i-preserved
quiet_cases-loop-i-preserved t c =
    goes_on c.loop-i.invariant (case_first c.requires.cases_in (needed_by c.args.need.now) (exits_of c.args.e) c.loop-i-test.true c.block_operand-case.ensures) c.quiet_block.ensures c.if-not-quiet_block.false

pub quiet_cases-shape_of-path : goal.quiet_cases-shape_of-path
quiet_cases-shape_of-path t c = c.loop-i.invariant.long

pub quiet_cases-returns : goal.quiet_cases-returns
quiet_cases-returns t c =
    ends c.loop-i.invariant (no_case c.requires.cases_in (needed_by c.args.need.now) (exits_of c.args.e) (omega (arith, c.loop-i-test.false)))

pub quiet_statement-quiet_block-requires : goal.quiet_statement-quiet_block-requires
quiet_statement-quiet_block-requires t c =
    let h = there c.requires.statement_in c.statement-row.ensures 0 c.block_operand-inner.ensures (block_low c.requires.statement_in c.statement-row.ensures (search rules)) in (omega (arith, h.0, c.decreases), (c.requires.needing, (c.requires.f_in_bounds, h.1)))

pub quiet_statement-returns-in-Ok-Block : goal.quiet_statement-returns-in-Ok-Block
quiet_statement-returns-in-Ok-Block t c =
    is_last (quiet_inner c.requires.statement_in c.statement-row.ensures _ _ (search rules) c.block_operand-inner.ensures _) c.quiet_block.ensures

pub quiet_statement-quiet_block-requires-in-Ok-If : goal.quiet_statement-quiet_block-requires-in-Ok-If
quiet_statement-quiet_block-requires-in-Ok-If t c =
    let h = there c.requires.statement_in c.statement-row.ensures 1 c.block_operand-accept.ensures (accept_low c.requires.statement_in c.statement-row.ensures (search rules)) in (omega (arith, h.0, c.decreases), (c.requires.needing, (c.requires.f_in_bounds, h.1)))

pub quiet_statement-quiet_block-requires-then-quiet_block : goal.quiet_statement-quiet_block-requires-then-quiet_block
quiet_statement-quiet_block-requires-then-quiet_block t c =
    let h = there c.requires.statement_in c.statement-row.ensures 2 c.block_operand-reject.ensures (reject_low c.requires.statement_in c.statement-row.ensures (search rules)) in (omega (arith, h.0, c.decreases), (c.requires.needing, (omega (arith, c.quiet_block-in-Ok-If.ensures.long, c.requires.f_in_bounds), h.1)))

pub quiet_statement-returns-else-quiet_block : goal.quiet_statement-returns-else-quiet_block
quiet_statement-returns-else-quiet_block t c =
    rw c.if-quiet_block.false (stops (at_first _ _) (quiet_if c.requires.statement_in c.statement-row.ensures _ _ (search rules) c.block_operand-accept.ensures c.block_operand-reject.ensures) c.quiet_block-in-Ok-If.ensures c.if-quiet_block.false)

pub quiet_statement-returns-then-quiet_block : goal.quiet_statement-returns-then-quiet_block
quiet_statement-returns-then-quiet_block t c =
    is_last (goes_on (at_first _ _) (quiet_if c.requires.statement_in c.statement-row.ensures _ _ (search rules) c.block_operand-accept.ensures c.block_operand-reject.ensures) c.quiet_block-in-Ok-If.ensures c.if-quiet_block.true) c.quiet_block-then-quiet_block.ensures

pub quiet_statement-quiet_cases-requires : goal.quiet_statement-quiet_cases-requires
quiet_statement-quiet_cases-requires t c =
    (omega (arith, c.decreases), (c.requires.needing, (c.requires.f_in_bounds, cases_in c.requires.statement_in c.statement-row.ensures (search rules))))

pub quiet_statement-returns-in-Ok-Switch : goal.quiet_statement-returns-in-Ok-Switch
quiet_statement-returns-in-Ok-Switch t c =
    is_last (quiet_switch c.requires.statement_in c.statement-row.ensures _ _ (search rules) (case_is _ c.in_case-x.ensures) _) c.quiet_cases.ensures

pub quiet_statement-quiet_block-requires-in-Ok-Loop : goal.quiet_statement-quiet_block-requires-in-Ok-Loop
quiet_statement-quiet_block-requires-in-Ok-Loop t c =
    let h = there c.requires.statement_in c.statement-row.ensures 0 c.block_operand-body.ensures (body_low c.requires.statement_in c.statement-row.ensures (search rules)) in (omega (arith, h.0, c.decreases), (c.requires.needing, (c.requires.f_in_bounds, h.1)))

pub quiet_statement-quiet_block-requires-then-quiet_block-2 : goal.quiet_statement-quiet_block-requires-then-quiet_block-2
quiet_statement-quiet_block-requires-then-quiet_block-2 t c =
    let h = there c.requires.statement_in c.statement-row.ensures 1 c.block_operand-last.ensures (continuing_low c.requires.statement_in c.statement-row.ensures (search rules)) in (omega (arith, h.0, c.decreases), (c.requires.needing, (omega (arith, c.quiet_block-in-Ok-Loop.ensures.long, c.requires.f_in_bounds), h.1)))

pub quiet_statement-returns-else-quiet_block-2 : goal.quiet_statement-returns-else-quiet_block-2
quiet_statement-returns-else-quiet_block-2 t c =
    rw c.if-quiet_block-2.false (stops (at_first _ _) (quiet_loop c.requires.statement_in c.statement-row.ensures _ _ (search rules) c.block_operand-body.ensures (body_is _ c.in_body-x.ensures) c.block_operand-last.ensures (case_is _ c.in_case-y.ensures)) c.quiet_block-in-Ok-Loop.ensures c.if-quiet_block-2.false)

pub quiet_statement-returns-then-quiet_block-2 : goal.quiet_statement-returns-then-quiet_block-2
quiet_statement-returns-then-quiet_block-2 t c =
    is_last (goes_on (at_first _ _) (quiet_loop c.requires.statement_in c.statement-row.ensures _ _ (search rules) c.block_operand-body.ensures (body_is _ c.in_body-x.ensures) c.block_operand-last.ensures (case_is _ c.in_case-y.ensures)) c.quiet_block-in-Ok-Loop.ensures c.if-quiet_block-2.true) c.quiet_block-then-quiet_block-2.ensures

pub quiet_statement-quiet_plain-requires-clause-s_in_bounds : goal.quiet_statement-quiet_plain-requires-clause-s_in_bounds
quiet_statement-quiet_plain-requires-clause-s_in_bounds t c =
    in_function c.requires.statement_in

pub quiet_statement-returns-in_default : goal.quiet_statement-returns-in_default
quiet_statement-returns-in_default t c =
    c.quiet_plain.ensures c.args.b.0
