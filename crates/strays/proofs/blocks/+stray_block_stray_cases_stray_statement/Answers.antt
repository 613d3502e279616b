-- The proof of the cycle of calls {stray_block, stray_cases, stray_statement}: the block's number falls, and a statement and a switch's cases stand
-- between. The loops' invariants: what is passed, with what was found before, is found.
use Prim.Native.Nat.{◌-◌}
use borrow.Author.Rules.{rules}
use mathlib.Core.Path.{refl}
use Rattle.strays.specs.Exits.{exits_of}
use Rattle.strays.proofs.Allowed.{case_is, body_is}
use Rattle.strays.proofs.Found.{statement_in, statement_small, there, block_low, accept_low, reject_low, body_low, continuing_low, cases_in}
use Rattle.strays.proofs.Steps.{no_case, next_case, no_statement, next_statement, all_statements, stray-block, stray_if, stray_switch, stray_loop, stray_continue, stray_return, stray_break, stray_silent}
use native.Mathlib.Omega.{arith}
use Rattle.strays.proofs.blocks.+stray_block_stray_cases_stray_statement.Goals as goal

pub stray_block-loop-k-init : goal.stray_block-loop-k-init
stray_block-loop-k-init t c = no_statement _ _ _ _ _ _ _ refl

pub stray_block-overflow_add-first : goal.stray_block-overflow_add-first
stray_block-overflow_add-first t c =
    omega (arith, statement_small (statement_in c.requires _ (c.loop-k.k - 1) c.block-range.ensures (omega (arith, c.loop-k.auto.k, c.loop-k-test.true))))

pub stray_block-loop-k-preserved : goal.stray_block-loop-k-preserved
stray_block-loop-k-preserved t c =
    next_statement _ _ _ _ _ _ c.loop-k.k _ _ _ c.loop-k.auto.k (omega (arith, c.loop-k-test.true)) c.loop-k.invariant c.stray_statement-low.ensures

pub stray_block-returns : goal.stray_block-returns
stray_block-returns t c =
    all_statements c.requires _ _ _ _ c.loop-k.k c.block-range.ensures (omega (arith, c.loop-k-test.false)) c.loop-k.invariant

pub stray_cases-loop-i-init : goal.stray_cases-loop-i-init
stray_cases-loop-i-init t c = no_case c.requires (exits_of c.args.e) _

pub stray_cases-loop-i-preserved : goal.stray_cases-loop-i-preserved
stray_cases-loop-i-preserved t c =
    next_case c.requires (exits_of c.args.e) _ c.loop-i.i _ _ c.loop-i.invariant c.block_operand.ensures c.stray_block-low.ensures

pub stray_statement-stray_block-requires : goal.stray_statement-stray_block-requires
stray_statement-stray_block-requires t c =
    let h = there c.requires c.statement-row.ensures 0 c.block_operand.ensures (block_low c.requires c.statement-row.ensures (search rules)) in (omega (arith, h.0, c.decreases), h.1)

pub stray_statement-returns-in-Ok-Block : goal.stray_statement-returns-in-Ok-Block
stray_statement-returns-in-Ok-Block t c = stray-block c.requires c.statement-row.ensures _ _ _ (search rules) c.block_operand.ensures c.stray_block.ensures

pub stray_statement-stray_block-rejected-requires : goal.stray_statement-stray_block-rejected-requires
stray_statement-stray_block-rejected-requires t c =
    let h = there c.requires c.statement-row.ensures 2 c.block_operand-in-Ok-If.ensures (reject_low c.requires c.statement-row.ensures (search rules)) in (omega (arith, h.0, c.decreases), h.1)

pub stray_statement-stray_block-requires-in-Ok-If : goal.stray_statement-stray_block-requires-in-Ok-If
stray_statement-stray_block-requires-in-Ok-If t c =
    let h = there c.requires c.statement-row.ensures 1 c.block_operand-in-Ok-If-2.ensures (accept_low c.requires c.statement-row.ensures (search rules)) in (omega (arith, h.0, c.decreases), h.1)

pub stray_statement-returns-in-Ok-If : goal.stray_statement-returns-in-Ok-If
stray_statement-returns-in-Ok-If t c = stray_if c.requires c.statement-row.ensures _ _ _ _ (search rules) c.block_operand-in-Ok-If.ensures c.stray_block-rejected.ensures c.block_operand-in-Ok-If-2.ensures c.stray_block-in-Ok-If.ensures

pub stray_statement-stray_cases-requires : goal.stray_statement-stray_cases-requires
stray_statement-stray_cases-requires t c = (omega (arith, c.decreases), cases_in c.requires c.statement-row.ensures (search rules))

pub stray_statement-returns-in-Ok-Switch : goal.stray_statement-returns-in-Ok-Switch
stray_statement-returns-in-Ok-Switch t c = stray_switch c.requires c.statement-row.ensures _ _ _ (search rules) (case_is _ c.in_case.ensures) c.stray_cases.ensures

pub stray_statement-stray_block-continuing-requires : goal.stray_statement-stray_block-continuing-requires
stray_statement-stray_block-continuing-requires t c =
    let h = there c.requires c.statement-row.ensures 1 c.block_operand-last.ensures (continuing_low c.requires c.statement-row.ensures (search rules)) in (omega (arith, h.0, c.decreases), h.1)

pub stray_statement-stray_block-requires-in-Ok-Loop : goal.stray_statement-stray_block-requires-in-Ok-Loop
stray_statement-stray_block-requires-in-Ok-Loop t c =
    let h = there c.requires c.statement-row.ensures 0 c.block_operand-body.ensures (body_low c.requires c.statement-row.ensures (search rules)) in (omega (arith, h.0, c.decreases), h.1)

pub stray_statement-returns-in-Ok-Loop : goal.stray_statement-returns-in-Ok-Loop
stray_statement-returns-in-Ok-Loop t c = stray_loop c.requires c.statement-row.ensures _ _ _ _ (search rules) c.block_operand-last.ensures c.none.ensures c.stray_block-continuing.ensures c.block_operand-body.ensures (body_is _ c.in_body.ensures) c.stray_block-in-Ok-Loop.ensures

pub stray_statement-returns-in-Ok-Continue : goal.stray_statement-returns-in-Ok-Continue
stray_statement-returns-in-Ok-Continue t c = stray_continue c.requires c.statement-row.ensures _ _ _ (search rules) c.lower_unless.ensures

pub stray_statement-returns-in-Ok-Return : goal.stray_statement-returns-in-Ok-Return
stray_statement-returns-in-Ok-Return t c = stray_return c.requires c.statement-row.ensures _ _ _ (search rules) c.lower_unless-in-Ok-Return.ensures

pub stray_statement-returns-in-Ok : goal.stray_statement-returns-in-Ok
stray_statement-returns-in-Ok t c = stray_silent c.requires c.statement-row.ensures _ _ _ (λ l. search (rules, l)) (search rules) refl

pub stray_statement-returns-in-Ok-Break : goal.stray_statement-returns-in-Ok-Break
stray_statement-returns-in-Ok-Break t c = stray_break c.requires c.statement-row.ensures _ _ _ (λ l. search (rules, l)) c.lower_unless-in-Ok-Break.ensures
