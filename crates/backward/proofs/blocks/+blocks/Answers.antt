-- The proof of the cycle of calls over blocks, statements and what they hold: the block's number falls. Each member's steps stand in a file of laws: Statements, Holders, Ifs, Switches, Loops.
use Prim.Native.Nat.{◌-◌}
use borrow.Author.Rules.{rules}
use mathlib.Core.Path.{refl}
use Rattle.strays.proofs.Found.{statement_in, statement_small, there, block_low}
use Rattle.backward.proofs.Statements.{around-full, around-on, no_statement, later_full, later_more, all_walked, row_in, inner_passes}
use Rattle.backward.proofs.Holders.{bare-if, bare-switch, bare-loop, first_there, holder_marked, holder_obeys, holder_full, holder_ends, holder_ends_full}
use Rattle.backward.proofs.Ifs.{reject_asks, if_rejected, accept_asks, if_accepted, if_end_asks, if_ends, if_ends_full}
use Rattle.backward.proofs.Switches.{no_case, case_asks, case_passes, case_more, case_ends_full, all_cases, cases_ask, switch_passes, switch_end_asks, switch-ends, switch_ends_full}
use Rattle.backward.proofs.Loops.{begin_asks, loop_begun_full, continuing_asks, loop_continuing, body_asks, loop_body, end_asks, loop_ends}
use native.Mathlib.Omega.{arith}
use Rattle.backward.proofs.blocks.+blocks.Goals as goal

pub pass_around-returns-in_err-q : goal.pass_around-returns-in_err-q
pass_around-returns-in_err-q t c =
    rw c.from_residual.ensures
    (around-full c.requires.course c.note-at.ensures c.in_err-q.ensures refl)

pub pass_around-returns : goal.pass_around-returns
pass_around-returns t c =
    around-on c.requires.course c.note-at.ensures c.in_ok-q.ensures refl c.note.ensures

pub pass_bare-returns-in-Ok-If : goal.pass_bare-returns-in-Ok-If
pass_bare-returns-in-Ok-If t c =
    bare-if c.requires.course c.args.statement.now.row_in c.args.statement.now.marked.now.marks.now (search rules) c.pass_if.ensures

pub pass_bare-returns-in-Ok-Switch : goal.pass_bare-returns-in-Ok-Switch
pass_bare-returns-in-Ok-Switch t c =
    bare-switch c.requires.course c.args.statement.now.row_in c.args.statement.now.marked.now.marks.now (search rules) c.pass_switch.ensures

pub pass_bare-returns-in_default : goal.pass_bare-returns-in_default
pass_bare-returns-in_default t c =
    bare-loop c.requires.course c.args.statement.now.row_in c.args.statement.now.marked.now.marks.now (search rules) (search rules) c.pass_loop.ensures

pub pass_block-loop-k-init : goal.pass_block-loop-k-init
pass_block-loop-k-init t c = no_statement c.requires.course c.args.b.0 c.args.marked.now.marks.now _ _ _ refl

pub pass_block-overflow_add-first : goal.pass_block-overflow_add-first
pass_block-overflow_add-first t c =
    omega (arith, statement_small (statement_in c.requires.block_of _ (c.loop-k.k - 1) c.block-range.ensures (omega (arith, c.loop-k.invariant.within))))

pub pass_block-returns-in_err-q : goal.pass_block-returns-in_err-q
pass_block-returns-in_err-q t c =
    rw c.from_residual.ensures
    (later_full c.requires.course c.loop-k.invariant c.note-at.ensures (c.loop-k.k - 1) (omega arith) c.in_err-q.ensures refl c.requires.block_of c.block-range.ensures refl refl)

pub pass_block-loop-k-preserved : goal.pass_block-loop-k-preserved
pass_block-loop-k-preserved t c =
    later_more c.requires.course c.loop-k.invariant c.note-at.ensures (c.loop-k.k - 1) (omega arith) c.in_ok-q.ensures refl

pub pass_block-returns : goal.pass_block-returns
pass_block-returns t c =
    all_walked c.requires.course c.loop-k.invariant c.requires.block_of c.block-range.ensures refl refl (omega arith)

pub pass_cases-loop-i-init : goal.pass_cases-loop-i-init
pass_cases-loop-i-init t c =
    no_case c.requires.course c.args.statement.now.row_in c.requires.kind_value c.args.statement.now.marked.now.marks.now c.requires.n_value

pub pass_cases-pass_around-requires : goal.pass_cases-pass_around-requires
pass_cases-pass_around-requires t c =
    let z = case_asks c.requires.course c.args.statement.now.row_in c.requires.kind_value c.args.statement.now.marked.now.marks.now c.requires.b_in_bounds _ c.loop-i.invariant (omega (arith, c.loop-i-test.true, c.operand-count.ensures)) c.copy.ensures c.block_operand-case.ensures in (omega (arith, z.0, c.decreases), z.1)

pub pass_cases-returns-in_err-q : goal.pass_cases-returns-in_err-q
pass_cases-returns-in_err-q t c =
    rw c.from_residual.ensures
    (case_passes c.requires.course c.args.statement.now.row_in c.requires.kind_value c.args.statement.now.marked.now.marks.now c.requires.b_in_bounds _ c.loop-i.invariant (omega (arith, c.loop-i-test.true, c.operand-count.ensures)) c.copy.ensures c.block_operand-case.ensures c.in_err-q.ensures refl)

pub pass_cases-returns-in_err-merge : goal.pass_cases-returns-in_err-merge
pass_cases-returns-in_err-merge t c =
    rw c.from_residual-in_err-merge.ensures
    (case_ends_full c.requires.course c.args.statement.now.row_in c.requires.kind_value c.args.statement.now.marked.now.marks.now c.requires.b_in_bounds _ c.loop-i.invariant (omega (arith, c.loop-i-test.true, c.operand-count.ensures)) c.copy.ensures c.block_operand-case.ensures c.in_ok-q.ensures refl c.in_err-merge.ensures refl refl)

pub pass_cases-loop-i-preserved : goal.pass_cases-loop-i-preserved
pass_cases-loop-i-preserved t c =
    case_more c.requires.course c.args.statement.now.row_in c.requires.kind_value c.args.statement.now.marked.now.marks.now c.requires.b_in_bounds _ c.loop-i.invariant (omega (arith, c.loop-i-test.true, c.operand-count.ensures)) c.copy.ensures c.block_operand-case.ensures c.in_ok-q.ensures refl c.in_ok-merge.ensures refl

pub pass_cases-returns : goal.pass_cases-returns
pass_cases-returns t c =
    all_cases c.requires.course c.args.statement.now.row_in c.requires.kind_value c.args.statement.now.marked.now.marks.now c.operand-count.ensures (omega (arith, c.operand-count.ensures)) c.loop-i.invariant

pub pass_holder-bounds-marked-s : goal.pass_holder-bounds-marked-s
pass_holder-bounds-marked-s t c =
    first_there c.requires.course c.args.statement.now.row_in c.args.statement.now.marked.now.marks.now c.requires.b_in_bounds c.requires.lt_kind

pub pass_holder-returns-then-mark_at : goal.pass_holder-returns-then-mark_at
pass_holder-returns-then-mark_at t c =
    holder_marked c.requires.course c.args.statement.now.row_in c.args.statement.now.marked.now.marks.now c.requires.b_in_bounds c.requires.lt_kind refl c.mark_at.ensures c.if-mark_at.true c.pass_bare.ensures

pub pass_holder-returns-then-obeys : goal.pass_holder-returns-then-obeys
pass_holder-returns-then-obeys t c =
    holder_obeys c.requires.course c.args.statement.now.row_in c.args.statement.now.marked.now.marks.now c.requires.b_in_bounds c.requires.lt_kind refl c.mark_at.ensures c.if-mark_at.false c.obeys.ensures c.if-obeys.true

pub pass_holder-returns-in_err-q : goal.pass_holder-returns-in_err-q
pass_holder-returns-in_err-q t c =
    rw c.from_residual.ensures
    (holder_full c.requires.course c.args.statement.now.row_in c.args.statement.now.marked.now.marks.now c.requires.b_in_bounds c.requires.lt_kind refl c.mark_at.ensures c.if-mark_at.false c.obeys.ensures c.if-obeys.false c.copy.ensures c.in_err-q.ensures refl)

pub pass_holder-returns : goal.pass_holder-returns
pass_holder-returns t c =
    holder_ends c.requires.course c.args.statement.now.row_in c.args.statement.now.marked.now.marks.now c.requires.b_in_bounds c.requires.lt_kind refl c.mark_at.ensures c.if-mark_at.false c.obeys.ensures c.if-obeys.false c.copy.ensures c.in_ok-q.ensures refl refl c.blame-blamed.ensures c.in_ok-merge.ensures refl

pub pass_holder-returns-in_err-merge : goal.pass_holder-returns-in_err-merge
pass_holder-returns-in_err-merge t c =
    rw c.from_residual-in_err-merge.ensures
    (holder_ends_full c.requires.course c.args.statement.now.row_in c.args.statement.now.marked.now.marks.now c.requires.b_in_bounds c.requires.lt_kind refl c.mark_at.ensures c.if-mark_at.false c.obeys.ensures c.if-obeys.false c.copy.ensures c.in_ok-q.ensures refl refl c.blame-blamed.ensures c.in_err-merge.ensures refl refl)

pub pass_if-pass_around-requires : goal.pass_if-pass_around-requires
pass_if-pass_around-requires t c =
    let z = reject_asks c.requires.course c.requires.b_in_bounds c.args.statement.now.row_in c.requires.kind_value c.args.statement.now.marked.now.marks.now c.copy.ensures c.block_operand-reject.ensures in (omega (arith, z.0, c.decreases), z.1)

pub pass_if-returns-in_err-q : goal.pass_if-returns-in_err-q
pass_if-returns-in_err-q t c =
    rw c.from_residual.ensures
    (if_rejected c.requires.course c.requires.b_in_bounds c.args.statement.now.row_in c.requires.kind_value c.args.statement.now.marked.now.marks.now c.copy.ensures c.block_operand-reject.ensures c.in_err-q.ensures refl)

pub pass_if-pass_around-requires-2 : goal.pass_if-pass_around-requires-2
pass_if-pass_around-requires-2 t c =
    let z = accept_asks c.requires.course c.requires.b_in_bounds c.args.statement.now.row_in c.requires.kind_value c.args.statement.now.marked.now.marks.now c.copy.ensures c.block_operand-reject.ensures c.in_ok-q.ensures refl c.exchange.ensures c.block_operand-accept.ensures in (omega (arith, z.0, c.decreases), z.1)

pub pass_if-returns-in_err-o : goal.pass_if-returns-in_err-o
pass_if-returns-in_err-o t c =
    rw c.from_residual-in_err-o.ensures
    (if_accepted c.requires.course c.requires.b_in_bounds c.args.statement.now.row_in c.requires.kind_value c.args.statement.now.marked.now.marks.now c.copy.ensures c.block_operand-reject.ensures c.in_ok-q.ensures refl c.exchange.ensures c.block_operand-accept.ensures c.in_err-o.ensures refl)

pub pass_if-end_if-requires : goal.pass_if-end_if-requires
pass_if-end_if-requires t c =
    if_end_asks c.requires.course c.requires.b_in_bounds c.args.statement.now.row_in c.requires.kind_value c.args.statement.now.marked.now.marks.now c.copy.ensures c.block_operand-reject.ensures c.in_ok-q.ensures refl c.exchange.ensures c.block_operand-accept.ensures c.in_ok-o.ensures refl c.expression_operand-condition.ensures

pub pass_if-returns : goal.pass_if-returns
pass_if-returns t c =
    if_ends c.requires.course c.requires.b_in_bounds c.args.statement.now.row_in c.requires.kind_value c.args.statement.now.marked.now.marks.now c.copy.ensures c.block_operand-reject.ensures c.in_ok-q.ensures refl c.exchange.ensures c.block_operand-accept.ensures c.in_ok-o.ensures refl c.expression_operand-condition.ensures c.in_ok-end_if.ensures refl

pub pass_if-returns-in_err-end_if : goal.pass_if-returns-in_err-end_if
pass_if-returns-in_err-end_if t c =
    rw c.from_residual-in_err-end_if.ensures
    (if_ends_full c.requires.course c.requires.b_in_bounds c.args.statement.now.row_in c.requires.kind_value c.args.statement.now.marked.now.marks.now c.copy.ensures c.block_operand-reject.ensures c.in_ok-q.ensures refl c.exchange.ensures c.block_operand-accept.ensures c.in_ok-o.ensures refl c.expression_operand-condition.ensures c.in_err-end_if.ensures refl refl)

pub pass_loop-begin_loop-requires : goal.pass_loop-begin_loop-requires
pass_loop-begin_loop-requires t c =
    begin_asks c.requires.course c.requires.b_in_bounds c.args.statement.now.row_in c.requires.kind_value c.args.statement.now.marked.now.marks.now c.optional_expression-break_if.ensures

pub pass_loop-returns-in_err-begin_loop : goal.pass_loop-returns-in_err-begin_loop
pass_loop-returns-in_err-begin_loop t c =
    rw c.from_residual.ensures
    (loop_begun_full c.requires.course c.requires.b_in_bounds c.args.statement.now.row_in c.requires.kind_value c.args.statement.now.marked.now.marks.now c.optional_expression-break_if.ensures c.in_err-begin_loop.ensures refl refl)

pub pass_loop-pass_around-requires : goal.pass_loop-pass_around-requires
pass_loop-pass_around-requires t c =
    let z = continuing_asks c.requires.course c.requires.b_in_bounds c.args.statement.now.row_in c.requires.kind_value c.args.statement.now.marked.now.marks.now c.optional_expression-break_if.ensures c.in_ok-begin_loop.ensures refl c.in_case-y.ensures c.block_operand-continuing.ensures in (omega (arith, z.0, c.decreases), z.1)

pub pass_loop-returns-in_err-q : goal.pass_loop-returns-in_err-q
pass_loop-returns-in_err-q t c =
    rw c.from_residual-in_err-q.ensures
    (loop_continuing c.requires.course c.requires.b_in_bounds c.args.statement.now.row_in c.requires.kind_value c.args.statement.now.marked.now.marks.now c.optional_expression-break_if.ensures c.in_ok-begin_loop.ensures refl c.in_case-y.ensures c.block_operand-continuing.ensures c.in_err-q.ensures refl)

pub pass_loop-pass_around-requires-2 : goal.pass_loop-pass_around-requires-2
pass_loop-pass_around-requires-2 t c =
    let z = body_asks c.requires.course c.requires.b_in_bounds c.args.statement.now.row_in c.requires.kind_value c.args.statement.now.marked.now.marks.now c.optional_expression-break_if.ensures c.in_ok-begin_loop.ensures refl c.in_case-y.ensures c.block_operand-continuing.ensures c.in_ok-q.ensures refl c.copy.ensures c.in_body-z.ensures c.block_operand-body.ensures in (omega (arith, z.0, c.decreases), z.1)

pub pass_loop-returns-in_err-o : goal.pass_loop-returns-in_err-o
pass_loop-returns-in_err-o t c =
    rw c.from_residual-in_err-o.ensures
    (loop_body c.requires.course c.requires.b_in_bounds c.args.statement.now.row_in c.requires.kind_value c.args.statement.now.marked.now.marks.now c.optional_expression-break_if.ensures c.in_ok-begin_loop.ensures refl c.in_case-y.ensures c.block_operand-continuing.ensures c.in_ok-q.ensures refl c.copy.ensures c.in_body-z.ensures c.block_operand-body.ensures c.in_err-o.ensures refl)

pub pass_loop-end_loop-requires : goal.pass_loop-end_loop-requires
pass_loop-end_loop-requires t c =
    let q9 = end_asks c.requires.course c.requires.b_in_bounds c.args.statement.now.row_in c.requires.kind_value c.args.statement.now.marked.now.marks.now c.optional_expression-break_if.ensures c.in_ok-begin_loop.ensures refl c.in_case-y.ensures c.block_operand-continuing.ensures c.in_ok-q.ensures refl c.copy.ensures c.in_body-z.ensures c.block_operand-body.ensures c.in_ok-o.ensures refl in
    record { live = q9.0; stack_slot_lt_n = q9.1 }

pub pass_loop-returns : goal.pass_loop-returns
pass_loop-returns t c =
    loop_ends c.requires.course c.requires.b_in_bounds c.args.statement.now.row_in c.requires.kind_value c.args.statement.now.marked.now.marks.now c.optional_expression-break_if.ensures c.in_ok-begin_loop.ensures refl c.in_case-y.ensures c.block_operand-continuing.ensures c.in_ok-q.ensures refl c.copy.ensures c.in_body-z.ensures c.block_operand-body.ensures c.in_ok-o.ensures refl c.end_loop.ensures

pub pass_statement-pass_block-requires : goal.pass_statement-pass_block-requires
pass_statement-pass_block-requires t c =
    let z = there c.requires.statement_in c.statement-row.ensures 0 c.block_operand-inner.ensures (block_low c.requires.statement_in c.statement-row.ensures (search rules)) in (omega (arith, z.0, c.decreases), (c.requires.course, (omega (arith, z.0, c.requires.b_in_bounds), z.1)))

pub pass_statement-returns-in-Ok-Block : goal.pass_statement-returns-in-Ok-Block
pass_statement-returns-in-Ok-Block t c =
    inner_passes (row_in c.requires.statement_in c.statement-row.ensures) c.args.marked.now.marks.now (search rules) c.block_operand-inner.ensures c.pass_block.ensures

pub pass_switch-pass_cases-requires : goal.pass_switch-pass_cases-requires
pass_switch-pass_cases-requires t c =
    let z = cases_ask c.requires.course c.args.statement.now.row_in c.requires.kind_value c.args.statement.now.marked.now.marks.now c.requires.b_in_bounds refl c.in_case-y.ensures in (omega (arith, c.decreases), (z.0, (z.1.0, (c.requires.kind_value, z.1.1))))

pub pass_switch-returns-in_err-q : goal.pass_switch-returns-in_err-q
pass_switch-returns-in_err-q t c =
    rw c.from_residual.ensures
    (switch_passes c.requires.course c.args.statement.now.row_in c.requires.kind_value c.args.statement.now.marked.now.marks.now c.requires.b_in_bounds refl c.in_case-y.ensures c.in_err-q.ensures refl)

pub pass_switch-end_switch-requires : goal.pass_switch-end_switch-requires
pass_switch-end_switch-requires t c =
    switch_end_asks c.requires.course c.args.statement.now.row_in c.requires.kind_value c.args.statement.now.marked.now.marks.now c.requires.b_in_bounds refl c.in_case-y.ensures c.in_ok-q.ensures refl c.expression_operand-selector.ensures

pub pass_switch-returns : goal.pass_switch-returns
pass_switch-returns t c =
    switch-ends c.requires.course c.args.statement.now.row_in c.requires.kind_value c.args.statement.now.marked.now.marks.now c.requires.b_in_bounds refl c.in_case-y.ensures c.in_ok-q.ensures refl c.expression_operand-selector.ensures c.in_ok-end_switch.ensures refl

pub pass_switch-returns-in_err-end_switch : goal.pass_switch-returns-in_err-end_switch
pass_switch-returns-in_err-end_switch t c =
    rw c.from_residual-in_err-end_switch.ensures
    (switch_ends_full c.requires.course c.args.statement.now.row_in c.requires.kind_value c.args.statement.now.marked.now.marks.now c.requires.b_in_bounds refl c.in_case-y.ensures c.in_ok-q.ensures refl c.expression_operand-selector.ensures c.in_err-end_switch.ensures refl refl)
