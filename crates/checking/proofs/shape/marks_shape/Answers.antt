-- `checking::shape::marks_shape` meets its contract: one law for each way.
use mathlib.Core.Path.{sym, ◌∙◌}
use Rattle.checking.proofs.Shaped.{bits_is, found_short, found_whole, found_other}
use Rattle.checking.proofs.shape.marks_shape.Goals as goal

pub returns-then-report-end : goal.returns-then-report-end
returns-then-report-end c =
    found_short c.requires c.args.report.now c.marks_start-start.ensures c.mark_total.ensures c.min-from.ensures c.min-to.ensures c.if-report-end.true

pub returns-then-are_bits : goal.returns-then-are_bits
returns-then-are_bits c =
    found_whole c.requires c.args.report.now c.marks_start-start.ensures c.mark_total.ensures c.min-from.ensures c.min-to.ensures c.if-report-end.false (sym c.if-are_bits.true ∙ c.are_bits.ensures ∙ bits_is _)

pub returns-else-are_bits : goal.returns-else-are_bits
returns-else-are_bits c =
    found_other c.requires c.args.report.now c.marks_start-start.ensures c.mark_total.ensures c.min-from.ensures c.min-to.ensures c.if-report-end.false (sym c.if-are_bits.false ∙ c.are_bits.ensures ∙ bits_is _)
