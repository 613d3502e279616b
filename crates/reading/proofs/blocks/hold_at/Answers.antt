-- `reading::blocks::hold_at` meets its contract: by whether there is such a statement, then block by block.
use mathlib.Core.Path.{refl}
use native.Mathlib.Omega.{arith}
use Rattle.module.specs.Decode.{tab}
use Rattle.reading.proofs.Held.{held-at, fits_mul, fits_add}
use Rattle.reading.proofs.Counting.{none_there, none_yet, next_one, all_counted, by_words, length-counted}
use borrow.Author.Rules.{rules}
use Rattle.reading.proofs.blocks.hold_at.Goals as goal

pub returns-then-row-s : goal.returns-then-row-s
returns-then-row-s c = none_there _ _ _ _ _ _ c.if-row-s.true

pub loop-i-init : goal.loop-i-init
unfolding tab
loop-i-init c = none_yet _ _

pub overflow_mul-h : goal.overflow_mul-h
overflow_mul-h c =
    search (rules, fits_mul _ _ _ c.loop-i.i c.held_by-h.ensures (omega (arith, c.loop-i-test.true)))

pub overflow_add-h : goal.overflow_add-h
overflow_add-h c =
    search (rules, fits_add _ _ _ c.loop-i.i c.held_by-h.ensures (omega (arith, c.loop-i-test.true)))

pub loop-i-preserved : goal.loop-i-preserved
loop-i-preserved c =
    next_one _ _ c.statement_field-k.ensures c.loop-i.invariant _ _ c.count.ensures refl

pub shape_of-seen : goal.shape_of-seen
shape_of-seen c = rw c.loop-i.invariant.words (length-counted _ _)

pub returns : goal.returns
returns c =
    by_words (all_counted _ _ _ c.loop-i.invariant (omega (arith, c.loop-i.auto)) c.loop-i-test.false (held-at _ _ _ _ _ _ _ c.if-row-s.false c.held_by-h.ensures c.statement_field-kind.ensures c.statement_field.ensures))
