-- `reading::read::records` meets its contract: what is left of the records gives the answer for the whole.
use mathlib.Core.Path.{refl}
use Rattle.std.proofs.lemmas.Result.{err_from_is_err_and}
use Rattle.reading.proofs.Left.{left_first, left_again, left_stops, left_done}
use native.Mathlib.Omega.{arith}
use Rattle.reading.proofs.read.records.Goals as goal

pub loop-at-init : goal.loop-at-init
loop-at-init c =
    (left_first _ _ _ c.requires.bytes_len_bound c.requires.words_in_bounds _ _ (c.fill.ensures.after (λ y e. e)) c.args.room.now.values_seen c.no_counts-c.ensures, refl)

pub overflow_cast-at : goal.overflow_cast-at
overflow_cast-at c =
    omega (arith, c.loop-at.invariant.0.between.progress.used.here, c.requires.bytes_len_bound)

pub record_next-requires : goal.record_next-requires
record_next-requires c = record { between = c.loop-at.invariant.0.between; at_in_bounds = c.loop-at-test.true }

pub returns-in_err-c : goal.returns-in_err-c
returns-in_err-c c =
    let p = err_from_is_err_and c.from_residual.result c.from_residual.ensures.1 in
    rw (p.1, p.2) (left_stops c.loop-at.invariant.0 c.loop-at-test.true c.in_err-c.ensures.step _ refl)

pub overflow_cast-at-in-loop-at : goal.overflow_cast-at-in-loop-at
overflow_cast-at-in-loop-at c = omega (arith, c.loop-at-test.true, c.requires.bytes_len_bound)

pub overflow_add-at : goal.overflow_add-at
overflow_add-at c = omega (arith, c.loop-at-test.true, c.requires.bytes_len_bound)

pub overflow_add-at-in-loop-at : goal.overflow_add-at-in-loop-at
overflow_add-at-in-loop-at c =
    omega (arith, c.get.ensures, (c.in_ok-c.ensures.step.progress _ refl).used.here, c.requires.bytes_len_bound)

pub overflow_add-at-in-loop-at-2 : goal.overflow_add-at-in-loop-at-2
overflow_add-at-in-loop-at-2 c =
    omega (arith, c.get.ensures, (c.in_ok-c.ensures.step.progress _ refl).used.here, c.requires.bytes_len_bound)

pub loop-at-smaller : goal.loop-at-smaller
loop-at-smaller c = omega (arith, c.loop-at-test.true)

pub loop-at-preserved : goal.loop-at-preserved
loop-at-preserved c =
    (left_again c.loop-at.invariant.0 c.loop-at-test.true c.in_ok-c.ensures.step _ _ refl (omega (arith, c.get.ensures)), omega (arith, c.loop-at.invariant.1, c.record_next.auto))

pub returns : goal.returns
returns c = left_done c.loop-at.invariant.0 c.loop-at-test.false
