-- `block::add_total::add_total` meets its contract, answer by answer.
use mathlib.Core.Path.{refl, ap}
use native.Mathlib.Omega.{arith}
use Rattle.std.specs.Option.{is_none}
use Rattle.request.proofs.Ways.{refuses}
use Rattle.block.proofs.Adds.{weighs_again, sum_fits, kept_made, kept_small, first_is, later_small, later_over, later_is}
use Rattle.block.proofs.Answers.{total_first, total_ray, total_over, total_later}
use Rattle.block.proofs.add_total.add_total.Goals as goal

pub returns-in-Some : goal.returns-in-Some
returns-in-Some c _ =
    total_ray _ _ c.if-not-flags-f.false c.first_ray.result c.first_ray.ensures refl c.in-Some.is

pub returns-in_err-ok_or : goal.returns-in_err-ok_or
returns-in_err-ok_or c _ =
    rw (refuses _ c.from_residual.ensures.1 c.in_err-ok_or.ensures.value refl) (total_over _ _ c.if-not-flags-f.false c.first_ray.result c.first_ray.ensures c.in_default.is (later_over c.requires.asked.adding c.join_total.ensures (ap is_none c.in_err-ok_or.ensures.ok_part) _))

pub weigh_total-now-requires : goal.weigh_total-now-requires
weigh_total-now-requires c =
    let A = c.requires.asked.adding in
    weighs_again A (kept_made A c.keep_total.ensures) (kept_small A)

pub weigh_total-joined-requires : goal.weigh_total-joined-requires
weigh_total-joined-requires c =
    let A = c.requires.asked.adding in
    weighs_again A c.join_total.ensures.made (later_small A)

pub overflow_add-sum : goal.overflow_add-sum
overflow_add-sum c =
    let A = c.requires.asked.adding in
    omega (arith, sum_fits A (kept_made A c.keep_total.ensures) (kept_small A) c.weigh_total-less.ensures c.weigh_total-now.ensures)

pub overflow_add-sum-2 : goal.overflow_add-sum-2
overflow_add-sum-2 c =
    let A = c.requires.asked.adding in
    omega (arith, sum_fits A c.join_total.ensures.made (later_small A) c.weigh_total-less.ensures c.weigh_total-joined.ensures)

pub returns-then-not-flags-f : goal.returns-then-not-flags-f
returns-then-not-flags-f c _ =
    let A = c.requires.asked.adding in
    total_first _ _ c.if-not-flags-f.true (first_is A c.keep_total.ensures c.weigh_total-less.ensures c.weigh_total-now.ensures c.keep_marks.ensures c.requires.totals_long.0 c.requires.totals_long.1)

pub returns : goal.returns
returns c _ =
    let A = c.requires.asked.adding in
    total_later _ _ c.if-not-flags-f.false c.first_ray.result c.first_ray.ensures c.in_default.is (later_is A c.join_total.ensures (ap is_none c.in_ok-ok_or.ensures.ok_part) c.weigh_total-less.ensures c.weigh_total-joined.ensures (c.add_marks.ensures _) c.requires.totals_long.1)
