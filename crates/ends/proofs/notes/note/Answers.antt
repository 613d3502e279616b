-- At a point the flags are those of the needs at hand (Points).
use mathlib.Core.Path.{refl, ◌∙◌}
use borrow.Author.Tests.{lt-ltb, le-ltb}
use Prim.Native.Nat.{◌-◌}
use Rattle.ends.proofs.Points.{point_wide, narrow, width-less, either_first, either_second}
use native.Mathlib.Omega.{arith}
use Rattle.ends.proofs.notes.note.Goals as goal
use Rattle.ends.proofs.notes.note.Goals.{then-sizes, else-sizes}

pub overflow_sub-many : goal.overflow_sub-many
overflow_sub-many c =
    width-less c.measure-sizes.ensures (narrow c.requires.live (c.args.n - 1) (omega (arith, c.requires.n_nonzero)))

pub returns-then-many : goal.returns-then-many
returns-then-many c =
    record {
      full = refl;
      fault = refl;
      held = refl;
      deep = elim c.if-sizes.branch [
        | then-sizes w ↦ w.result-is ∙ either_first _ c.measure-sizes.ensures.over_is w.if-sizes.true
        | else-sizes w ↦ w.result-is ∙ either_second _ c.measure-sizes.ensures.over_is w.if-sizes.false
      ];
      wide = either_first _ (point_wide c.measure-sizes.ensures (narrow c.requires.live (c.args.n - 1) (omega (arith, c.requires.n_nonzero)))) (lt-ltb _ _ c.if-many.true);
    }

pub returns-else-many : goal.returns-else-many
returns-else-many c =
    record {
      full = refl;
      fault = refl;
      held = refl;
      deep = elim c.if-sizes.branch [
        | then-sizes w ↦ w.result-is ∙ either_first _ c.measure-sizes.ensures.over_is w.if-sizes.true
        | else-sizes w ↦ w.result-is ∙ either_second _ c.measure-sizes.ensures.over_is w.if-sizes.false
      ];
      wide = either_second _ (point_wide c.measure-sizes.ensures (narrow c.requires.live (c.args.n - 1) (omega (arith, c.requires.n_nonzero)))) (le-ltb _ _ c.if-many.false);
    }
