-- `marks::ray::held_number` meets its contract, kind by kind.
use Rattle.std.proofs.Common.{rules, ◌≡◌}
use native.Mathlib.Omega.{arith}
use Rattle.marks.specs.Ray.{held_number, held_count}
use Rattle.marks.proofs.Rays.{count_last}
use Rattle.marks.proofs.ray.held_number.Goals as goal

pub returns-in-Ok-Block : goal.returns-in-Ok-Block
unfolding held_number
returns-in-Ok-Block c = let e : c.args.row.kind ≡ 1 = search rules in rw e c.block_operand.ensures

pub overflow_sub-j : goal.overflow_sub-j
unfolding held_count
overflow_sub-j c = let e : c.args.row.kind ≡ 2 = search rules in let h = rw e at c.requires.0 in omega arith

pub returns-in-Ok-If : goal.returns-in-Ok-If
unfolding held_number
returns-in-Ok-If c = let e : c.args.row.kind ≡ 2 = search rules in rw e c.block_operand-in-Ok-If.ensures

pub returns-in-Ok-Switch : goal.returns-in-Ok-Switch
unfolding held_number
returns-in-Ok-Switch c = let e : c.args.row.kind ≡ 3 = search rules in rw e c.block_operand-in-Ok-Switch.ensures

pub overflow_sub-j-in_default : goal.overflow_sub-j-in_default
overflow_sub-j-in_default c =
    let h = (count_last _ _ _ (search rules) (search rules) (search rules) c.requires.0).1 in omega arith

pub returns-in_default : goal.returns-in_default
unfolding held_number
returns-in_default c =
    rw (count_last _ _ _ (search rules) (search rules) (search rules) c.requires.0).0 c.block_operand-in_default.ensures
