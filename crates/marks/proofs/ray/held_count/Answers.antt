-- `marks::ray::held_count` meets its contract, kind by kind.
use Rattle.std.proofs.Common.{rules, sym}
use native.Mathlib.Omega.{arith}
use Rattle.marks.specs.Ray.{held_count}
use Rattle.marks.proofs.Rays.{count_none, count_two}
use Rattle.marks.proofs.ray.held_count.Goals as goal

pub returns-in_default : goal.returns-in_default
returns-in_default c = (count_none _ _ (search rules) (search rules) (search rules) (search rules), omega arith)

pub returns-in-Block : goal.returns-in-Block
unfolding held_count
returns-in-Block c = (rw (sym c.in-Ok.ensures, c.in-Block.is), omega arith)

pub returns-in-If : goal.returns-in-If
returns-in-If c = (rw (sym c.in-Ok.ensures) (count_two _ c.in-If.is), omega arith)

pub returns-in-Switch : goal.returns-in-Switch
unfolding held_count
returns-in-Switch c = (rw (sym c.in-Ok.ensures, c.in-Switch.is) c.operand.ensures, omega arith)

pub returns-in_default-kind : goal.returns-in_default-kind
returns-in_default-kind c = (count_none _ _ (search rules) (search rules) (search rules) (search rules), omega arith)
