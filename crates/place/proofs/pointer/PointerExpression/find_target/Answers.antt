-- `place::target::find_target` meets its contract. The invariant: what is left of the pointer and what is written give the whole.
use mathlib.Core.Path.{refl}
use lib.ListN.{length-set}
use Rattle.place.proofs.Passing.{none_passed, next_constant, next_dynamic, found_global, found_local}
use Rattle.place.proofs.pointer.PointerExpression.find_target.Goals as goal

pub loop-v-init : goal.loop-v-init
loop-v-init c = (refl, none_passed _ _ _ c.args.self.now.pointer.there c.requires c.args.self.now.pointer.path, refl)

pub returns-in-Global : goal.returns-in-Global
returns-in-Global c =
    let i = c.loop-v.invariant in found_global c.args.self.now c.loop-v.h i.0 i.1 c.put_variable.ensures.target i.2 c.put_variable.ensures.path c.step_down.ensures c.in-Global.is refl refl

pub returns-in-Local : goal.returns-in-Local
returns-in-Local c =
    let i = c.loop-v.invariant in found_local c.args.self.now c.loop-v.h i.0 i.1 c.put_variable-in-Local.ensures.target i.2 c.put_variable-in-Local.ensures.path c.step_down.ensures c.in-Local.is refl refl

pub loop-v-preserved-in-Constant : goal.loop-v-preserved-in-Constant
loop-v-preserved-in-Constant c =
    let i = c.loop-v.invariant in
    let z = next_constant c.args.self.now c.loop-v.h i.0 i.1 c.step_down.ensures c.in-Constant.is in
    (z.0, z.1, simp length-set i.2)

pub loop-v-preserved : goal.loop-v-preserved
loop-v-preserved c =
    let i = c.loop-v.invariant in
    let z = next_dynamic c.args.self.now c.loop-v.h i.0 i.1 c.step_down.ensures c.in-Dynamic.is in
    (z.0, z.1, i.2)
