-- `module::shape::class_of` meets its contract: the classes in their order are the operands in theirs.
use Rattle.module.specs.Packed.{meant}
use Rattle.module.proofs.Shapes.{class_row, no_class}
use Rattle.module.proofs.shape.class_of.Goals as goal

pub returns-then-bits-gt20 : goal.returns-then-bits-gt20
unfolding meant
returns-then-bits-gt20 c = no_class _ c.if-bits-gt20.true

pub returns : goal.returns
returns c = class_row _ _ c.if-bits-eq0.false c.if-bits-gt20.false
