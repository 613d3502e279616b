-- `Subject::fits_variable` meets its contract: no pointer, and of the shape.
use borrow.Author.Rules.{rules}
use mathlib.Core.Path.{◌∙◌}
use Rattle.judge.proofs.Operands.{variable_pointer, variable_same}
use Rattle.judge.proofs.subject.Subject.fits_variable.Goals as goal

pub returns-then-ne : goal.returns-then-ne
returns-then-ne c =
    λ S p. variable_same _ S p _ _ c.kind_at.ensures c.args.self.now.given.shapes c.requires.a_in_bounds c.requires.b_in_bounds (search rules) c.pointee.ensures c.is_alike.ensures

pub returns-else-ne : goal.returns-else-ne
returns-else-ne c = λ S p. c.if-ne.false ∙ variable_pointer _ S p _ _ c.kind_at.ensures (search rules)
