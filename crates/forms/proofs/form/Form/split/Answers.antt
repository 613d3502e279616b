-- `Form::split` meets its contract: by the form.
use Rattle.forms.proofs.Shapes.{bare_split, vector_split}
use Rattle.forms.proofs.form.Form.split.Goals as goal

pub returns-in-Void : goal.returns-in-Void
returns-in-Void c = bare_split _ _ c.in-Void.is

pub returns-in-Vector : goal.returns-in-Vector
returns-in-Vector c = vector_split _ _ c.in-Vector.is
