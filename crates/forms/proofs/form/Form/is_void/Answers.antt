-- `Form::is_void` meets its contract: by the form.
use Rattle.forms.proofs.Shapes.{void_other}
use Rattle.forms.proofs.form.Form.is_void.Goals as goal

pub returns-in_default : goal.returns-in_default
returns-in_default c = λ types. void_other types _ c.in_default.not-Void
