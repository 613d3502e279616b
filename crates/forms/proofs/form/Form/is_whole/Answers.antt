-- `Form::is_whole` meets its contract: by the form.
use Rattle.forms.proofs.Shapes.{whole_none}
use Rattle.forms.proofs.form.Form.is_whole.Goals as goal

pub returns-in_default : goal.returns-in_default
returns-in_default c = whole_none _ _ c.in_default.not-Of
