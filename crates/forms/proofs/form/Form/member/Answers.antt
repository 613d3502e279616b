-- `Form::member` meets its contract: by the form.
use Rattle.forms.proofs.Shapes.{bare_member}
use Rattle.forms.proofs.form.Form.member.Goals as goal

pub returns-in-Void : goal.returns-in-Void
returns-in-Void c = bare_member _ _ c.in-Void.is _
