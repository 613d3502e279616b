-- `forms::form::component` meets its contract.
use Rattle.forms.proofs.Shapes.{component_in, component_past}
use Rattle.forms.proofs.form.component.Goals as goal

pub returns-then-i-n : goal.returns-then-i-n
returns-then-i-n c = λ types. component_in c.if-i-n.true

pub returns-else-i-n : goal.returns-else-i-n
returns-else-i-n c = λ types. component_past c.if-i-n.false
