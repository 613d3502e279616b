-- `forms::trim::result_form` meets its contract: by whether there is a result.
use Rattle.forms.proofs.Trimming.{result_void, result_type}
use Rattle.forms.proofs.trim.result_form.Goals as goal

pub returns-in-None : goal.returns-in-None
returns-in-None c = λ types e. result_void _ c.result.ensures c.in-None.is

pub returns-in-Some : goal.returns-in-Some
returns-in-Some c = λ types e. result_type _ c.result.ensures types _ e c.in-Some.is
