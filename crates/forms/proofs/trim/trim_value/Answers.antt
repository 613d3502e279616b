-- `forms::trim::trim_value` meets its contract: by the shape of the result.
use Rattle.forms.proofs.trim.trim_value.Goals as goal

pub returns : goal.returns
returns c = rw (c.result_form-form.ensures c.args.types.now.rows.now c.requires.same) at c.trim_part.ensures
