-- `forms::trim::global_form` meets its contract: by where the index lies.
use Rattle.forms.proofs.Trimming.{global_low, global_past, global_there}
use Rattle.forms.proofs.trim.global_form.Goals as goal

pub returns-then-i-lt-SPINE : goal.returns-then-i-lt-SPINE
returns-then-i-lt-SPINE c = λ types. global_low _ _ types c.if-i-lt-SPINE.true

pub returns-then-globals-g : goal.returns-then-globals-g
returns-then-globals-g c = λ types. global_past _ _ types c.if-i-lt-SPINE.false c.globals.ensures c.if-globals-g.true

pub returns : goal.returns
returns c = λ types.
    global_there _ _ types c.if-i-lt-SPINE.false c.globals.ensures c.if-globals-g.false c.global.ensures
