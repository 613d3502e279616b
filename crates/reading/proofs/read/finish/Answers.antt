-- `reading::read::finish` meets its contract: by how the last function ends.
use mathlib.Core.Path.{refl}
use Rattle.std.proofs.lemmas.Result.{err_from_is_err_and}
use Rattle.reading.specs.Reads.{headed}
use Rattle.reading.proofs.Finishing.{finish_refused, finish_done}
use Rattle.reading.proofs.read.finish.Goals as goal

pub returns-in_err-d : goal.returns-in_err-d
returns-in_err-d c =
    let p = err_from_is_err_and c.from_residual.result c.from_residual.ensures.1 in
    rw (p.1, p.2) (finish_refused _ _ _ c.requires _ _ c.in_err-d.ensures.value c.in_err-d.ensures.t_after _ _ refl)

pub returns : goal.returns
unfolding headed
returns c =
    finish_done _ _ _ c.requires _ _ c.in_ok-d.ensures.value c.in_ok-d.ensures.t_after _ _ refl (rw (c.put-3.ensures, c.put-2.ensures, c.put.ensures))
