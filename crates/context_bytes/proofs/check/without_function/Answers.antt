-- `context_bytes::check::without_function` meets its contract: by what checking the context answers.
use Rattle.context_bytes.proofs.Status.{refused_above, without_accepted, without_refused}
use Rattle.context_bytes.proofs.check.without_function.Goals as goal

pub returns-in-Ok : goal.returns-in-Ok
returns-in-Ok c = without_accepted _ c.in-Ok.ensures

pub returns-in-Err : goal.returns-in-Err
returns-in-Err c = without_refused _ (refused_above c.in-Err.e) c.in-Err.ensures
