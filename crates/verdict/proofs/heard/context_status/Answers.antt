-- `verdict::heard::context_status` meets its contract: the limits are those of the function.
use Rattle.verdict.proofs.Hearing.{status_is}
use Rattle.verdict.proofs.heard.context_status.Goals as goal

pub returns : goal.returns
returns c =
    status_is c.args.context.now c.requires c.globals-all.ensures c.arguments-given.ensures c.locals-own.ensures c.check_context.ensures
