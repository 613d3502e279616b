-- `pruner::frame::is_fresh` meets its contract (Fresh).
use Rattle.std.proofs.Common.{◌∙◌}
use Rattle.pruner.proofs.Fresh.{fresh_starts}
use Rattle.pruner.proofs.frame.is_fresh.Goals as goal

pub returns : goal.returns
returns c = c.starts_with.ensures.value ∙ fresh_starts c.args.bytes.now
