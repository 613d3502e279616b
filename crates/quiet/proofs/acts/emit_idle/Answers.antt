-- `quiet::acts::emit_idle` meets its contract.
use Rattle.quiet.proofs.Overlaps.{idle_by}
use Rattle.quiet.proofs.acts.emit_idle.Goals as goal

pub returns : goal.returns
returns c = idle_by c.emit_overlap.ensures c.is_none.ensures
