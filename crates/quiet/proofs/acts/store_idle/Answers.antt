-- `quiet::acts::store_idle` meets its contract.
use Rattle.quiet.proofs.Overlaps.{idle_by}
use Rattle.quiet.proofs.acts.store_idle.Goals as goal

pub returns : goal.returns
returns c = λ v. idle_by (c.store_overlap.ensures v) c.is_none.ensures
