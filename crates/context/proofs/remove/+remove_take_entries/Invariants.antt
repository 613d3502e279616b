-- `context::remove::remove` and `take_entries` meet their contracts: q's number falls, and while q stays, p's.
use Rattle.context.proofs.Cycle.{entries_measure, remove_measure}
use Rattle.context.proofs.remove.+remove_take_entries.Given as goal

abbrev pub decreases-remove : goal.decreases-remove
decreases-remove l = remove_measure l.q

abbrev pub decreases-take_entries : goal.decreases-take_entries
decreases-take_entries l = entries_measure l.p l.q
