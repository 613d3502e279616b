-- `bindings_request::needed::all_table` meets its contract: the table grows by one type a turn.
use mathlib.Core.Path.{refl}
use Rattle.bindings_request.proofs.Walking.{grown_none, grown_more, grown_all}
use Rattle.bindings_request.proofs.needed.all_table.Goals as goal

pub loop-t-init : goal.loop-t-init
loop-t-init c = grown_none _ _

pub loop-t-preserved : goal.loop-t-preserved
loop-t-preserved c = grown_more _ _ c.loop-t.invariant c.loop-t-test.true c.type_all-r.ensures

pub returns : goal.returns
returns c = grown_all _ _ c.loop-t.invariant _ refl c.requires.sets_len c.loop-t-test.false
