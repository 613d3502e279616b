-- `forms::take::members_around` meets its contract. The members from k on are there (`Placed`).
use Rattle.forms.proofs.Taking.{placed_start, placed_more}
use native.Mathlib.Omega.{arith}
use Rattle.forms.proofs.take.members_around.Goals as goal

pub loop-k-init : goal.loop-k-init
loop-k-init c = placed_start _ _ _ c.requires.good

pub loop-k-preserved : goal.loop-k-preserved
loop-k-preserved c =
    placed_more c.loop-k.invariant c.loop-k-test.true c.requires.room (omega (arith, c.loop-k-test.true)) c.put_member-r.ensures
