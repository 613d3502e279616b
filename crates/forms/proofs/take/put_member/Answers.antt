-- `forms::take::put_member` meets its contract.
use Rattle.forms.proofs.Taking.{put_at, put_other}
use Rattle.forms.proofs.take.put_member.Goals as goal

pub returns-then-k-i : goal.returns-then-k-i
returns-then-k-i c =
    put_at (c.requires.good, (c.requires.room, c.requires.d_bound)) _ _ c.if-k-i.true c.keep.ensures

pub returns : goal.returns
returns c =
    put_other (c.requires.good, (c.requires.room, c.requires.d_bound)) _ _ c.if-k-i.false c.make.ensures
