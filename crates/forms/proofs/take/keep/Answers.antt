-- `forms::take::keep` meets its contract.
use Rattle.std.proofs.Common.{rules}
use Rattle.forms.proofs.Taking.{kept_less, kept_more}
use Rattle.forms.proofs.take.keep.Goals as goal

pub returns-in-1 : goal.returns-in-1
returns-in-1 c = kept_less (c.requires.good, (c.requires.room, c.requires.child_bound)) _ (search rules)

pub returns-in_default : goal.returns-in_default
returns-in_default c = kept_more (c.requires.good, (c.requires.room, c.requires.child_bound)) _ (search rules) (search rules) c.make.ensures
