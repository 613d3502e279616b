-- `forms::take::take_all` meets its contract. The measure is what is left of the path.
use lib.ListN.{length}
use Rattle.forms.proofs.take.+take_all.Given as goal

abbrev pub decreases-take_all : goal.decreases-take_all
decreases-take_all l = length l.path.now
