-- `forms::take::take_out` meets its contract. The measure is what is left of the path.
use lib.ListN.{length}
use Rattle.forms.proofs.take.+take_out.Given as goal

abbrev pub decreases-take_out : goal.decreases-take_out
decreases-take_out l = length l.path.now
