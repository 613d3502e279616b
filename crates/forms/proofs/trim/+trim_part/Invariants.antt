-- `forms::trim::trim_part` meets its contract. The measure is the requirement's number.
use Rattle.forms.proofs.trim.+trim_part.Given as goal

abbrev pub decreases-trim_part : goal.decreases-trim_part
decreases-trim_part l = l.p
