-- `forms::trim::trim_map` meets its contract. The measure is the map's number.
use Rattle.forms.proofs.trim.+trim_map.Given as goal

abbrev pub decreases-trim_map : goal.decreases-trim_map
decreases-trim_map l = l.p
