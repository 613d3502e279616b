-- `forms::take::change_entry` meets its contract. The measure is the number of the entries.
use Rattle.forms.proofs.take.+change_entry.Given as goal

abbrev pub decreases-change_entry : goal.decreases-change_entry
decreases-change_entry l = l.p
