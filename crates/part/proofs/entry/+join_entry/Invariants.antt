-- `join_entry` meets its contract. The measure is the map's number.
use Rattle.part.proofs.entry.+join_entry.Given as goal

abbrev pub decreases-join_entry : goal.decreases-join_entry
decreases-join_entry l = l.m
