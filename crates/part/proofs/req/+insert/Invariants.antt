-- `insert` meets its contract. The measure is the map's number.
use Rattle.part.proofs.req.+insert.Given as goal

abbrev pub decreases-insert : goal.decreases-insert
decreases-insert l = l.m
