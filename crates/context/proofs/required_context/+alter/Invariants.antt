-- `context::required_context::alter` meets its contract. The measure is the map's number.
use Rattle.context.proofs.required_context.+alter.Given as goal

abbrev pub decreases-alter : goal.decreases-alter
decreases-alter l = l.m
