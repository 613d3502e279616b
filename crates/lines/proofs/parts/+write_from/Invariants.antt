-- `lines::parts::write_from` meets its contract. The measure is the requirement's number: a cell names lower ones.
use Rattle.lines.proofs.parts.+write_from.Given as goal

abbrev pub decreases-write_from : goal.decreases-write_from
decreases-write_from l = l.n
