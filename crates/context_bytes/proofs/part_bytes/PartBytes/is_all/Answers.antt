-- `PartBytes::is_all` meets its contract, by the part's code.
use Rattle.context_bytes.proofs.Found.{yes_all, no_all}
use Rattle.context_bytes.proofs.part_bytes.PartBytes.is_all.Goals as goal

pub returns-in-All : goal.returns-in-All
returns-in-All c = yes_all c.args.self.now.readable (rw c.in-All.is at c.in-Some.ensures)

pub returns-in_default-code : goal.returns-in_default-code
returns-in_default-code c = no_all c.args.self.now.readable _ c.in_default-code.not-All c.in-Some.ensures
