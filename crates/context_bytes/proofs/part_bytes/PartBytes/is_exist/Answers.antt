-- `PartBytes::is_exist` meets its contract, by the part's code.
use Rattle.context_bytes.proofs.Found.{yes_exist, no_exist}
use Rattle.context_bytes.proofs.part_bytes.PartBytes.is_exist.Goals as goal

pub returns-in-Exist : goal.returns-in-Exist
returns-in-Exist c = yes_exist c.args.self.now.readable (rw c.in-Exist.is at c.in-Some.ensures)

pub returns-in_default-code : goal.returns-in_default-code
returns-in_default-code c = no_exist c.args.self.now.readable _ c.in_default-code.not-Exist c.in-Some.ensures
