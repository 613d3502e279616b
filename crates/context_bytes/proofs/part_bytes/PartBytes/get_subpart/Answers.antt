-- `PartBytes::get_subpart` meets its contract, by the part's code.
use Rattle.request.proofs.Bytes.{tail_all}
use Rattle.context_bytes.proofs.Found.{found_all, found_exist, found_entry}
use Rattle.context_bytes.proofs.part_bytes.PartBytes.get_subpart.Goals as goal

pub returns-in-All : goal.returns-in-All
returns-in-All c = (found_all c.args.self.now.readable (rw c.in-All.is at c.in_ok-code.ensures) _, tail_all _)

pub returns-in-Exist : goal.returns-in-Exist
returns-in-Exist c = found_exist c.args.self.now.readable (rw c.in-Exist.is at c.in_ok-code.ensures) _

pub returns-in_err-bytes-in-Entries : goal.returns-in_err-bytes-in-Entries
returns-in_err-bytes-in-Entries c =
    rw c.from_residual-in_err-bytes-in-Entries.ensures
    (found_entry c.args.self.now.readable (rw c.in-Entries.is at c.in_ok-code.ensures) c.in_err-bytes-in-Entries.ensures)

pub returns-in_ok-bytes-in-Entries : goal.returns-in_ok-bytes-in-Entries
returns-in_ok-bytes-in-Entries c =
    let f = found_entry c.args.self.now.readable (rw c.in-Entries.is at c.in_ok-code.ensures) c.in_ok-bytes-in-Entries.ensures in (f.1, f.2)
