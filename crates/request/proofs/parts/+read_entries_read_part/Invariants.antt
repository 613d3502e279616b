-- The proof of the cycle of calls {read_entries, read_part}: at each call fewer bytes are left.
use lib.ListN.{length}
use Rattle.request.proofs.parts.+read_entries_read_part.Given as goal

abbrev pub decreases-read_entries : goal.decreases-read_entries
decreases-read_entries l = length l.bytes.now

abbrev pub decreases-read_part : goal.decreases-read_part
decreases-read_part l = length l.bytes.now
