-- The proof of the cycle of calls {write_entries, write_part}: the piece's number falls, and `write_entries` stands between. The loop's invariant says
-- that what is left, written, gives the whole.
use Prim.Native.Nat.{◌+◌, ◌*◌}
use Rattle.part.proofs.Listing.{On}
use Rattle.request.proofs.Writing.{Left}
use Rattle.request.proofs.write.+write_entries_write_part.Given as goal

abbrev pub invariant-write_entries-loop-x : goal.invariant-write_entries-loop-x
invariant-write_entries-loop-x l = On l.cells l.x-iterator × Left l.cells l.initial.writer l.n l.writer l.x-iterator.rest

abbrev pub decreases-write_entries : goal.decreases-write_entries
decreases-write_entries l = 2 * l.n

abbrev pub decreases-write_part : goal.decreases-write_part
decreases-write_part l = 2 * l.n + 1
