-- `pruner::kept::read_records` meets its contract: the loop's invariant says that the first k records were read.
use Rattle.pruner.proofs.Pieces.{piece_placed}
use Rattle.pruner.proofs.Recording.{recording_first, recording_room, recording_refused, recording_many, recording_more, recording_done}
use native.Mathlib.Omega.{arith}
use mathlib.Core.Path.{refl}
use Rattle.pruner.proofs.kept.read_records.Goals as goal

pub loop-k-init : goal.loop-k-init
loop-k-init c =
    recording_first c.args.base c.args.n c.requires.memory.0 c.requires.room.1

pub read_single-requires : goal.read_single-requires
read_single-requires c =
    record { good = c.loop-k.invariant.memory.good; room = recording_room c.loop-k.invariant c.loop-k-test.true c.requires.room.0 }

pub returns-in_err-p : goal.returns-in_err-p
returns-in_err-p c =
    rw c.from_residual.ensures (recording_refused c.loop-k.invariant c.loop-k-test.true c.read_single.ensures c.in_err-p.was)

pub entries-requires : goal.entries-requires
entries-requires c =
    record { good = c.read_single.ensures.kept.good; n_bound = (piece_placed c.read_single.ensures c.in_ok-p.was).0 }

pub returns-then-count-gt-MAX_PIECES : goal.returns-then-count-gt-MAX_PIECES
returns-then-count-gt-MAX_PIECES c =
    recording_many c.loop-k.invariant c.loop-k-test.true c.read_single.ensures c.in_ok-p.was c.entries.ensures c.if-count-gt-MAX_PIECES.true

pub loop-k-preserved : goal.loop-k-preserved
loop-k-preserved c =
    recording_more c.loop-k.invariant c.loop-k-test.true c.read_single.ensures c.in_ok-p.was c.entries.ensures (omega (arith, c.if-count-gt-MAX_PIECES.false)) c.requires.memory.1 c.requires.memory.2

pub returns : goal.returns
returns c = recording_done c.loop-k.invariant refl (omega (arith, c.loop-k-test.false))
