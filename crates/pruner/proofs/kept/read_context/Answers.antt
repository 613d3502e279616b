-- `pruner::kept::read_context` meets its contract: one law for each way.
use Rattle.pruner.proofs.Recording.{context_refused, context_has, context_many, context_stored}
use native.Mathlib.Omega.{arith}
use Rattle.pruner.proofs.kept.read_context.Goals as goal

pub read_lists-requires : goal.read_lists-requires
read_lists-requires c =
    record { good = c.requires.memory.0.good; room = c.requires.room.0; limits = c.requires.limits }

pub returns-in_err-c : goal.returns-in_err-c
returns-in_err-c c =
    rw c.from_residual.ensures (context_refused _ c.args.slots.now c.args.slot c.args.sum c.read_lists.ensures c.in_err-c.was)

pub entries-g-requires : goal.entries-g-requires
entries-g-requires c =
    record { good = c.read_lists.ensures.kept.good; n_bound = (context_has _ c.args.slots.now c.args.slot c.args.sum c.read_lists.ensures c.in_ok-c.was).globals }

pub entries-l-requires : goal.entries-l-requires
entries-l-requires c =
    record { good = c.read_lists.ensures.kept.good; n_bound = (context_has _ c.args.slots.now c.args.slot c.args.sum c.read_lists.ensures c.in_ok-c.was).locals }

pub entries-a-requires : goal.entries-a-requires
entries-a-requires c =
    record { good = c.read_lists.ensures.kept.good; n_bound = (context_has _ c.args.slots.now c.args.slot c.args.sum c.read_lists.ensures c.in_ok-c.was).args }

pub entries-p-requires : goal.entries-p-requires
entries-p-requires c =
    record { good = c.read_lists.ensures.kept.good; n_bound = (context_has _ c.args.slots.now c.args.slot c.args.sum c.read_lists.ensures c.in_ok-c.was).retval }

pub returns-then-count-gt-MAX_PIECES : goal.returns-then-count-gt-MAX_PIECES
returns-then-count-gt-MAX_PIECES c =
    context_many _ c.args.slots.now c.args.slot c.args.sum c.read_lists.ensures c.in_ok-c.was c.entries-g.ensures c.entries-l.ensures c.entries-a.ensures c.entries-p.ensures c.if-count-gt-MAX_PIECES.true

pub save_context-requires : goal.save_context-requires
save_context-requires c = c.requires.memory.2

pub returns : goal.returns
returns c =
    context_stored _ c.args.slots.now c.args.slot c.args.sum c.read_lists.ensures c.in_ok-c.was c.entries-g.ensures c.entries-l.ensures c.entries-a.ensures c.entries-p.ensures (omega (arith, c.if-count-gt-MAX_PIECES.false)) c.requires.memory.0 c.requires.memory.1 c.requires.memory.2 c.save_context.ensures
