-- `pruner::write::write_lists` meets its contract: the slots have the context's pieces.
use Rattle.pruner.proofs.Writing.{context_is, pieces_there}
use Rattle.pruner.proofs.write.write_lists.Goals as goal

pub write_context_body-requires : goal.write_context_body-requires
write_context_body-requires c =
    rw c.load_context-c.ensures
    (record { good = c.requires.good; has_context = pieces_there c.args.cells.now c.args.slots.now c.args.context c.requires.context_in_bounds c.requires.below; fits = rw (context_is c.args.cells.now c.args.slots.now c.args.context c.requires.context_in_bounds) at c.requires.fits })

pub returns : goal.returns
returns c =
    rw (context_is c.args.cells.now c.args.slots.now c.args.context c.requires.context_in_bounds) (rw c.load_context-c.ensures at c.write_context_body.ensures)
