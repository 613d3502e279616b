-- `block::stack::settled` meets its contract: the pieces that are loaded are the two contexts.
use Rattle.block.proofs.Saving.{loaded, both_asked, settled_is}
use Rattle.block.proofs.stack.settled.Goals as goal

pub contains-requires : goal.contains-requires
contains-requires c =
    let q9 = both_asked c.requires.memory c.requires.k_in_bounds (loaded c.load_context-working.ensures) (loaded c.load_context-turn.ensures) in
    record { good = q9.0; has_context = q9.1 }

pub returns : goal.returns
returns c =
    settled_is c.requires.memory c.requires.k_in_bounds (loaded c.load_context-working.ensures) (loaded c.load_context-turn.ensures) c.contains.ensures
