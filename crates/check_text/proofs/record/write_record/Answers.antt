-- `check_text::record::write_record` meets its contract: the slots have the context's pieces, and the record has room.
use Rattle.check_text.proofs.Recording.{has_record, record_fits, record_written}
use Rattle.check_text.proofs.record.write_record.Goals as goal

pub write_context-requires : goal.write_context-requires
write_context-requires c =
    rw c.load_context-c.ensures (record { good = c.requires.memory.0.good; has_context = has_record c.requires.memory.0 c.args.k c.requires.memory.1; c_in_bounds = record_fits c.requires.memory.0 c.args.k c.requires.memory.1 c.requires.k_bound.0 c.requires.k_bound.1 })

pub returns : goal.returns
returns c =
    record_written c.requires.memory.0 c.args.k c.requires.memory.1 c.requires.k_bound.0 c.args.out.now c.requires.k_bound.1 (rw c.load_context-c.ensures at c.write_context.ensures)
