-- `block::aside::take_back` meets its contract: each of the four entries is a map.
use Rattle.block.proofs.Sides.{result_asks, taken_back}
use Rattle.block.proofs.aside.take_back.Goals as goal

pub subpart-globals-requires : goal.subpart-globals-requires
subpart-globals-requires c =
    let q9 = result_asks c.requires.memory in
    record { good = q9.0; a_bound = q9.1 }

pub subpart-locals-requires : goal.subpart-locals-requires
subpart-locals-requires c =
    let q9 = result_asks c.requires.memory in
    record { good = q9.0; a_bound = q9.1 }

pub subpart-args-requires : goal.subpart-args-requires
subpart-args-requires c =
    let q9 = result_asks c.requires.memory in
    record { good = q9.0; a_bound = q9.1 }

pub subpart-retval-requires : goal.subpart-retval-requires
subpart-retval-requires c =
    let q9 = result_asks c.requires.memory in
    record { good = q9.0; a_bound = q9.1 }

pub returns : goal.returns
returns c =
    taken_back c.requires.memory c.requires.stack_slot_le_k _ c.subpart-globals.ensures c.subpart-locals.ensures c.subpart-args.ensures c.subpart-retval.ensures c.save_context.ensures
