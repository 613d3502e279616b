-- `block::aside::put_aside` meets its contract: four cells, one behind the other.
use mathlib.Core.Path.{refl}
use Rattle.block.proofs.Saving.{loaded}
use Rattle.block.proofs.Sides.{retval-asks, args-asks, locals-asks, globals_asks, aside_done}
use Rattle.block.proofs.aside.put_aside.Goals as goal

pub make-retval-requires : goal.make-retval-requires
make-retval-requires c =
    let q9 = retval-asks c.requires (loaded c.load_context-c.ensures) in
    record { good = q9.0; room = q9.1.0; child_bound = q9.1.1 }

pub make-args-requires : goal.make-args-requires
make-args-requires c =
    let q9 = args-asks c.requires (loaded c.load_context-c.ensures) c.make-retval.ensures in
    record { good = q9.0; room = q9.1.0; child_bound = q9.1.1 }

pub make-locals-requires : goal.make-locals-requires
make-locals-requires c =
    let q9 = locals-asks c.requires (loaded c.load_context-c.ensures) c.make-retval.ensures c.make-args.ensures in
    record { good = q9.0; room = q9.1.0; child_bound = q9.1.1 }

pub make-globals-requires : goal.make-globals-requires
make-globals-requires c =
    let q9 = globals_asks c.requires (loaded c.load_context-c.ensures) c.make-retval.ensures c.make-args.ensures c.make-locals.ensures in
    record { good = q9.0; room = q9.1.0; child_bound = q9.1.1 }

pub returns : goal.returns
returns c =
    aside_done c.requires (loaded c.load_context-c.ensures) c.make-retval.ensures c.make-args.ensures c.make-locals.ensures c.make-globals.ensures refl
