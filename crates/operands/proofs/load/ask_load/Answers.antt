-- `operands::load::ask_load` meets its contract.
use mathlib.Core.Path.{refl}
use Rattle.operands.proofs.Loads.{load_first, load_full, load_all}
use Rattle.operands.proofs.load.ask_load.Goals as goal

pub ask_indexes-requires : goal.ask_indexes-requires
ask_indexes-requires c =
    load_first c.args.pointer.now.e.0 c.requires.list_given

pub returns-in_err-ask_indexes : goal.returns-in_err-ask_indexes
returns-in_err-ask_indexes c =
    rw c.from_residual.ensures
    (load_full c.args.pointer.now.e.0 c.requires.list_given c.in_err-ask_indexes.ensures refl)

pub returns : goal.returns
returns c =
    load_all c.args.pointer.now.e.0 c.requires.list_given c.in_ok-ask_indexes.ensures refl c.find_target-target.ensures c.loaded-a.ensures c.ask_place.ensures
