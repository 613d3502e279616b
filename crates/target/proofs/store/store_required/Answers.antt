-- `store_required` meets its contract: `check_part` of what is needed of the variable.
use Rattle.target.proofs.Checking.{store_checks}
use Rattle.target.proofs.store.store_required.Goals as goal

pub returns : goal.returns
returns c =
    store_checks c.args.cells.now c.args.c c.args.target c.get-required.result c.get-required.ensures c.check_part.result c.check_part.ensures
