-- `block::workspace::Workspace::new` meets its contract: its parts are `Parts::new`'s, and no function has a total.
use mathlib.Core.Path.{refl}
use Rattle.block.proofs.workspace.Workspace.new.Goals as goal

pub returns-clause-cells : goal.returns-clause-cells
returns-clause-cells c = c.new.ensures.cells

pub returns-clause-slots : goal.returns-clause-slots
returns-clause-slots c = c.new.ensures.slots

pub returns-clause-total_flags : goal.returns-clause-total_flags
returns-clause-total_flags c = refl
