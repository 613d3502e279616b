-- `reading::add::put_item` meets its contract.
use Rattle.reading.proofs.add.put_item.Goals as goal

pub returns : goal.returns
returns c = rw c.items_to.ensures at c.put.ensures
