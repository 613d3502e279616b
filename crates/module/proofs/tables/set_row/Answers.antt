-- `module::tables::set_row` meets its contract.
use Rattle.module.specs.Tables.{set_row}
use Rattle.module.proofs.tables.set_row.Goals as goal

pub returns : goal.returns
unfolding set_row
returns c =
    rw (c.put-8.ensures, c.put-7.ensures, c.put-6.ensures, c.put-5.ensures, c.put-4.ensures, c.put-3.ensures, c.put-2.ensures, c.put.ensures)
