-- `module::tables::row_at` meets its contract.
use Rattle.module.specs.Tables.{row_at}
use Rattle.module.proofs.tables.row_at.Goals as goal

pub returns : goal.returns
unfolding row_at
returns c =
    rw (c.word.ensures, c.word-2.ensures, c.word-3.ensures, c.word-4.ensures, c.word-5.ensures, c.word-6.ensures, c.word-7.ensures, c.word-8.ensures)
