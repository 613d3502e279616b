-- `verdict::tables::fill_tables` meets its contract: each table is filled from what was read and the tables before it.
use Rattle.verdict.proofs.Filling.{rows_asked, words_asked, filled}
use Rattle.verdict.proofs.tables.fill_tables.Goals as goal

pub fill-requires : goal.fill-requires
fill-requires c =
    let q9 = rows_asked c.requires.0 c.requires.1.types_long in
    record { table_len = q9.0; table_len_bound = q9.1.0; all_sized = q9.1.1 }

pub fill_alike-requires : goal.fill_alike-requires
fill_alike-requires c =
    let q9 = words_asked c.requires.0 _ c.fill.ensures c.requires.1.alike_long in
    record { lower = q9.0; table_len = q9.1.0; table_len_bound = q9.1.1 }

pub fill_unsized-requires : goal.fill_unsized-requires
fill_unsized-requires c =
    let q9 = words_asked c.requires.0 _ c.fill.ensures c.requires.1.held_long in
    record { lower = q9.0; table_len = q9.1.0; table_len_bound = q9.1.1 }

pub returns : goal.returns
returns c =
    filled c.requires.0 _ c.fill.ensures c.fill_alike.ensures c.fill_unsized.ensures c.fill_paths.ensures
