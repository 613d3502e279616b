-- `add_entry` meets its contract: a map that contains the entry is the sum.
use mathlib.Core.Path.{sym, ◌∙◌}
use Rattle.part.proofs.Entries.{entry_there}
use Rattle.part.proofs.entry.add_entry.Goals as goal

pub returns-then-contains_entry : goal.returns-then-contains_entry
returns-then-contains_entry c =
    entry_there (c.requires.good, (c.requires.m_bound, c.requires.room)) _ (sym c.if-contains_entry.true ∙ c.contains_entry.ensures)
