-- What an iterator over the entries of a piece gives.
use Rattle.std.specs.Prelude.{◌≡◌, ◌<◌, ◌≤◌, Option, Some, None}
use Rattle.part.specs.declared.list.Entries.{Entries}
use Rattle.part.specs.declared.store.Cell.{Cell}
use Rattle.part.specs.Store.{top, Good, Seen}

-- it goes along a list of a store
abbrev pub Inside : Entries → Type 0
Inside e = Good e.cells.now × (e.rest < top e.cells.now)

-- the first entry is x, and those after it are left
pub record Gives (old : Entries) (x : Cell) (new : Entries) : Type 0 where
  pub is_cell : 2 < old.rest
  pub on : new ≡ record { cells = old.cells; rest = x.rest }
  pub seen : Seen old.cells.now old.rest x.index x.child x.rest

-- the first entry is given; or the piece is no cell, and stays
abbrev pub GivesEntry : Entries → Option Cell → Entries → Type 0
GivesEntry old None new = (old.rest ≤ 2) × (new ≡ old)
GivesEntry old (Some x) new = Gives old x new
