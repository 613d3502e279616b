-- One record: what it asks of the tables, and what comes of it.
use Rattle.std.specs.Prelude.{ℕ, ◌+◌, ◌*◌, ◌≤◌, ◌≡◌, true, List, length, Result, Ok}
use Rattle.field.specs.declared.refusal.Refusal.{Refusal}
use Rattle.module.specs.declared.record.Mark.{Mark}
use Rattle.module.specs.declared.tables.Counts.{Counts}
use Rattle.module.specs.Record.{length_at}
use Rattle.module.specs.File.{Next, placed}
use Rattle.module.specs.Scan.{Fresh}
use Rattle.reading.specs.declared.room.Room.{Room}
use Rattle.reading.specs.Progress.{Progress, Ready}
use Rattle.reading.specs.Ends.{next_of}

-- where the next record begins
abbrev pub after : List ℕ → ℕ → ℕ
after bytes at = at + 4 + length_at bytes at

-- no mark in `seen` is as late as those of the record at `at`
abbrev pub Unseen : List ℕ → ℕ → Type 0
Unseen seen at = Fresh seen (8 * at + 8)

-- between two records
pub record Between (bytes t seen : List ℕ) (c : Counts) (at : ℕ) : Type 0 where
  pub progress : Progress bytes t c at
  pub unseen : Unseen seen at

-- before the body of a record: it is whole, and its mark is in its place
pub record Begun (bytes t seen : List ℕ) (c : Counts) (at : ℕ) (mark : Mark) : Type 0 where
  pub ready : Ready mark bytes t c at
  pub unseen : Unseen seen at
  pub whole : after bytes at ≤ length bytes
  pub in_place : placed mark c.stage ≡ true

-- the step r is `next` of the definition; where the file goes on, it does so at the next record
pub record Stepped (bytes t seen : List ℕ) (at : ℕ) (next : Next) (r : Result Counts Refusal) : Type 0 where
  pub is : next_of bytes t r ≡ next
  pub progress : (d : Counts) → r ≡ Ok d → Progress bytes t d (after bytes at)
  pub unseen : (d : Counts) → r ≡ Ok d → Unseen seen (after bytes at)

-- the room lends the slices that it did, and they are as long
pub record Kept (old new : Room) : Type 0 where
  pub same_seen : new.seen.ghost_name ≡ old.seen.ghost_name
  pub same_held : new.held.ghost_name ≡ old.held.ghost_name
  pub seen_length : length new.seen.now ≡ length old.seen.now
  pub held_length : length new.held.now ≡ length old.held.now
