-- `memory::memory::note` meets its contract. Assumes nothing.
use mathlib.Core.Path.{sym, ◌∙◌}
use Rattle.memory.proofs.Notes.{note_again, note_put, note_noted}
use Rattle.memory.proofs.memory.note.Goals as goal

pub returns-then-is_record : goal.returns-then-is_record
returns-then-is_record c = note_again c.requires c.piece-p.ensures (sym c.is_record.ensures ∙ c.if-is_record.true)

pub put-requires : goal.put-requires
put-requires c = note_put c.requires c.piece-p.ensures c.make-r.ensures

pub returns : goal.returns
returns c = note_noted c.requires c.piece-p.ensures c.make-r.ensures c.put.ensures
