-- `marks::places::place_statements` meets its contract. Assumes nothing.
use mathlib.Core.Path.{◌≡◌}
use Rattle.module.specs.Tables.{module_of}
use Rattle.marks.specs.Places.{placed_in, mark_place}
use Rattle.marks.proofs.places.place_statements.Given as goal

abbrev pub invariant-loop-s : goal.invariant-loop-s
invariant-loop-s l = (l.firsts ≡ placed_in l.file.bytes l.file.t l.f.0 l.initial.firsts l.s) × (l.at ≡ mark_place (module_of l.file.bytes l.file.t) l.f.0 l.s)
