-- `marks::places::place_marks` meets its contract. Assumes nothing.
use mathlib.Core.Path.{◌≡◌}
use Rattle.module.specs.Tables.{module_of}
use Rattle.marks.specs.Places.{start_of}
use Rattle.marks.proofs.Placed.{starts_to, firsts_to}
use Rattle.marks.proofs.places.place_marks.Given as goal

abbrev pub invariant-loop-f : goal.invariant-loop-f
invariant-loop-f l = (l.starts ≡ starts_to l.file.bytes l.file.t l.initial.starts l.f) × (l.firsts ≡ firsts_to l.file.bytes l.file.t l.initial.firsts l.f) × (l.at ≡ start_of (module_of l.file.bytes l.file.t) l.f)
