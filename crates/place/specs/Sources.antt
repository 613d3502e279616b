-- Sources as the code answers them, and the groups of kinds.
use Rattle.std.specs.Prelude.{ℕ, Bool, true, false, cond, ltb, eqb}
use Rattle.clearance.specs.Scope.{Source, given, from, slot, argument, evaluated}
use Rattle.place.specs.declared.sources.Source as answer
use Rattle.place.specs.declared.sources.Source.TheVariants.{Given, Argument, Evaluated}

-- the source of the expression e that an answer names
abbrev pub source_by : answer.Source → ℕ → Source
source_by Given e = given
source_by (Argument a) e = from (slot (argument a))
source_by Evaluated e = from (slot (evaluated e))

-- the kinds of which an emit gives the value, but for indexes
abbrev pub gives_kind : ℕ → Bool
gives_kind k = cond (ltb k 9) (ltb 5 k) (cond (eqb k 12) true (cond (ltb k 16) false (cond (eqb k 19) false (ltb k 23))))
