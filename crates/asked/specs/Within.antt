-- What is asked lies within the type of what it is asked of, or is nothing. Then `part_of` trims nothing, and the code need not.
use Rattle.std.specs.Prelude.{ℕ, ◌<◌, ◌≡◌, Bool, true, false, cond, List, length, get_or}
use Rattle.part.specs.PartReq.{PartReq, all, exist, none, more}
use Rattle.clearance.specs.Shape.{Shape, shape_at, some, under}
use Rattle.clearance.specs.Scope.{Scope, shape_of, expressions_of, type_of, frame, Source, given, from, source}
use Rattle.clearance.specs.Needs.{Ask, of_value, of_place}
use Rattle.clearance.specs.IsNeed.{Tidy}

-- A part that is asked of what has the shape t: something within it, nothing, or nothing of one part (of a component that is not needed).
pub data Asked (t : Shape) : PartReq → Type 0 where
  something : {p : PartReq} → some p ≡ true → Tidy p t → Asked t p
  nothing : {p : PartReq} → some p ≡ false → Asked t p
  emptied : {i : ℕ} {p : PartReq} → some p ≡ false → Asked t (more i p none)

-- whether anything is asked
abbrev pub wanted : PartReq → Bool
wanted all = true
wanted exist = false
wanted none = false
wanted (more i p r) = some p

abbrev pub Within : Scope → Ask → Type 0
Within S (of_value v p) = (v < length (expressions_of S)) × Asked (shape_of S (type_of S v)) p
Within S (of_place q p) = Asked (shape_at (frame S) q) p

pub record EachWithin (S : Scope) (xs : List Ask) : Type 0 where
  pub each : (j : ℕ) (d : Ask) → j < length xs → Within S (get_or xs j d)

-- a part of a value, where the value is
unfoldable pub placed : Source → PartReq → PartReq
placed given p = none
placed (from q) p = under q p

-- what an ask adds to the needs, with nothing trimmed
unfoldable pub plain_part : Scope → Ask → PartReq
plain_part S (of_value v p) = cond (wanted p) (placed (source S v) p) none
plain_part S (of_place q p) = cond (wanted p) (under q p) none
