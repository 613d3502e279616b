-- Needs as the code keeps them. What it keeps is trimmed already (`Tidy`), so it trims nothing again: `trim` over what is shared would cost what the need would, written
-- out. It asks for the part at a path as it stands there (`below`), puts a part at a path (`under`), and takes a part out by changing the cells along its path alone.
use Rattle.std.specs.Prelude.{ℕ, ◌+◌, ◌<◌, ◌≤◌, cond, List, [], ◌∷◌, ltb}
use Rattle.part.specs.PartReq.{PartReq, all, exist, none, more}
use Rattle.clearance.specs.Shape.{Shape, number, void, struct, array, member, is_whole, split, keep}

-- the entry i as f leaves it, dropped where that is nothing
unfoldable pub change : ℕ → (PartReq → PartReq) → PartReq → PartReq
change i f all = all
change i f exist = exist
change i f none = none
change i f (more j p r) = cond (ltb j i) (more j p (change i f r)) (cond (ltb i j) (more j p r) (keep j (f p) r))

-- what is left of a need when the part at a path is taken out, with what that empties
unfoldable pub leaves : Shape → PartReq → List ℕ → PartReq
leaves t p [] = none
leaves t p (i ∷ q) = cond (is_whole t) p (change i (λ c. leaves (member t i) c q) (split t p))

-- a value's shape: it is no void, and holds none
abbrev pub Solid : Shape → Type 0
Solid number = Unit {0}
Solid void = ⊥
Solid (struct b n f) = (j : ℕ) → b ≤ j → j < b + n → Solid (f j)
Solid (array n t) = Solid t
