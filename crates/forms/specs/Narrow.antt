-- What taking out costs: so many cells a level, since no value has more parts than that, but for arrays, which are never split.
use Rattle.std.specs.Prelude.{ℕ, ◌≤◌, cond, eqb}
use Rattle.part.specs.PartReq.{PartReq, all, more}
use Rattle.clearance.specs.Shape.{Shape, number, void, struct, array, keep}

-- the most members, components or columns
abbrev pub level_cells : ℕ
level_cells = 16

-- a value's shape, at every depth
abbrev pub Narrow : Shape → Type 0
Narrow number = Unit {0}
Narrow void = Unit {0}
Narrow (struct b n f) = (n ≤ level_cells) × ((j : ℕ) → Narrow (f j))
Narrow (array n t) = Narrow t

-- the member k before those of r: what is left of it, d, where it is the member i; else all
unfoldable pub or_all : ℕ → ℕ → PartReq → PartReq → PartReq
or_all k i d r = cond (eqb k i) (keep k d r) (more k all r)
