-- What the functions on places of a frame are given, and what they cost.
use Rattle.std.specs.Prelude.{ℕ, ◌+◌, ◌*◌, ◌≤◌, ◌≡◌, List, length, get_or}
use Rattle.part.specs.PartReq.{PartReq, none}
use Rattle.module.specs.Tables.{module_of}
use Rattle.context.specs.Types.{types_of}
use Rattle.clearance.specs.Shape.{Shape, keep, trim}
use Rattle.clearance.specs.Scope.{variable, slots}
use Rattle.forms.specs.ShapeBy.{shape_in}
use Rattle.forms.specs.Narrow.{level_cells}

-- a path that starts at a global, a local or an evaluated expression: neither at an argument nor at the result
pub record Rooted (path : List ℕ) : Type 0 where
  pub long : 2 ≤ length path
  pub kind : variable 0 ≤ get_or path 0 0
  pub argument : get_or path 0 0 ≡ variable 2 → ⊥
  pub result : get_or path 0 0 ≡ variable 3 → ⊥
  pub number : variable 0 ≤ get_or path 1 0

-- the cells that taking a place out makes: the frame's maps and one map's variables anew, and those along the path
abbrev pub place_cells : List ℕ → ℕ
place_cells path = 128 + level_cells * length path

-- the shape of a module's globals, and what a request asks of them within it: the frame's and the clearance's (proofs/Trimming)
unfoldable pub globals_shape : List ℕ → List ℕ → List ℕ → Shape
globals_shape bytes t types = slots (length (module_of bytes t).globals) (λ g. shape_in (types_of types) (get_or (module_of bytes t).globals g 0))

unfoldable pub trim_globals : List ℕ → List ℕ → List ℕ → PartReq → PartReq
trim_globals bytes t types p = keep (variable 0) (trim p (globals_shape bytes t types)) none
