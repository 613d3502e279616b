-- The table of the expressions that are paths.
use Rattle.std.specs.Prelude.{◌<◌, ◌≡◌, Bool, true, false, List, length}
use Rattle.module.specs.Module.{ExpressionHandle, Expression, Typed}
use Rattle.module.specs.Way.{Way, constantly, dynamically, to_global, to_local, no_way, way_of}
use Rattle.clearance.specs.Scope.{Scope, is_path}
use Rattle.judge.specs.Marked.{marked}

-- an expression by its way, with `path` what says it of a lower one: a variable, or an index of a path
abbrev pub path_way : (ExpressionHandle → Bool) → Way → Bool
path_way path (constantly base index) = path base
path_way path (dynamically base index) = path base
path_way path (to_global g) = true
path_way path (to_local l) = true
path_way path no_way = false

unfoldable pub path_by : (ExpressionHandle → Bool) → Expression → Bool
path_by path x = path_way path (way_of x)

-- the table decides `is_path` in every scope whose function has these expressions
pub record PathTable (expressions : List Typed) (table : List Bool) : Type 0 where
  pub long : length table ≡ length expressions
  pub is : (S : Scope) → S.function.expressions ≡ expressions → (e : ExpressionHandle) → e < length expressions → marked table e ≡ is_path S e
