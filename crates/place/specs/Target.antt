-- What the contracts on a pointer's path cite.
use Rattle.std.specs.Prelude.{ℕ, ◌+◌, ◌-◌, ◌<◌, ◌≤◌, ◌≡◌, Bool, true, false, ◌||◌, List, [], ◌∷◌, ◌++◌, length, take, drop}
use Rattle.module.specs.File.{accepted, read_module}
use Rattle.module.specs.Tables.{function_of, module_of}
use Rattle.access.specs.declared.kinded.Kinded.{Kinded}
use Rattle.access.specs.Access.{expression_row}
use Rattle.clearance.specs.Scope.{Scope, Step, at, by, path_of, indexes, target, is_path}
use Rattle.judge.specs.Given.{scope_at}
use Rattle.place.specs.declared.target.Target.{Target}

-- the row of an expression of a function of a module that was read
pub record At (bytes t : List ℕ) (f e : ℕ) (row : Kinded) : Type 0 where
  pub read : read_module bytes ≡ accepted (module_of bytes t)
  pub function : f < length (module_of bytes t).functions
  pub there : e < length (function_of bytes t f).expressions
  pub is : row ≡ expression_row bytes t f e

-- an expression of such a function that is a path
pub record Pointer (bytes t : List ℕ) (f e : ℕ) : Type 0 where
  pub read : read_module bytes ≡ accepted (module_of bytes t)
  pub function : f < length (module_of bytes t).functions
  pub there : e < length (function_of bytes t f).expressions
  pub path : is_path (scope_at bytes t f) e ≡ true

-- whether a list has an element
abbrev pub any : List ℕ → Bool
any [] = false
any (x ∷ xs) = true

-- path[from..to]
abbrev pub part : List ℕ → (from to : ℕ) → List ℕ
part path from to = take (to - from) (drop from path)

-- r says where the part of its variable stands that the pointer e names for sure
pub record TargetFound (S : Scope) (e : ℕ) (before after : List ℕ) (r : Target) : Type 0 where
  pub low : r.from ≤ r.to
  pub high : r.to ≤ length after
  pub is : part after r.from r.to ≡ target (path_of S e)
  pub dynamic : r.dynamic ≡ any (indexes (path_of S e).steps)
  pub long : length after ≡ length before

-- the constant steps before the first dynamic index; where there is none, with what comes after them
unfoldable pub front_then : List Step → List ℕ → List ℕ
front_then [] ys = ys
front_then (at i ∷ xs) ys = i ∷ front_then xs ys
front_then (by e ∷ xs) ys = []

-- The pointer e, of which the steps after the expression h are passed: what those of h and what stands in the path give is the whole.
pub record Passed (S : Scope) (e : ℕ) (path : List ℕ) (h from to : ℕ) (dynamic : Bool) : Type 0 where
  pub there : h < length S.function.expressions
  pub pointer : is_path S h ≡ true
  pub room : h + 2 ≤ from
  pub low : from ≤ to
  pub high : to ≤ length path
  pub rest : (path_of S h).root ++ front_then (path_of S h).steps (part path from to) ≡ target (path_of S e)
  pub found : (dynamic || any (indexes (path_of S h).steps)) ≡ any (indexes (path_of S e).steps)
