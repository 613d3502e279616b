-- The table of the types that hold an array of count 0 or a binding array.
use Rattle.std.specs.Prelude.{◌<◌, ◌≡◌, Bool, List, length}
use Rattle.module.specs.Module.{TypeHandle, TypeInner}
use Rattle.clearance.specs.Scope.{Scope}
use Rattle.clearance.specs.Judged.{holds_unsized}
use Rattle.judge.specs.Marked.{marked}

-- the table decides `holds_unsized` in every scope with these types
pub record UnsizedTable (types : List TypeInner) (table : List Bool) : Type 0 where
  pub long : length table ≡ length types
  pub is : (S : Scope) → S.program.types ≡ types → (t : TypeHandle) → t < length types → marked table t ≡ holds_unsized S t
