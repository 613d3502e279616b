-- Where the values of a run are that have a type: every slot but the returned value's, which no act reads or gives.
use Rattle.std.specs.Prelude.{ℕ, ◌<◌, ◌≡◌, false, List, [], ◌++◌, length, get_or}
use Rattle.module.specs.Module.{TypeHandle, TypeInner}
use Rattle.clearance.specs.Shape.{is_void, shape_at}
use Rattle.clearance.specs.Scope.{Scope, shape_of, unfold_type, Slot, global, local, argument, result, evaluated, slot, type_of, argument_type, frame, Place, Path, indexes, target}
use Rattle.framed.specs.Same.{SameShape}

abbrev pub There : Scope → Slot → Type 0
There S (global g) = g < length S.program.globals
There S (local l) = l < length S.function.locals
There S (argument a) = a < length S.function.arguments
There S result = ⊥
There S (evaluated e) = e < length S.function.expressions

abbrev pub slot_type : Scope → Slot → TypeHandle
slot_type S (global g) = get_or S.program.globals g 0
slot_type S (local l) = get_or S.function.locals l 0
slot_type S (argument a) = argument_type S.function.arguments a
slot_type S result = 0
slot_type S (evaluated e) = type_of S e

-- a place within the value of a slot
pub record Placed (S : Scope) (q : Place) : Type 0 where
  pub home : Slot
  pub path : List ℕ
  pub there : There S home
  pub is : q ≡ slot home ++ path
  pub within : is_void (shape_at (frame S) q) ≡ false

-- Where a path leads that stands for something of the type x: to a place within a slot; and with no dynamic index, to what has that type's shape.
pub record Landed (S : Scope) (p : Path) (x : TypeInner) : Type 0 where
  pub place : Placed S (target p)
  pub exact : indexes p.steps ≡ [] → SameShape (shape_at (frame S) (target p)) (unfold_type (shape_of S) x)
