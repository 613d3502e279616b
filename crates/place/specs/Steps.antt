-- One step down a pointer's operands, and what it says of the pointer's dynamic indexes.
use Rattle.std.specs.Prelude.{ℕ, ◌<◌, ◌≡◌, List, [], ◌∷◌, ◌++◌}
use Rattle.module.specs.Module.{Function}
use Rattle.module.specs.Tables.{function_of}
use Rattle.clearance.specs.Scope.{Scope, Place, global, local, slot, further, at, by, path_of, indexes}
use Rattle.judge.specs.Given.{scope_at}
use Rattle.place.specs.declared.pointer.PointerExpression.{PointerExpression}
use Rattle.place.specs.declared.steps.Step.{Step}
use Rattle.place.specs.declared.steps.Step.TheVariants.{Global, Local, Constant, Dynamic}

-- the dynamic indexes of the pointer e
abbrev pub indexes_of : List ℕ → List ℕ → (f e : ℕ) → List ℕ
indexes_of bytes t f e = indexes (path_of (scope_at bytes t f) e).steps

-- the function that a pointer is of, alone and within its module
abbrev pub function_from : PointerExpression → Function
function_from p = function_of p.file.now.bytes p.file.now.t p.f.0

abbrev pub scope_in : PointerExpression → Scope
scope_in p = scope_at p.file.now.bytes p.file.now.t p.f.0

abbrev pub indexes_in : PointerExpression → List ℕ
indexes_in p = indexes (path_of (scope_in p) p.e.0).steps

pub record VariableStep (p : PointerExpression) (place : Place) : Type 0 where
  pub root : (path_of (scope_in p) p.e.0).root ≡ place
  pub alone : (path_of (scope_in p) p.e.0).steps ≡ []
  pub indexes : indexes_in p ≡ []

-- a lower pointer of the same function
pub record Base (p base : PointerExpression) : Type 0 where
  pub scope : scope_in base ≡ scope_in p
  pub lower : base.e.0 < p.e.0

pub record ConstantStep (p base : PointerExpression) (index : ℕ) : Type 0 where
  pub below : Base p base
  pub path : path_of (scope_in p) p.e.0 ≡ further (path_of (scope_in p) base.e.0) (at index)
  pub indexes : indexes_in p ≡ indexes_in base

pub record DynamicStep (p base : PointerExpression) (index : ℕ) : Type 0 where
  pub below : Base p base
  pub index_lower : index < p.e.0
  pub path : path_of (scope_in p) p.e.0 ≡ further (path_of (scope_in p) base.e.0) (by index)
  pub indexes : indexes_in p ≡ indexes_in base ++ (index ∷ [])

abbrev pub StepDown : PointerExpression → Step → Type 0
StepDown p (Global g) = VariableStep p (slot (global g))
StepDown p (Local l) = VariableStep p (slot (local l))
StepDown p (Constant base index) = ConstantStep p base index
StepDown p (Dynamic base index) = DynamicStep p base index.0
