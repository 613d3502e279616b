-- A type's shape is no void and holds none: by induction over the types, each by its kind.
use Prim.Native.Nat.{ℕ}
use mathlib.Core.Path.{◌≡◌}
use mathlib.Core.Bool.{false}
use Rattle.module.specs.Module.{TypeHandle, TypeInner, Scalar, Vector, Matrix, Atomic, Pointer, Array, Struct, BindingArray, Opaque}
use Rattle.module.proofs.Knot.{knot-all}
use Rattle.clearance.specs.Shape.{Shape, number, is_void}
use Rattle.clearance.specs.Scope.{Scope, inner, member_types, vector_shape, unfold_type, shape_of, slots}
use Rattle.needs.specs.Lean.{Solid}
use Rattle.needs.proofs.Lean.{solid_void}

pub unfold_solid : (w : TypeHandle → Shape) (x : TypeInner) → ((t : TypeHandle) → Solid (w t)) → Solid (unfold_type w x)
unfolding unfold_type vector_shape
unfold_solid w Scalar h = tt
unfold_solid w (Vector n) h = λ j l m. tt
unfold_solid w (Matrix c r) h = λ j l m i k o. tt
unfold_solid w Atomic h = tt
unfold_solid w (Pointer base) h = tt
unfold_solid w (Array base n) h = h base
unfold_solid w (Struct ms) h = λ j l m. h (member_types ms j)
unfold_solid w (BindingArray base) h = h base
unfold_solid w Opaque h = tt

pub solid : (S : Scope) (t : TypeHandle) → Solid (shape_of S t)
unfolding shape_of
solid S t = knot-all (λ e s. Solid s) (λ shape h. unfold_type shape (inner S h)) number (λ e. tt) (λ w e h. unfold_solid w (inner S e) h) t

pub type_fills : (S : Scope) (t : TypeHandle) → is_void (shape_of S t) ≡ false
type_fills S t = solid_void (shape_of S t) (solid S t)

-- slots of solid shapes are a solid shape
pub slots-solid : (n : ℕ) (f : ℕ → Shape) → ((j : ℕ) → Solid (f j)) → Solid (slots n f)
unfolding slots
slots-solid n f h = λ j l m. h _
