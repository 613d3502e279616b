-- The shape that a form stands for, by the table of types: in every scope with these types it is the clearance's (proofs/Shapes).
use Rattle.std.specs.Prelude.{ℕ, ◌≡◌, List, get_or, Option, Some, None}
use Rattle.part.specs.PartReq.{all}
use Rattle.module.specs.Module.{TypeHandle, TypeInner, Opaque}
use Rattle.module.specs.Knot.{knot}
use Rattle.context.specs.Types.{types_of}
use Rattle.clearance.specs.Shape.{Shape, number, void, struct, split}
use Rattle.clearance.specs.Scope.{vector_shape, unfold_type}
use Rattle.forms.specs.declared.form.Form.{Form}
use Rattle.forms.specs.declared.form.Form.TheVariants.{Void, Number, Vector, Of}

-- `shape_of`, which looks at a scope's types alone
unfoldable pub shape_in : List TypeInner → TypeHandle → Shape
shape_in types t = knot (λ shape h. unfold_type shape (get_or types h Opaque)) number t

abbrev pub shape_by : List ℕ → Form → Shape
shape_by types Void = void
shape_by types Number = number
shape_by types (Vector n) = vector_shape n
shape_by types (Of t) = shape_in (types_of types) t.0

-- the shape has n parts, with the indexes from 0 on
pub record Members (t : Shape) (n : ℕ) : Type 0 where
  pub part : ℕ → Shape
  pub is : t ≡ struct 0 n part

-- how all of the shape is split: not at all, or into so many parts
abbrev pub Parted : Shape → Option ℕ → Type 0
Parted t None = split t all ≡ all
Parted t (Some n) = Members t n
