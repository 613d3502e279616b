-- The types of a module as a table of numbers: a row for each type, with the fields of its record.
use Rattle.std.specs.Prelude.{ℕ, ◌+◌, ◌*◌, ◌/◌, ◌≤◌, max, cond, List, ltb, length, get_or}
use Rattle.std.specs.Coded.{×_prop, Unit-prop, le_prop}
use Rattle.field.specs.Limits.{max_members}
use Rattle.module.specs.Module.{TypeHandle, TypeInner, Scalar, Vector, Matrix, Atomic, Pointer, Array, Struct, BindingArray, Opaque}
use Rattle.module.specs.Decode.{tab, type_inner_of}

-- the words of a row: the kind, and two, or a count with a type and a binding for each member
abbrev pub type_words : ℕ
type_words = 2 + 2 * max_members

-- the word k of the row t
abbrev pub type_word : List ℕ → ℕ → ℕ → ℕ
type_word table t k = get_or table (type_words * t + k) 0

abbrev pub type_count : List ℕ → ℕ
type_count table = length table / type_words

-- the type of the row t
abbrev pub row_type : List ℕ → ℕ → TypeInner
row_type table t = type_inner_of (type_word table t 0) (λ j. type_word table t (1 + j))

-- the types that the table stands for
unfoldable pub types_of : List ℕ → List TypeInner
types_of table = tab (type_count table) (row_type table)

-- the kind of the type t; opaque, where there is none
unfoldable pub type_kind : List ℕ → ℕ → ℕ
type_kind table t = cond (ltb t (type_count table)) (type_word table t 0) 8

-- a type of the sizes that a file may have
abbrev pub Sized : TypeInner → Type 0
Sized Scalar = Unit {0}
Sized (Vector size) = size ≤ 4
Sized (Matrix columns rows) = (columns ≤ 4) × (rows ≤ 4)
Sized Atomic = Unit {0}
Sized (Pointer base) = Unit {0}
Sized (Array base count) = Unit {0}
Sized (Struct members) = length members ≤ max_members
Sized (BindingArray base) = Unit {0}
Sized Opaque = Unit {0}

-- a type has its sizes in one way, so that a value can hold the fact
pub Sized-prop : (x : TypeInner) → IsProp (Sized x)
Sized-prop Scalar = Unit-prop
Sized-prop (Vector size) = le_prop
Sized-prop (Matrix columns rows) = ×_prop le_prop le_prop
Sized-prop Atomic = Unit-prop
Sized-prop (Pointer base) = Unit-prop
Sized-prop (Array base count) = Unit-prop
Sized-prop (Struct members) = le_prop
Sized-prop (BindingArray base) = Unit-prop
Sized-prop Opaque = Unit-prop

pub record AllSized (types : List TypeInner) : Type 0 where
  pub each : (t : TypeHandle) → Sized (get_or types t Opaque)

-- the most entries that a type is split into: of a matrix of 4 columns, or of a struct
abbrev pub split_most : ℕ
split_most = max 20 max_members
