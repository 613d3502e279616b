-- What the code reads of a module: the members in a row of the table of types, and a function's arguments.
use Rattle.std.specs.Prelude.{ℕ, ◌+◌, ◌<◌, ◌≤◌, ◌≡◌, Bool, cond, ◌||◌, List, [], ◌∷◌, eqb, length, get_or, map}
use Rattle.std.specs.Coded.{×_prop, Unit-prop, le_prop}
use Rattle.std.proofs.Math.Option.{Option, some, none as nothing}
use Rattle.field.specs.Limits.{max_arguments}
use Rattle.module.specs.Module.{TypeHandle, Binding, Member, TypeInner, Scalar, Vector, Matrix, Atomic, Pointer, Array, Struct, BindingArray, Opaque, FunctionArg}
use Rattle.module.specs.Operands.{bindings}
use Rattle.module.specs.Decode.{tab, member_of}
use Rattle.access.specs.Access.{number_in, arg_from}
use Rattle.access.specs.declared.whole.Bound.{Bound}
use Rattle.context.specs.Types.{type_word, type_kind}

-- the member i of the row t
abbrev pub row_member : List ℕ → ℕ → ℕ → Member
row_member table t i = member_of (λ j. type_word table t (1 + j)) i

-- how many members the type t has
unfoldable pub member_count : List ℕ → ℕ → ℕ
member_count table t = cond (eqb (type_kind table t) 6) (type_word table t 1) 0

unfoldable pub members_of : List ℕ → ℕ → List Member
members_of table t = tab (member_count table t) (row_member table t)

-- a pointer, an array or a binding array
unfoldable pub is_base : ℕ → Bool
is_base kind = eqb kind 4 || (eqb kind 5 || eqb kind 7)

-- a binding that a file may have
abbrev pub BindingFits : Option Binding → Type 0
BindingFits nothing = Unit {0}
BindingFits (some b) = b < bindings

abbrev pub BoundMembers : List Member → Type 0
BoundMembers [] = Unit {0}
BoundMembers (m ∷ ms) = BindingFits m.binding × BoundMembers ms

abbrev pub BoundType : TypeInner → Type 0
BoundType Scalar = Unit {0}
BoundType (Vector size) = Unit {0}
BoundType (Matrix columns rows) = Unit {0}
BoundType Atomic = Unit {0}
BoundType (Pointer base) = Unit {0}
BoundType (Array base count) = Unit {0}
BoundType (Struct members) = BoundMembers members
BoundType (BindingArray base) = Unit {0}
BoundType Opaque = Unit {0}

pub BindingFits-prop : (b : Option Binding) → IsProp (BindingFits b)
BindingFits-prop nothing = Unit-prop
BindingFits-prop (some b) = le_prop

pub BoundMembers-prop : (ms : List Member) → IsProp (BoundMembers ms)
BoundMembers-prop [] = Unit-prop
BoundMembers-prop (m ∷ ms) = ×_prop (BindingFits-prop m.binding) (BoundMembers-prop ms)

-- a type is bound in one way, so that a value can hold the fact
pub BoundType-prop : (x : TypeInner) → IsProp (BoundType x)
BoundType-prop Scalar = Unit-prop
BoundType-prop (Vector size) = Unit-prop
BoundType-prop (Matrix columns rows) = Unit-prop
BoundType-prop Atomic = Unit-prop
BoundType-prop (Pointer base) = Unit-prop
BoundType-prop (Array base count) = Unit-prop
BoundType-prop (Struct members) = BoundMembers-prop members
BoundType-prop (BindingArray base) = Unit-prop
BoundType-prop Opaque = Unit-prop

pub record AllBound (types : List TypeInner) : Type 0 where
  pub each : (t : TypeHandle) → BoundType (get_or types t Opaque)

-- ty and binding are what the row t has for its member i
pub record MemberIs (table : List ℕ) (t i ty : ℕ) (binding : Option Binding) : Type 0 where
  pub type_is : ty ≡ (row_member table t i).type
  pub binding_is : binding ≡ (row_member table t i).binding
  pub bound : BindingFits binding

-- a function's arguments, as they were read
abbrev pub args_of : List Bound → List FunctionArg
args_of arguments = map arg_from arguments

pub record BoundArgs (arguments : List Bound) : Type 0 where
  pub few : length arguments ≤ max_arguments
  pub each : (i : ℕ) (d : Bound) → i < length arguments → BindingFits (number_in (get_or arguments i d).binding)
