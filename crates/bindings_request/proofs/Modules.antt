-- What a module that was read guarantees of its types and its functions' results: their bindings are those that a file may have.
use Prim.Native.Nat.{ℕ, zero, suc, ◌<◌, ◌≤◌}
use native.Mathlib.Omega.{arith}
use native.Mathlib.Decide.{dec_lt}
use mathlib.Core.Path.{◌≡◌, refl, sym, subst}
use mathlib.Core.List.{List, [], ◌∷◌}
use mathlib.Core.Option.{Option, some, none as nothing}
use lib.ListN.{length, get_or, get_or-eq_default}
use Rattle.field.specs.Limits.{max_types, max_globals, max_arguments}
use Rattle.module.specs.Module.{Member, TypeInner, Scalar, Vector, Matrix, Atomic, Pointer, Array, Struct, BindingArray, Opaque, FunctionArg, FunctionResult, Function, Module}
use Rattle.module.specs.Operands.{bindings}
use Rattle.module.specs.Tables.{function_of, module_of}
use Rattle.access.proofs.Access.{function_is}
use Rattle.valid.specs.Valid.{MaybeBelow, TypeFine, ResultBelow, PartsValid, entries_below, Valid}
use Rattle.valid.proofs.Accepted.{valid}
use Rattle.context.specs.Types.{types_of, type_count, AllSized}
use Rattle.type_table.proofs.AllSized.{all_sized}
use Rattle.bindings.specs.ContextBindings.{Answer, refused, of_function}
use Rattle.bindings.specs.Rows.{BindingFits, BoundMembers, BoundType, AllBound}
use Rattle.bindings.specs.Outputs.{BoundResult}
use Rattle.bindings.proofs.Returning.{types_long}
use Rattle.bindings_request.specs.Boundary.{Tables}

maybe_bound : (o : Option ℕ) → MaybeBelow bindings o → BindingFits o
maybe_bound nothing h = tt
maybe_bound (some b) h = h

members_bound : (ms : List Member) → ((i : ℕ) (d : Member) → i < length ms → MaybeBelow bindings (get_or ms i d).binding) → BoundMembers ms
members_bound [] h = tt
members_bound (m ∷ ms) h = (maybe_bound m.binding (h 0 m (omega arith)), members_bound ms (λ i d l. h (suc i) d (omega arith)))

type_bound : (n : ℕ) (x : TypeInner) → TypeFine n x → BoundType x
type_bound n Scalar f = tt
type_bound n (Vector size) f = tt
type_bound n (Matrix columns rows) f = tt
type_bound n Atomic f = tt
type_bound n (Pointer base) f = tt
type_bound n (Array base count) f = tt
type_bound n (Struct members) f = members_bound members (λ i d l. (f i d l).1)
type_bound n (BindingArray base) f = tt
type_bound n Opaque f = tt

all_bound : (m : Module) → Valid m → AllBound m.types
all_bound m v = record { each = each_bound }
  where
    each_bound : (h : ℕ) → BoundType (get_or m.types h Opaque)
    each_bound h =
        elim (dec_lt h (length m.types)) [
          | yes l ↦ type_bound h (get_or m.types h Opaque) (v.types h Opaque l).fine
          | no l ↦ subst BoundType (sym (get_or-eq_default m.types Opaque {n = h} (omega arith))) tt
        ]

below_bound : (types : ℕ) (r : Option FunctionResult) → ResultBelow types r → BoundResult r
below_bound types nothing h = tt
below_bound types (some r) h = maybe_bound r.binding h.1

-- the function f, where there is one
pub of_function-at : {A : Type 0} (xs : List Function) (f : ℕ) (d : Function) (k : Function → Answer A) → f < length xs → of_function xs f k ≡ k (get_or xs f d)
unfolding of_function
of_function-at [] f d k h = absurd (omega arith)
of_function-at (x ∷ xs) zero d k h = refl
of_function-at (x ∷ xs) (suc f) d k h = of_function-at xs f d k (omega arith)

pub of_past : {A : Type 0} (xs : List Function) (f : ℕ) (k : Function → Answer A) → length xs ≤ f → of_function xs f k ≡ refused 11
unfolding of_function
of_past [] f k h = refl
of_past (x ∷ xs) zero k h = absurd (omega arith)
of_past (x ∷ xs) (suc f) k h = of_past xs f k (omega arith)

module _ {bytes t types : List ℕ} (T : Tables bytes t types) where
  sound : Valid (module_of bytes t)
  sound = valid bytes (module_of bytes t) T.read

  pub rows_sized : AllSized (types_of types)
  rows_sized = rw T.rows (all_sized (module_of bytes t) sound)

  pub rows_bound : AllBound (types_of types)
  rows_bound = rw T.rows (all_bound (module_of bytes t) sound)

  pub rows_few : type_count types ≤ max_types
  rows_few = rw (← types_long types, T.rows) sound.few_types

  pub globals-few : length (module_of bytes t).globals ≤ max_globals
  globals-few = sound.few_globals

  pub result-bound : (f : ℕ) → f < length (module_of bytes t).functions → BoundResult (function_of bytes t f).result
  result-bound f h =
      let v = (sound.functions f (function_of bytes t f) h).result in
      below_bound (length (module_of bytes t).types) (function_of bytes t f).result (rw (function_is bytes t f (function_of bytes t f) h) at v)

  parts_valid : (f : ℕ) → f < length (module_of bytes t).functions → PartsValid (length (module_of bytes t).types) (length (module_of bytes t).globals) (entries_below f (module_of bytes t).functions) (function_of bytes t f).arguments (function_of bytes t f).locals (function_of bytes t f).expressions (function_of bytes t f).statements
  parts_valid f h = rw (function_is bytes t f (function_of bytes t f) h) at (sound.functions f (function_of bytes t f) h).parts

  pub arguments-few : (f : ℕ) → f < length (module_of bytes t).functions → length (function_of bytes t f).arguments ≤ max_arguments
  arguments-few f h = (parts_valid f h).few_arguments

  pub argument_bound : (f : ℕ) → f < length (module_of bytes t).functions → (i : ℕ) (d : FunctionArg) → i < length (function_of bytes t f).arguments → BindingFits (get_or (function_of bytes t f).arguments i d).binding
  argument_bound f h i d l = maybe_bound (get_or (function_of bytes t f).arguments i d).binding ((parts_valid f h).each_argument i d l).1
