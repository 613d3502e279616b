-- `input_to_bindings`, `output_from_bindings` and `add_binding` of RequiredContext, and what each turns away.
use Rattle.std.specs.Prelude.{ℕ, zero, suc, Bool, true, cond, ◌&&◌, ◌||◌, List, [], ◌∷◌, ltb}
use Rattle.std.proofs.Math.Option.{Option, some, none as nothing}
use Rattle.field.specs.Limits.{max_pieces}
use Rattle.part.specs.PartReq.{PartReq, all, exist, none, more, Subpart, gone, there, get_subpart, add, over}
use Rattle.module.specs.Module.{Binding, TypeInner, FunctionArg, FunctionResult, FunctionHandle, Function, Module}
use Rattle.module.specs.Operands.{bindings}
use Rattle.context.specs.RequiredContext.{RequiredContext, variable, pieces, return_entry}
use Rattle.bindings.specs.Bindings.{Bindings, empty, single, union, own_binding, set_of, list_of}
use Rattle.bindings.specs.TypeBindings.{get_type_bindings, from_binding, from_type_bindings}

-- the bindings that are needed, or the assertion at an argument that has a binding and is not needed whole
pub data Needed : Type 0 where
  needed : Bindings → Needed
  asserts : (argument : ℕ) → Needed

-- a part of the argument i, below which s is needed: the assertion, where the argument is bound
unfoldable pub bound_part : ℕ → Option Binding → Bindings → Needed
bound_part i nothing s = needed s
bound_part i (some b) s = asserts i

-- what is needed of the argument i, of which the subpart is asked
unfoldable pub arg_bindings : List TypeInner → ℕ → FunctionArg → Subpart → Needed
arg_bindings types i a gone = needed empty
arg_bindings types i a (there all) = needed (union (own_binding a.binding) (get_type_bindings types all a.type))
arg_bindings types i a (there exist) = needed empty
arg_bindings types i a (there none) = bound_part i a.binding (get_type_bindings types none a.type)
arg_bindings types i a (there (more j q r)) = bound_part i a.binding (get_type_bindings types (more j q r) a.type)

-- both; the first assertion is the one that is met
unfoldable pub both : Needed → Needed → Needed
both (asserts i) n = asserts i
both (needed s) (needed t) = needed (union s t)
both (needed s) (asserts j) = asserts j

-- of the arguments from i on, where `args` has an entry for each that is needed
unfoldable pub args_bindings : List TypeInner → PartReq → ℕ → List FunctionArg → Needed
args_bindings types args i [] = needed empty
args_bindings types args i (a ∷ as') =
    both (arg_bindings types i a (get_subpart args (variable i))) (args_bindings types args (suc i) as')

-- `input_to_bindings`
unfoldable pub input_to_bindings : List TypeInner → Function → RequiredContext → Needed
input_to_bindings types f c = args_bindings types c.args 0 f.arguments

unfoldable pub result_from : List TypeInner → Bindings → Option FunctionResult → Option PartReq
result_from types required nothing = nothing
result_from types required (some r) = from_binding (from_type_bindings types required) required r.binding r.type

-- `output_from_bindings`
unfoldable pub output_from_bindings : List TypeInner → Bindings → Function → RequiredContext
output_from_bindings types required f =
    record { globals = none; locals = none; args = none; retval = return_entry (result_from types required f.result) }

-- `add_binding`: what stands there and what is new are added, where both are there (`add-returned`)
unfoldable pub add_binding : List TypeInner → Binding → Function → RequiredContext → RequiredContext
add_binding types b f c =
    record {
      globals = c.globals;
      locals = c.locals;
      args = c.args;
      retval = add c.retval (output_from_bindings types (single b) f).retval;
    }

-- What an operation answers: a refusal by 01's number, 13 with the argument, or what it made.
pub data Answer (A : Type 0) : Type 0 where
  refused : (number : ℕ) → Answer A
  refused_at : (number argument : ℕ) → Answer A
  accepted : A → Answer A

-- of the function f, where there is one: 11
unfoldable pub of_function : {A : Type 0} → List Function → FunctionHandle → (Function → Answer A) → Answer A
of_function [] f k = refused 11
of_function (x ∷ xs) zero k = k x
of_function (x ∷ xs) (suc f) k = of_function xs f k

unfoldable pub listed : Needed → Answer (List Binding)
listed (needed s) = accepted (list_of s)
listed (asserts i) = refused_at 13 i

-- The bindings list of a context of the function f: 11, 13. It makes no part, so there is no 15; 16 is of the context that was given
-- (bindings_request's `within_pieces`).
unfoldable pub input_list : Module → FunctionHandle → RequiredContext → Answer (List Binding)
input_list m f c = of_function m.functions f (λ x. listed (input_to_bindings m.types x c))

-- 15 of the part that the bindings came to, used or not, and of the request as it would be; 16 of that request
unfoldable pub as_request : (new c : RequiredContext) → Answer RequiredContext
as_request new c =
    cond (over new.retval || over c.retval) (refused 15) (cond (ltb max_pieces (pieces c)) (refused 16) (accepted c))

-- what a binding is below that stands before these: the first of them, or 64
unfoldable pub binding_after : List Binding → ℕ
binding_after [] = bindings
binding_after (b ∷ bs) = b

-- whether they ascend strictly to at most 63 (`bindings_ascend`, `bindings-low`, `ascending_are`)
unfoldable pub are_bindings : List Binding → Bool
are_bindings [] = true
are_bindings (b ∷ bs) = ltb b (binding_after bs) && are_bindings bs

-- The request that asks for these bindings of the function f: 12, 11, 15, 16.
unfoldable pub output_request : Module → FunctionHandle → List Binding → Answer RequiredContext
output_request m f bs =
    cond (are_bindings bs) (of_function m.functions f (λ x. let new = output_from_bindings m.types (set_of bs) x in as_request new new)) (refused 12)

-- A request of the function f that asks for one more: 12, 11, 15, 16.
unfoldable pub add_request : Module → FunctionHandle → Binding → RequiredContext → Answer RequiredContext
add_request m f b c =
    cond (ltb b bindings)
    (of_function m.functions f (λ x. as_request (output_from_bindings m.types (single b) x) (add_binding m.types b x c)))
    (refused 12)
