-- `input_to_bindings` from a context's bytes to the bytes of the bindings list.
use Rattle.std.specs.Prelude.{ℕ, ◌≡◌, cond, List, ltb, length, Result}
use Rattle.std.proofs.Math.Option.{Option, some, none as nothing}
use Rattle.field.specs.Limits.{max_pieces}
use Rattle.module.specs.Module.{FunctionHandle, Function, Module}
use Rattle.module.specs.Operands.{bindings}
use Rattle.context.specs.RequiredContext.{RequiredContext, pieces}
use Rattle.request.specs.Context.{context_of, known_context, read_context}
use Rattle.context_bytes.specs.Checked.{status_of}
use Rattle.bindings.specs.Bindings.{Bindings, list_of}
use Rattle.bindings.specs.ContextBindings.{Answer, refused, refused_at, accepted, of_function, input_list}
use Rattle.bindings_request.specs.Boundary.{Gave}
use Rattle.bindings_request.specs.declared.answer.Refused.{Refused}

-- 16 of the context that is given, after 13
unfoldable pub within_pieces : RequiredContext → Answer (List ℕ) → Answer (List ℕ)
within_pieces c (refused n) = refused n
within_pieces c (refused_at n i) = refused_at n i
within_pieces c (accepted s) = cond (ltb max_pieces (pieces c)) (refused 16) (accepted s)

-- the list of a context of the function f, where the answer's slice has so many bytes: 20, 13, 16
unfoldable pub inputs_of : Module → (room : ℕ) → FunctionHandle → RequiredContext → Answer (List ℕ)
inputs_of m room f c = cond (ltb room bindings) (refused 20) (within_pieces c (input_list m f c))

unfoldable pub input_for : Module → (room : ℕ) → FunctionHandle → Option RequiredContext → Answer (List ℕ)
input_for m room f nothing = refused 12
input_for m room f (some c) =
    of_function m.functions f
    (λ x. cond (known_context (length m.globals) (length x.arguments) (length x.locals) c) (inputs_of m room f c) (refused 11))

-- `input_to_bindings` on a context's bytes, of any number: 12, 11, 20, 13, 16
unfoldable pub input_bytes : Module → (room : ℕ) → FunctionHandle → List ℕ → Answer (List ℕ)
input_bytes m room f s = input_for m room f (context_of s)

-- these bytes are a context of the function x, neither 12 nor 11
pub record Accepts (m : Module) (x : Function) (b : List ℕ) : Type 0 where
  pub is : 0 ≡ status_of (read_context m x b)

-- from the slice o, p was left, and a tells the list of s or 16, of the context that bytes mean
pub record ListGiven (b : List ℕ) (s : Bindings) (o p : List ℕ) (a : Result ℕ Refused) : Type 0 where
  pub is : (c : RequiredContext) → context_of b ≡ some c → Gave o p (within_pieces c (accepted (list_of s))) a
