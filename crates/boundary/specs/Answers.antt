-- The numbers that a caller gets, and what is left of the slice that it lends.
use Rattle.std.specs.Prelude.{ℕ, ◌+◌, ◌*◌, ◌≡◌, List, length, Result, Ok, Err}
use Rattle.std.specs.Option.{unwrap_or}
use Rattle.field.specs.Refusal.{number}
use Rattle.module.specs.Module.{Binding, FunctionHandle, Module}
use Rattle.module.specs.File.{Answer, accepted, refused, read_module}
use Rattle.bindings.specs.ContextBindings as bindings
use Rattle.bindings_request.specs.Boundary.{output_bytes, add_bytes, left}
use Rattle.bindings_request.specs.Inputs.{input_bytes}
use Rattle.bindings_request.specs.declared.answer.Refused.{Refused}
use Rattle.boundary.specs.declared.answer.Numbered.{Numbered}

-- reading's answer: 0, or the refusal's number
unfoldable pub answer_number : Answer → ℕ
answer_number (accepted m) = 0
answer_number (refused n) = n

abbrev pub read_number : List ℕ → ℕ
read_number bytes = answer_number (read_module bytes)

-- An answer as one number: how many bytes were written, which is below 2^32; or 2^32 times the refusal's number, and for 13, which
-- alone tells one, the argument is added.
unfoldable pub answer_word : bindings.Answer (List ℕ) → ℕ
answer_word (bindings.refused n) = 4294967296 * n
answer_word (bindings.refused_at n i) = 4294967296 * n + i
answer_word (bindings.accepted s) = length s

-- what an operation of the code tells, with its refusal by number
abbrev pub numbered : Refused → Numbered
numbered e = record { number = number e.by; argument = e.argument }

-- the same of that
unfoldable pub word_of : Result ℕ Numbered → ℕ
word_of (Err e) = 4294967296 * e.number + unwrap_or e.argument 0
word_of (Ok n) = n

-- from the slice o, p was left, and the number r says the answer
pub record Answers (o p : List ℕ) (answer : bindings.Answer (List ℕ)) (r : ℕ) : Type 0 where
  pub is : r ≡ answer_word answer
  pub out : p ≡ left o answer

-- the file's refusal comes first
unfoldable pub of_module : Answer → (Module → bindings.Answer (List ℕ)) → bindings.Answer (List ℕ)
of_module (refused n) k = bindings.refused n
of_module (accepted m) k = k m

-- `output_from_bindings` of the function f, where the lent slice has so many bytes
abbrev pub output_answer : (bytes : List ℕ) (room : ℕ) → FunctionHandle → (list : List Binding) → bindings.Answer (List ℕ)
output_answer bytes room f list = of_module (read_module bytes) (λ m. output_bytes m room f list)

-- `add_binding` to a request
abbrev pub add_answer : (bytes : List ℕ) (room : ℕ) → Binding → (request : List ℕ) → bindings.Answer (List ℕ)
add_answer bytes room b request = of_module (read_module bytes) (λ m. add_bytes m room b request)

-- `input_to_bindings` of the function f
abbrev pub input_answer : (bytes : List ℕ) (room : ℕ) → FunctionHandle → (context : List ℕ) → bindings.Answer (List ℕ)
input_answer bytes room f context = of_module (read_module bytes) (λ m. input_bytes m room f context)
