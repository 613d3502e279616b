-- What the operations on bindings answer, from bytes to bytes. Of the numbers 20 is our own: the lent slice has fewer bytes than a report buffer.
use Rattle.std.specs.Prelude.{ℕ, ◌+◌, ◌*◌, ◌≤◌, ◌≡◌, cond, List, eqb, ltb, length, Option, Some, None, Result, Ok, Err}
use Rattle.std.proofs.lemmas.List.Edits.{sets}
use Rattle.field.specs.Limits.{max_pieces, min_report}
use Rattle.field.specs.Refusal.{number}
use Rattle.field.specs.declared.refusal.Refusal.{Refusal}
use Rattle.part.specs.StoreLimits.{cell_words, store_words, table_words}
use Rattle.module.specs.Module.{Binding, FunctionHandle, Module}
use Rattle.module.specs.Operands.{bindings}
use Rattle.module.specs.File.{accepted as is_read, read_module}
use Rattle.module.specs.Tables.{module_of}
use Rattle.context.specs.Types.{types_of}
use Rattle.context.specs.RequiredContext.{RequiredContext, return_entry}
use Rattle.request.specs.Fields as reading
use Rattle.request.specs.Request.{Request, read_request, write_request}
use Rattle.bindings.specs.ContextBindings.{Answer, refused, refused_at, accepted, are_bindings, output_request, add_request}
use Rattle.bindings.specs.Outputs.{output_cells, request_context}
use Rattle.bindings_request.specs.declared.answer.Refused.{Refused}

-- the module was read: t has its tables, and `types` its types by row
pub record Tables (bytes t types : List ℕ) : Type 0 where
  pub read : read_module bytes ≡ is_read (module_of bytes t)
  pub rows : types_of types ≡ (module_of bytes t).types

-- a store with room for a request, for the pieces of types and for what is asked
pub record Lent (cells parts request : List ℕ) : Type 0 where
  pub fits : length cells ≤ store_words
  pub room : cell_words * (4 + (output_cells parts + max_pieces)) + table_words + 2 * length request ≤ length cells

-- reading says 18 of a report buffer, where the slice for the answer is 20
unfoldable pub own_number : ℕ → ℕ
own_number n = cond (eqb n 18) 20 n

unfoldable pub on_read : reading.Answer Request → (Request → Answer (List ℕ)) → Answer (List ℕ)
on_read (reading.refused n) k = refused (own_number n)
on_read (reading.accepted q) k = k q

-- the bytes of the request for the function f that a context is
unfoldable pub written : FunctionHandle → Answer RequiredContext → Answer (List ℕ)
written f (refused n) = refused n
written f (refused_at n i) = refused_at n i
written f (accepted c) = accepted (write_request f c.retval c.globals)

-- `add_binding` on a request's bytes, where the answer's slice has so many: 12, 11, 20, 15, 16
unfoldable pub add_bytes : Module → (room : ℕ) → Binding → List ℕ → Answer (List ℕ)
add_bytes m room b s =
    cond (ltb b bindings)
    (on_read (read_request m room s) (λ q. written q.function (add_request m q.function b (request_context q.globals (return_entry q.retval)))))
    (refused 12)

-- `output_from_bindings` as a request's bytes: 12, 11, 20, 15, 16
unfoldable pub output_bytes : Module → (room : ℕ) → FunctionHandle → List Binding → Answer (List ℕ)
output_bytes m room f bs =
    cond (are_bindings bs)
    (cond (ltb f (length m.functions))
    (cond (ltb room min_report) (refused 20) (written f (output_request m f bs)))
    (refused 11))
    (refused 12)

-- an error of a refusal alone
abbrev pub refused_by : Refusal → Refused
refused_by r = record { by = r; argument = None }

-- what the code tells: how many bytes were written, or a refusal by its number, and its argument
abbrev pub refusal_said : ℕ → Option ℕ → Answer ℕ
refusal_said n None = refused n
refusal_said n (Some i) = refused_at n i

abbrev pub said : Result ℕ Refused → Answer ℕ
said (Err e) = refusal_said (number e.by) e.argument
said (Ok n) = accepted n

-- what is told of an answer, and what is left of the slice o: what lies past the bytes stays
unfoldable pub told : Answer (List ℕ) → Answer ℕ
told (refused n) = refused n
told (refused_at n i) = refused_at n i
told (accepted s) = accepted (length s)

unfoldable pub left : List ℕ → Answer (List ℕ) → List ℕ
left o (refused n) = o
left o (refused_at n i) = o
left o (accepted s) = sets o 0 s

-- from the slice o, p was left, and r tells the answer
pub record Gave (o p : List ℕ) (answer : Answer (List ℕ)) (r : Result ℕ Refused) : Type 0 where
  pub is : said r ≡ told answer
  pub out : p ≡ left o answer
