-- The request that asks for bindings: what the store's function answers is what `output_request` says of the function.
use Prim.Native.Nat.{ℕ, ◌≤◌, ◌<◌}
use native.Mathlib.Omega.{arith}
use mathlib.Core.Path.{◌≡◌, sym, subst, ◌∙◌}
use mathlib.Core.Bool.{true, false}
use mathlib.Core.List.{List, []}
use lib.ListN.{length}
use borrow.Author.Tests.{lt-ltb, le-ltb}
use Rattle.std.specs.Prelude.{Option, Some, None, Result, Err}
use Rattle.field.specs.declared.refusal.Refusal.{Refusal}
use Rattle.field.specs.declared.refusal.Refusal.TheVariants.{Malformed, NoSuch, AnswerTooShort}
use Rattle.field.specs.Limits.{min_report}
use Rattle.part.specs.PartReq.{none}
use Rattle.part.specs.Store.{top, part, Good, Room}
use Rattle.part.proofs.Pieces.{part-2}
use Rattle.module.specs.Tables.{function_of, module_of}
use Rattle.access.specs.Access.{result_from}
use Rattle.access.specs.declared.whole.Bound.{Bound as TypeBound}
use Rattle.access.proofs.Access.{function_is}
use Rattle.context.specs.Types.{types_of, type_count}
use Rattle.bindings.specs.Bindings.{set_of}
use Rattle.bindings.specs.ContextBindings.{output_from_bindings, as_request, are_bindings, output_request}
use Rattle.bindings.specs.Outputs.{BoundResult, output_cells, asking_of, AskingHeld, Asked}
use Rattle.bindings_request.specs.Boundary.{Tables, Lent, written, output_bytes, refused_by, Gave}
use Rattle.bindings_request.specs.Listed.{SetIs}
use Rattle.bindings_request.specs.declared.answer.Refused.{Refused}
use Rattle.bindings_request.proofs.Modules.{of_function-at, rows_few, result-bound}
use Rattle.bindings_request.proofs.Answers.{gave_refused}

module _ (bytes t bs : List ℕ) (room f : ℕ) where
  pub output_malformed : {o : List ℕ} {r : Option ℕ} → SetIs bs r → r ≡ None → Gave o o (output_bytes (module_of bytes t) room f bs) (Err (refused_by Malformed))
  unfolding output_bytes
  output_malformed {r = r} S e = let z : are_bindings bs ≡ false = subst (SetIs bs) e S in gave_refused Malformed (rw z)

  module _ {r : Option ℕ} {s : ℕ} (S : SetIs bs r) (e : r ≡ Some s) {functions : ℕ} (F : functions ≡ length (module_of bytes t).functions) where
    set_is : (are_bindings bs ≡ true) × (s ≡ set_of bs)
    set_is = subst (SetIs bs) e S

    pub output_no_such : {o : List ℕ} → functions ≤ f → Gave o o (output_bytes (module_of bytes t) room f bs) (Err (refused_by NoSuch))
    unfolding output_bytes
    output_no_such h = gave_refused NoSuch (rw (set_is.0, le-ltb f (length (module_of bytes t).functions) (rw (← F) h)))

    module _ (h : f < functions) where
      low : f < length (module_of bytes t).functions
      low = rw (← F) h

      pub output_short : {o : List ℕ} → room < min_report → Gave o o (output_bytes (module_of bytes t) room f bs) (Err (refused_by AnswerTooShort))
      unfolding output_bytes
      output_short l = gave_refused AnswerTooShort (rw (set_is.0, lt-ltb f (length (module_of bytes t).functions) low, lt-ltb room min_report l))

      module _ {types : List ℕ} (T : Tables bytes t types) (x : Option TypeBound) (R : result_from x ≡ (function_of bytes t f).result) where
        result-is : (function_of bytes t f).result ≡ result_from x
        result-is = sym R

        pub output_asks : {cells parts u : List ℕ} → length parts ≡ type_count types → Lent cells parts [] → Good u → top u ≡ 3 → length u ≡ length cells
            → Good u × (((length parts ≡ type_count types) × (length parts ≤ 4294967295)) × (BoundResult (result_from x) × Room u (output_cells parts)))
        output_asks l L g th lh =
            let big = L.room in
            (g, ((l, omega (arith, rows_few T)), (rw (← result-is) (result-bound T f low), omega arith)))

        output-request : output_request (module_of bytes t) f bs ≡ as_request (output_from_bindings (types_of types) s (function_of bytes t f)) (output_from_bindings (types_of types) s (function_of bytes t f))
        unfolding output_request
        output-request =
            rw (set_is.0, of_function-at (module_of bytes t).functions f (function_of bytes t f) (λ y. as_request (output_from_bindings (module_of bytes t).types (set_of bs) y) (output_from_bindings (module_of bytes t).types (set_of bs) y)) low, function_is bytes t f (function_of bytes t f) low, T.rows, set_is.1)

        module _ {u v : List ℕ} {a : Result ℕ Refusal} (A : Asked u v (result_from x) none (λ y. as_request (output_from_bindings (types_of types) s y) (output_from_bindings (types_of types) s y)) a) where
          pub output_write_asks : {n l : ℕ} → n ≤ l → Good v × (((2 < top v) × AskingHeld v (part v 2) a) × (n ≤ l))
          output_write_asks r = (A.kept.good, ((omega (arith, A.kept.good.base), rw (part-2 v) A.held), r))

          pub output_gave : {o p : List ℕ} {b : Result ℕ Refused} → min_report ≤ room → Gave o p (written f (asking_of v (part v 2) a)) b → Gave o p (output_bytes (module_of bytes t) room f bs) b
          unfolding output_bytes
          output_gave l g =
              let same : asking_of v (part v 2) a ≡ output_request (module_of bytes t) f bs = rw (part-2 v) (A.is (function_of bytes t f) result-is ∙ sym output-request) in
              rw (set_is.0, lt-ltb f (length (module_of bytes t).functions) low, le-ltb room min_report l) (rw same at g)
