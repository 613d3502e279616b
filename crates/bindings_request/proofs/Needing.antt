-- The bindings list of a context's bytes: what checking the context answers, and then what is found in it.
use Prim.Native.Nat.{ℕ, zero, suc, ◌+◌, ◌≤◌, ◌<◌}
use native.Mathlib.Omega.{arith}
use mathlib.Core.Path.{◌≡◌, refl, sym, ◌∙◌}
use mathlib.Core.Bool.{Bool, true, false, cond}
use mathlib.Core.List.{List, [], ◌∷◌, ◌++◌}
use mathlib.Core.Option.{Option, some, none as nothing}
use lib.ListN.{length, drop, length-append}
use lib.Seq.{sets, sets-eq}
use borrow.Author.Tests.{lt-ltb, le-ltb}
use Rattle.std.specs.Prelude.{Result, Ok, Err}
use Rattle.field.specs.Refusal.{number}
use Rattle.field.specs.declared.refusal.Refusal.{Refusal}
use Rattle.field.specs.declared.refusal.Refusal.TheVariants.{PiecesLimit, AnswerTooShort}
use Rattle.field.specs.Limits.{max_pieces}
use Rattle.module.specs.Module.{Function, Module}
use Rattle.module.specs.Operands.{bindings}
use Rattle.module.specs.Tables.{function_of, module_of}
use Rattle.access.proofs.Access.{function_is}
use Rattle.context.specs.Types.{types_of}
use Rattle.context.specs.RequiredContext.{RequiredContext}
use Rattle.request.specs.Fields as reading
use Rattle.request.specs.Context.{context_of, known_context, judge_context, read_context}
use Rattle.context_bytes.specs.Checked.{status_of, without_function}
use Rattle.context_bytes.specs.Counted.{PiecesCounted}
use Rattle.context_bytes.specs.Found.{list_in, ListReadable, ArgsIn}
use Rattle.context_bytes.proofs.Found.{list_there}
use Rattle.context_bytes.proofs.Status.{Known, status_known, status_refused}
use Rattle.bindings.specs.Bindings.{contains, list_below, list_of}
use Rattle.access.specs.declared.whole.Bound.{Bound}
use Rattle.bindings.specs.Rows.{args_of}
use Rattle.bindings.specs.ContextBindings.{args_bindings, input_to_bindings, Answer, refused, accepted, listed, input_list}
use Rattle.bindings_request.specs.declared.needed.Asserts.{Asserts}
use Rattle.bindings_request.specs.Boundary.{Tables, refused_by, told, left, Gave}
use Rattle.bindings_request.specs.Inputs.{within_pieces, inputs_of, input_for, input_bytes, Accepts, ListGiven}
use Rattle.bindings_request.specs.Walks.{needed_of, asserted}
use Rattle.bindings_request.specs.declared.answer.Refused.{Refused}
use Rattle.bindings_request.proofs.Modules.{of_function-at, of_past}
use Rattle.bindings_request.proofs.Answers.{gave_refused}

-- stores from the first place on
front : (l o : List ℕ) → length l ≤ length o → sets o 0 l ≡ l ++ drop (length l) o
front l o h = let z : 0 + length l ≡ length l = omega arith in sets-eq l o 0 (omega arith) ∙ rw z

one_more : (b : Bool) (l : List ℕ) (x n : ℕ) → length l ≤ n → length (cond b (l ++ (x ∷ [])) l) ≤ suc n
one_more true l x n h = omega (arith, length-append l (x ∷ []))
one_more false l x n h = omega arith

below_short : (n s : ℕ) → length (list_below n s) ≤ n
unfolding list_below
below_short zero s = omega arith
below_short (suc n) s = one_more (contains s n) (list_below n s) n n (below_short n s)

-- the list, by how many pieces the context has
module _ (b : List ℕ) (s : ℕ) {k : ℕ} (C : PiecesCounted b k) where
  pub given_many : {o : List ℕ} → max_pieces < k → ListGiven b s o o (Err (refused_by PiecesLimit))
  unfolding within_pieces
  given_many h = record { is = λ c e. gave_refused PiecesLimit (rw (← C.is c e, lt-ltb max_pieces k h)) }

  within_is : (c : RequiredContext) → context_of b ≡ some c → k ≤ max_pieces → within_pieces c (accepted (list_of s)) ≡ accepted (list_of s)
  unfolding within_pieces
  within_is c e h = rw (← C.is c e, le-ltb max_pieces k h)

  pub given_list : {o p : List ℕ} {r : ℕ} → k ≤ max_pieces → bindings ≤ length o → (r ≡ length (list_of s)) × (p ≡ list_of s ++ drop (length (list_of s)) o) → ListGiven b s o p (Ok r)
  unfolding told left
  given_list {o} {p} h fits w =
      record {
        is =
            λ c e.
            rw (within_is c e h) (record { is = rw w.0; out = w.1 ∙ sym (front (list_of s) o (omega (arith, below_short bindings s))) });
      }

-- a context of no function
past_is : (m : Module) (room f : ℕ) (o : Option RequiredContext) → length m.functions ≤ f → input_for m room f o ≡ refused (without_function o)
unfolding input_for without_function
past_is m room f nothing h = refl
past_is m room f (some c) h = of_past m.functions f _ h

pub needing_past : (bytes t b : List ℕ) (room : ℕ) {o : List ℕ} {f functions : ℕ} {n : Refusal} → functions ≡ length (module_of bytes t).functions → functions ≤ f → number n ≡ without_function (context_of b) → Gave o o (input_bytes (module_of bytes t) room f b) (Err (refused_by n))
unfolding input_bytes
needing_past bytes t b room {f = f} {n = n} F h e =
    gave_refused n (past_is (module_of bytes t) room f (context_of b) (rw (← F) h) ∙ rw e)

-- a context of a function
unfoldable on_context : reading.Answer RequiredContext → (RequiredContext → Answer (List ℕ)) → Answer (List ℕ)
on_context (reading.refused n) k = refused n
on_context (reading.accepted c) k = k c

on_cond : (b : Bool) (c : RequiredContext) (k : RequiredContext → Answer (List ℕ)) → cond b (k c) (refused 11) ≡ on_context (cond b (reading.accepted c) (reading.refused 11)) k
unfolding on_context
on_cond true c k = refl
on_cond false c k = refl

module _ {bytes t types : List ℕ} (T : Tables bytes t types) (room : ℕ) {f : ℕ} (low : f < length (module_of bytes t).functions) where
  abbrev fn : Function
  fn = function_of bytes t f

  abbrev list : RequiredContext → Answer (List ℕ)
  list = inputs_of (module_of bytes t) room f

  there_is : (o : Option RequiredContext) → input_for (module_of bytes t) room f o ≡ on_context (judge_context (length (module_of bytes t).globals) (length fn.arguments) (length fn.locals) o) list
  unfolding input_for judge_context
  there_is nothing = unfold on_context in refl
  there_is (some c) =
      rw (of_function-at (module_of bytes t).functions f fn (λ x. cond (known_context (length (module_of bytes t).globals) (length x.arguments) (length x.locals) c) (inputs_of (module_of bytes t) room f c) (refused 11)) low, function_is bytes t f fn low)
      (on_cond (known_context (length (module_of bytes t).globals) (length fn.arguments) (length fn.locals) c) c list)

  module _ (b : List ℕ) where
    -- what checking answers
    module _ {g n l status : ℕ} (G : g ≡ length (module_of bytes t).globals) (N : n ≡ length fn.arguments) (L : l ≡ length fn.locals) (S : status ≡ status_of (judge_context g n l (context_of b))) where
      status_is : status ≡ status_of (read_context (module_of bytes t) fn b)
      status_is = S ∙ rw (G, N, L)

      pub needing_refused : {o : List ℕ} (r : Refusal) → status ≡ number r → 0 < status → Gave o o (input_bytes (module_of bytes t) room f b) (Err (refused_by r))
      unfolding input_bytes on_context
      needing_refused r e h = gave_refused r (there_is (context_of b) ∙ rw (status_refused (read_context (module_of bytes t) fn b) h status_is, e))

      pub needing_accepts : 0 ≡ status → Accepts (module_of bytes t) fn b
      needing_accepts h = record { is = h ∙ status_is }

    -- what is found in a context that is accepted
    module _ (A : Accepts (module_of bytes t) fn b) where
      the_context : Known (length (module_of bytes t).globals) (length fn.arguments) (length fn.locals) (context_of b)
      the_context = status_known _ _ _ (context_of b) A.is

      inputs-of : input_bytes (module_of bytes t) room f b ≡ inputs_of (module_of bytes t) room f the_context.context
      unfolding input_bytes on_context
      inputs-of = there_is (context_of b) ∙ rw the_context.judged

      pub needing_short : {o : List ℕ} → room < bindings → Gave o o (input_bytes (module_of bytes t) room f b) (Err (refused_by AnswerTooShort))
      needing_short h = gave_refused AnswerTooShort (inputs-of ∙ (unfold inputs_of in (rw (lt-ltb _ bindings h))))

      module _ {own : List ℕ} (a : ArgsIn b own) where
        pub needing_args : ListReadable own
        needing_args = (list_there (a.is the_context.context the_context.is)).0

        args_are : list_in own ≡ the_context.context.args
        args_are = (list_there (a.is the_context.context the_context.is)).1

        module _ (read : List Bound) (P : args_of read ≡ fn.arguments) (n : Result ℕ Asserts) (N : needed_of n ≡ args_bindings (types_of types) (list_in own) 0 (args_of read)) (long : bindings ≤ room) where
          inputs_are : input_bytes (module_of bytes t) room f b ≡ within_pieces the_context.context (listed (needed_of n))
          unfolding inputs_of input_list input_to_bindings
          inputs_are =
              inputs-of
              ∙ rw (le-ltb room bindings long, of_function-at (module_of bytes t).functions f fn (λ x. listed (args_bindings (module_of bytes t).types the_context.context.args 0 x.arguments)) low, function_is bytes t f fn low, N, args_are, T.rows, P)

          pub needing_asserts : {o : List ℕ} {i : Asserts} → n ≡ Err i → Gave o o (input_bytes (module_of bytes t) room f b) (Err (asserted i))
          unfolding listed within_pieces told left
          needing_asserts e = rw (inputs_are, e) (record { is = refl; out = refl })

          pub needing_given : {o p : List ℕ} {s : ℕ} {r : Result ℕ Refused} → n ≡ Ok s → ListGiven b s o p r → Gave o p (input_bytes (module_of bytes t) room f b) r
          unfolding listed
          needing_given e w = rw (inputs_are, e) (w.is the_context.context the_context.is)
