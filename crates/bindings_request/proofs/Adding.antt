-- A binding added to a request's bytes: what the store's function answers is what `add_request` says of the request that was read.
use Prim.Native.Nat.{ℕ, ◌+◌, ◌*◌, ◌≤◌, ◌<◌}
use native.Mathlib.Omega.{arith}
use mathlib.Core.Path.{◌≡◌, refl, sym, ap, subst, ◌∙◌}
use mathlib.Core.Bool.{Bool, true, false, cond, ◌&&◌}
use mathlib.Core.List.{List}
use mathlib.Core.Option.{Option, some, none as nothing}
use lib.Dec.{ltb}
use lib.ListN.{length}
use borrow.Author.Tests.{lt-ltb, le-ltb, ltb-true, ltb-false}
use Rattle.std.specs.Prelude.{Result, Err}
use Rattle.field.specs.declared.refusal.Refusal.{Refusal}
use Rattle.field.specs.declared.refusal.Refusal.TheVariants as why
use Rattle.field.specs.Limits.{absent, min_report, max_pieces}
use Rattle.part.specs.StoreLimits.{cell_words, table_words}
use Rattle.part.specs.Store.{top, part, Good, Room, Made}
use Rattle.module.specs.Module.{Module}
use Rattle.module.specs.Operands.{bindings}
use Rattle.module.specs.Tables.{function_of, module_of}
use Rattle.access.specs.Access.{result_from}
use Rattle.access.specs.declared.whole.Bound.{Bound as TypeBound}
use Rattle.access.proofs.Access.{function_is}
use Rattle.context.specs.Types.{types_of, type_count}
use Rattle.context.specs.RequiredContext.{RequiredContext, variable, return_entry}
use Rattle.request.specs.Fields as reading
use Rattle.request.specs.Request.{Request, request_of, all_below, known, judge}
use Rattle.request.specs.Answers.{optional, Held, request_answer, RequestHeld, RequestWasRead}
use Rattle.std.specs.Prelude.{Option as Maybe, Result, Ok, Err}
use Rattle.field.specs.Refusal.{number}
use Rattle.field.specs.declared.refusal.Refusal.{Refusal}
use Rattle.field.specs.declared.refusal.Refusal.TheVariants.{ModuleTooLong, RecordCut, MarkMisplaced, ModuleLimit, ValueNotAllowed, NoSuch, Malformed, Panic, Unsettled, PartLimit, PiecesLimit, VisitsLimit, ReportTooShort, PrunerUnfit, AnswerTooShort, MarksUnfit, CheckBound}
use Rattle.request.specs.declared.requests.Request as declared
use Rattle.bindings.specs.Bindings.{single}
use Rattle.bindings.specs.ContextBindings.{Answer, output_from_bindings, add_binding, as_request, add_request}
use Rattle.bindings.specs.Outputs.{BoundResult, output_cells, request_context, asking_of, Asked}
use Rattle.bindings_request.specs.Boundary.{Tables, Lent, own_number, on_read, written, add_bytes, refused_by, Gave}
use Rattle.bindings_request.specs.declared.answer.Refused.{Refused}
use Rattle.bindings_request.proofs.Modules.{of_function-at, rows_few, result-bound, globals-few}
use Rattle.bindings_request.proofs.Answers.{gave_refused}

module _ {bytes t types : List ℕ} (T : Tables bytes t types) {f b : ℕ} (low : f < length (module_of bytes t).functions) (few : b < bindings) (x : Maybe TypeBound) (R : result_from x ≡ (function_of bytes t f).result) where
  result-is : (function_of bytes t f).result ≡ result_from x
  result-is = sym R

  -- what `add_request` says of the function
  add-request : (c : RequiredContext) → add_request (module_of bytes t) f b c ≡ as_request (output_from_bindings (types_of types) (single b) (function_of bytes t f)) (add_binding (types_of types) b (function_of bytes t f) c)
  unfolding add_request
  add-request c =
      rw (lt-ltb b bindings few, of_function-at (module_of bytes t).functions f (function_of bytes t f) (λ y. as_request (output_from_bindings (module_of bytes t).types (single b) y) (add_binding (module_of bytes t).types b y c)) low, function_is bytes t f (function_of bytes t f) low, T.rows)

  module _ {s u : List ℕ} (o : Maybe ℕ) {entry globals : ℕ} (m : Made s u (return_entry (optional s o)) 1 entry) (held : globals < top s) where
    pub add-asks : (parts : List ℕ) → length parts ≡ type_count types → Room s (1 + (output_cells parts + max_pieces))
        → Good u × (((length parts ≡ type_count types) × (length parts ≤ 4294967295)) × ((BoundResult (result_from x) × Room u (output_cells parts + max_pieces)) × ((b < bindings) × ((globals < top u) × (entry < top u)))))
    add-asks parts l room =
        let cost : top u ≤ top s + 1 = m.cost in
        let long : length u ≡ length s = m.kept.long in
        (m.kept.good, ((l, omega (arith, rows_few T)), ((rw (← result-is) (result-bound T f low), omega arith), (few, (omega (arith, m.kept.tops), m.piece)))))

    module _ {v : List ℕ} {a : Result ℕ Refusal} (A : Asked u v (result_from x) (part u globals) (λ y. as_request (output_from_bindings (types_of types) (single b) y) (add_binding (types_of types) b y (request_context (part u globals) (part u entry)))) a) where
      globals_same : part v globals ≡ part u globals
      globals_same = A.kept.same globals (omega (arith, m.kept.tops))

      answer_is : asking_of v (part v globals) a ≡ add_request (module_of bytes t) f b (request_context (part s globals) (return_entry (optional s o)))
      answer_is =
          rw globals_same
          (A.is (function_of bytes t f) result-is
          ∙ rw (m.kept.same globals held, m.is) (sym (add-request (request_context (part s globals) (return_entry (optional s o))))))

      pub add_gave : {o₀ o₁ : List ℕ} {r : Result ℕ Refused} → Gave o₀ o₁ (written f (asking_of v (part v globals) a)) r → Gave o₀ o₁ (written f (add_request (module_of bytes t) f b (request_context (part s globals) (return_entry (optional s o))))) r
      add_gave g = rw answer_is at g

-- the number of what refuses the request
pub own_other : (e : Refusal) → (e ≡ ReportTooShort → ⊥) → number e ≡ own_number (number e)
unfolding own_number
own_other ModuleTooLong h = refl
own_other RecordCut h = refl
own_other MarkMisplaced h = refl
own_other ModuleLimit h = refl
own_other ValueNotAllowed h = refl
own_other NoSuch h = refl
own_other Malformed h = refl
own_other Panic h = refl
own_other Unsettled h = refl
own_other PartLimit h = refl
own_other PiecesLimit h = refl
own_other VisitsLimit h = refl
own_other ReportTooShort h = absurd (h refl)
own_other PrunerUnfit h = refl
own_other AnswerTooShort h = refl
own_other MarksUnfit h = refl
own_other CheckBound h = refl

-- what was accepted is known, and the slice is long enough
chosen : (x y : Bool) {q p : Request} → reading.accepted q ≡ cond x (cond y (reading.refused 18) (reading.accepted p)) (reading.refused 11) → (x ≡ true) × (y ≡ false) × (q ≡ p)
chosen true true e = let z : ◌≡◌ {A = ℕ} 0 1 = cc in absurd (omega arith)
chosen true false e = (refl, refl, cc)
chosen false y e = let z : ◌≡◌ {A = ℕ} 0 1 = cc in absurd (omega arith)

and_left : (x y : Bool) → x && y ≡ true → x ≡ true
and_left true y e = refl
and_left false y e = e

judge_accepted : (functions globals room : ℕ) (o : Option Request) {q : Request} → reading.accepted q ≡ judge functions globals room o → (q.function < functions) × (min_report ≤ room)
unfolding judge known
judge_accepted functions globals room nothing e = let z : ◌≡◌ {A = ℕ} 0 1 = cc in absurd (omega arith)
judge_accepted functions globals room (some p) e =
    let c = chosen (ltb p.function functions && all_below (variable globals) p.globals) (ltb room min_report) e in
    (rw c.2 (ltb-true p.function functions (and_left (ltb p.function functions) _ c.0)), ltb-false room min_report c.1)

-- the request's bytes
pub read_asks : {bytes t types cells parts request s : List ℕ} {globals : ℕ} → Tables bytes t types → Lent cells parts request → globals ≡ length (module_of bytes t).globals
    → Good s → top s ≡ 3 → length s ≡ length cells → Good s × ((globals ≤ absent) × (cell_words * top s + table_words + 2 * length request ≤ length s))
read_asks T L e g h l = let big = L.room in (g, (omega (arith, globals-few T), omega arith))

pub add-above : (m : Module) (room b : ℕ) (request : List ℕ) {o : List ℕ} → bindings ≤ b → Gave o o (add_bytes m room b request) (Err (refused_by why.Malformed))
unfolding add_bytes
add-above m room b request h = gave_refused why.Malformed (rw (le-ltb b bindings h))

module _ (bytes t request : List ℕ) (room : ℕ) {s u : List ℕ} {b functions globals n : ℕ} (few : b < bindings) (F : functions ≡ length (module_of bytes t).functions) (G : globals ≡ length (module_of bytes t).globals) {a : Result declared.Request Refusal} (A : RequestWasRead s u n (judge functions globals room (request_of request)) a) where
  abbrev next : Request → Answer (List ℕ)
  next q = written q.function (add_request (module_of bytes t) q.function b (request_context q.globals (return_entry q.retval)))

  on_answer : add_bytes (module_of bytes t) room b request ≡ on_read (request_answer u a) next
  unfolding add_bytes
  on_answer = rw (lt-ltb b bindings few, ← F, ← G, A.is)

  pub add_refused : {o : List ℕ} (e r : Refusal) → a ≡ Err e → number r ≡ own_number (number e) → Gave o o (add_bytes (module_of bytes t) room b request) (Err (refused_by r))
  unfolding on_read
  add_refused e r h is = gave_refused r (on_answer ∙ rw (h, is))

  module _ {q : declared.Request} (e : a ≡ Ok q) where
    was_held : Held u q.retval × (q.globals < top u) × (4 * top u ≤ 4 * top s + n)
    was_held = subst (RequestHeld s u n) e A.held

    was_known : (q.function.0 < functions) × (min_report ≤ room)
    was_known = judge_accepted functions globals room (request_of request) (sym (ap (request_answer u) e) ∙ A.is)

    pub add_to_asks : {cells types parts : List ℕ} {l : ℕ} → Tables bytes t types → length parts ≡ type_count types → Lent cells parts request
        → n ≡ length request → room ≡ l → top s ≡ 3 → length s ≡ length cells
        → Tables bytes t types × (Good u × (((length parts ≡ type_count types) × Room u (1 + (output_cells parts + max_pieces))) × (((q.function.0 < length (module_of bytes t).functions) × (Held u q.retval × (q.globals < top u))) × ((b < bindings) × (min_report ≤ l)))))
    add_to_asks T len L nh rh th lh =
        let k = was_known in
        let low : q.function.0 < functions = k.0 in
        let wide : min_report ≤ room = k.1 in
        let cost : 4 * top u ≤ 4 * top s + n = was_held.2 in
        let long : length u ≡ length s = A.kept.long in
        let big = L.room in
        (T, (A.kept.good, ((len, omega arith), ((omega arith, (was_held.0, was_held.1)), (few, omega arith)))))

    pub add_went : {o p : List ℕ} {r : Result ℕ Refused} → Gave o p (written q.function.0 (add_request (module_of bytes t) q.function.0 b (request_context (part u q.globals) (return_entry (optional u q.retval))))) r → Gave o p (add_bytes (module_of bytes t) room b request) r
    unfolding on_read
    add_went g = rw (on_answer, e) g
