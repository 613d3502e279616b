-- A request in code equals `serve_read`: what begins as the definition does is walked as its request, and ends as `finish` says; a refusal leaves the buffers.
use Prim.Native.Nat.{ℕ, ◌+◌, ◌<◌, ◌≤◌}
use native.Mathlib.Omega.{arith}
use mathlib.Core.Path.{◌≡◌, refl, sym, ap, ◌∙◌}
use mathlib.Core.Bool.{Bool, true, false, cond}
use mathlib.Core.List.{List}
use mathlib.Core.Option.{Option, some, none as nothing}
use lib.Dec.{leb, ltb}
use lib.ListN.{length, get_or, drop}
use borrow.Author.Tests.{lt-ltb, le-ltb}
use Rattle.std.specs.Prelude.{Result, Ok, Err}
use Rattle.field.specs.declared.refusal.Refusal.{Refusal}
use Rattle.field.specs.declared.refusal.Refusal.TheVariants.{PrunerUnfit, AnswerTooShort}
use Rattle.field.specs.Limits.{max_pieces}
use Rattle.part.specs.PartReq.{none}
use Rattle.module.specs.Module.{Module}
use Rattle.module.specs.Tables.{module_of}
use Rattle.module.specs.declared.handles.FunctionHandle.{FunctionHandle as Handle}
use Rattle.context.specs.Types.{types_of}
use Rattle.request.specs.Fields as reading
use Rattle.request.specs.Request.{Request, read_request}
use Rattle.walk.specs.State.{nowhere, Out}
use Rattle.walk.specs.Function.{add_function}
use Rattle.walk.specs.Requests.{Pruner, request, fresh}
use Rattle.sound.proofs.Asked as sound
use Rattle.memory.specs.Layout.{stack_slot}
use Rattle.memory.specs.Memory.{read}
use Rattle.marks.specs.declared.places.MarkPlaces.{MarkPlaces}
use Rattle.marks.specs.Places.{places_of, Places}
use Rattle.marks.specs.declared.totals.MarkTotals.{MarkTotals}
use Rattle.state.specs.declared.answer.Tally.{Tally}
use Rattle.state.specs.declared.answer.Halt.{Halt}
use Rattle.state.specs.declared.answer.Answer.{Answer}
use Rattle.block.specs.Standing.{state_in}
use Rattle.block.specs.Functions.{FunctionEntered, FunctionEnded, FunctionEnds}
use Rattle.pruner.specs.Form.{min_pruner, pruner_pieces, read_body, stated, is_pruner, is_fresh, answered, read_pruner}
use Rattle.requests.specs.Answer.{min_answer}
use Rattle.requests.specs.Loaded.{Loaded}
use Rattle.requests.specs.Begin.{with_totals, after_request, beginning, Begins, Ready}
use Rattle.requests.specs.Serve.{Lent, refused_at, finish, lent_pruner, on_pruner, on_request, serve_read}
use Rattle.state.specs.State.{unplaced}
use Rattle.requests.specs.Finish.{Finished}
use Rattle.requests.specs.Served.{Walking, Walked, Served}
use Rattle.requests.specs.declared.begin.Begun.{Begun}
use Rattle.requests.proofs.Begins.{enters, walks-request}
use Rattle.requests.proofs.Ends.{walks, request-halts}

-- the walk of f, as memory has it at its beginning
abbrev pub walk_in : (bytes t s rs open_marks : List ℕ) (totals : MarkTotals) → ℕ → Out Bool
walk_in bytes t s rs open_marks totals f =
    add_function (module_of bytes t) f nowhere 0 (get_or (read s rs) stack_slot none) (get_or (read s rs) (stack_slot + 3) none) (state_in bytes t s rs open_marks totals f stack_slot 0)

module _ {bytes t types : List ℕ} {places : MarkPlaces} {s rs open_marks : List ℕ} {totals : MarkTotals} {f : ℕ} where
  -- it is the walk of the request that was loaded
  pub walk_is : {q : Request} {old : Pruner} → Loaded bytes t types places s rs open_marks totals q old → q.function ≡ f → walk_in bytes t s rs open_marks totals f ≡ walks bytes t old q
  walk_is L named = ap (walk_in bytes t s rs open_marks totals) (sym named) ∙ walks-request L

  module _ {sum : ℕ} {pruner report answer : List ℕ} (W : Walking bytes t types places s rs open_marks totals f sum pruner report answer) where
    pub walk_enters : FunctionEntered bytes t types places s rs open_marks totals f stack_slot 0 sum 0
    walk_enters = rw (← W.function_is, W.sum_is) (enters W.loaded)

    module _ {a : Result Answer Halt} {u us open_after : List ℕ} {totals-after : MarkTotals}
        (E : FunctionEnds bytes t types places s rs open_marks totals f stack_slot 0 (walk_in bytes t s rs open_marks totals f) a u us open_after totals-after) where
      -- the walk was refused
      pub walk_halted : {stop : Halt} → a ≡ Err stop → Walked bytes t types places s rs open_marks totals f sum pruner report answer (Err stop) pruner report answer
      unfolding finish
      walk_halted e = record { by = λ q old named count L. sym (ap (finish _) (request-halts bytes t old q ((rw e at E.by) ∙ walk_is L named))) }

      module _ {tally : Tally} {required : Bool} (e : a ≡ Ok (record { tally = tally; required = required })) where
        ended : FunctionEnded bytes t types places s rs open_marks totals f stack_slot 0 (walk_in bytes t s rs open_marks totals f) tally.visits tally.sum required u us open_after totals-after
        ended = rw e at E.by

        pub walk_finished : {r : Result ℕ Halt} {pruner-after report-after answer-after : List ℕ}
            → Finished bytes t places.starts u us open_after totals-after f stack_slot required tally.visits tally.sum pruner report answer r pruner-after report-after answer-after
            → Walked bytes t types places s rs open_marks totals f sum pruner report answer r pruner-after report-after answer-after
        walk_finished F = record {
          by = λ q old named count L. F.by types places.firsts s rs open_marks totals old q named (rw (← walk_is L named, named) ended);
        }

-- totals are refused by 19 alone
abbrev pub Only19 : {A : Type 0} → reading.Answer A → Type 0
Only19 (reading.refused n) = n ≡ 19
Only19 (reading.accepted a) = Unit {0}

pub either_19 : {A : Type 0} (b : Bool) (x y : reading.Answer A) → Only19 x → Only19 y → Only19 (cond b x y)
either_19 true x y h k = h
either_19 false x y h k = k

answered-19 : (o : Option Pruner) → Only19 (answered o)
answered-19 nothing = refl
answered-19 (some pruner) = either_19 (leb (pruner_pieces pruner) max_pieces) (reading.accepted pruner) (reading.refused 19) tt refl

pub pruner_19 : (m : Module) (s : List ℕ) → Only19 (read_pruner m s)
unfolding read_pruner
pruner_19 m s =
    let read = reading.whole (read_body m (reading.fields (drop 6 (stated s)))) in
    either_19 (is_fresh s) (reading.accepted (fresh m)) _ tt (answered-19 (cond (is_pruner s) read nothing))

module _ (m : Module) (lent : Lent) where
  -- the request or the totals are refused
  lent-refused : {n : ℕ} (q : Request) (b : Bool) (x : reading.Answer Pruner) → Only19 x → with_totals q x ≡ reading.refused n → on_pruner m lent q (cond b (reading.refused 19) x) ≡ (refused_at n nowhere, lent)
  unfolding with_totals on_pruner
  lent-refused {n} q true (reading.refused k) h e = let z : 19 ≡ n = cc in rw z
  lent-refused {n} q false (reading.refused k) h e = let z : k ≡ n = cc in rw z
  lent-refused {n} q b (reading.accepted old) h e = let z : ◌≡◌ {A = ℕ} 0 1 = cc in absurd (omega arith)

  after_refused : {n : ℕ} (x : reading.Answer Request) → after_request m lent.pruner x ≡ reading.refused n → on_request m lent x ≡ (refused_at n nowhere, lent)
  unfolding after_request on_request lent_pruner
  after_refused {n} (reading.refused k) e = let z : k ≡ n = cc in rw z
  after_refused {n} (reading.accepted q) e = lent-refused q (ltb (length lent.pruner) min_pruner) (read_pruner m lent.pruner) (pruner_19 m lent.pruner) e

  pub serve_refused : {n : ℕ} (bytes : List ℕ) → beginning m (length lent.report) bytes lent.pruner ≡ reading.refused n → serve_read m bytes lent ≡ (refused_at n nowhere, lent)
  unfolding serve_read
  serve_refused bytes e = after_refused (read_request m (length lent.report) bytes) e

  -- both were read
  totals_read : {q p : Request} {old : Pruner} (x : reading.Answer Pruner) → with_totals q x ≡ reading.accepted (p, old) → (q ≡ p) × (x ≡ reading.accepted old)
  unfolding with_totals
  totals_read (reading.refused k) e = let z : ◌≡◌ {A = ℕ} 0 1 = cc in absurd (omega arith)
  totals_read {q} {p} {old} (reading.accepted y) e =
      let pair : ◌≡◌ {A = Request × Pruner} (q, y) (p, old) = cc in
      (ap (λ (z : Request × Pruner). z.0) pair, ap (λ (z : Request × Pruner). reading.accepted z.1) pair)

  pub both_read : {q : Request} {old : Pruner} (x : reading.Answer Request) → after_request m lent.pruner x ≡ reading.accepted (q, old) → (x ≡ reading.accepted q) × (read_pruner m lent.pruner ≡ reading.accepted old)
  unfolding after_request
  both_read (reading.refused k) e = let z : ◌≡◌ {A = ℕ} 0 1 = cc in absurd (omega arith)
  both_read (reading.accepted p) e = let h = totals_read (read_pruner m lent.pruner) e in (ap reading.accepted h.0, h.1)

  module _ {q : Request} {old : Pruner} (bytes : List ℕ) (e : beginning m (length lent.report) bytes lent.pruner ≡ reading.accepted (q, old)) where
    pub asked_read : read_request m (length lent.report) bytes ≡ reading.accepted q
    asked_read = (both_read (read_request m (length lent.report) bytes) e).0

    old-read : read_pruner m lent.pruner ≡ reading.accepted old
    old-read = (both_read (read_request m (length lent.report) bytes) e).1

    pub serve_19 : length lent.pruner < min_pruner → serve_read m bytes lent ≡ (refused_at 19 nowhere, lent)
    unfolding serve_read on_request lent_pruner on_pruner
    serve_19 l = rw (asked_read, lt-ltb (length lent.pruner) min_pruner l)

    pub serve_20 : min_pruner ≤ length lent.pruner → length lent.answer < min_answer → serve_read m bytes lent ≡ (refused_at 20 nowhere, lent)
    unfolding serve_read on_request lent_pruner on_pruner
    serve_20 h l = rw (asked_read, le-ltb (length lent.pruner) min_pruner h, old-read, lt-ltb (length lent.answer) min_answer l)

    pub serve_walks : min_pruner ≤ length lent.pruner → min_answer ≤ length lent.answer → serve_read m bytes lent ≡ finish lent (request m old q)
    unfolding serve_read on_request lent_pruner on_pruner
    serve_walks h l = rw (asked_read, le-ltb (length lent.pruner) min_pruner h, old-read, le-ltb (length lent.answer) min_answer l)

module _ {bytes t starts s rs open_marks : List ℕ} {totals : MarkTotals} {asked-bytes pruner : List ℕ} (report answer : List ℕ) {b : Result Begun Refusal} (B : Begins bytes t starts (length report) asked-bytes pruner s rs open_marks totals b) where
  abbrev lent : Lent
  lent = record { pruner = pruner; report = report; answer = answer }

  pub served_refused : {e : Refusal} → b ≡ Err e → Served bytes t asked-bytes pruner report answer (Err (unplaced e)) pruner report answer
  served_refused z = record { is = sym (serve_refused (module_of bytes t) lent asked-bytes (rw z at B.by)) }

  module _ {f : Handle} {sum : ℕ} (e : b ≡ Ok (record { function = f; sum = sum })) where
    ready : Ready bytes t starts (length report) asked-bytes pruner s rs open_marks totals f.0 sum
    ready = rw e at B.by

    pub served_19 : length pruner < min_pruner → Served bytes t asked-bytes pruner report answer (Err (unplaced PrunerUnfit)) pruner report answer
    served_19 l = record { is = sym (serve_19 (module_of bytes t) lent asked-bytes ready.is l) }

    pub served_20 : min_pruner ≤ length pruner → length answer < min_answer → Served bytes t asked-bytes pruner report answer (Err (unplaced AnswerTooShort)) pruner report answer
    served_20 h l = record { is = sym (serve_20 (module_of bytes t) lent asked-bytes ready.is h l) }

    pub serve_walking : {types firsts : List ℕ} → types_of types ≡ (module_of bytes t).types → Places bytes t (places_of starts firsts) → min_pruner ≤ length pruner → min_answer ≤ length answer
        → Walking bytes t types (places_of starts firsts) s rs open_marks totals f.0 sum pruner report answer
    serve_walking {types} {firsts} typed placed h l = record {
      q = ready.q;
      old = ready.old;
      function_is = ready.function_is;
      sum_is = ready.sum_is;
      loaded = ready.loaded types firsts typed placed;
      pruner_long = h;
      report_long = (sound.asked (module_of bytes t) (length report) asked-bytes ready.q (asked_read (module_of bytes t) lent asked-bytes ready.is)).room;
      answer_long = l;
    }

    pub served : {types firsts : List ℕ} {r : Result ℕ Halt} {pruner-after report-after answer-after : List ℕ} → types_of types ≡ (module_of bytes t).types → Places bytes t (places_of starts firsts) → min_pruner ≤ length pruner → min_answer ≤ length answer
        → Walked bytes t types (places_of starts firsts) s rs open_marks totals f.0 sum pruner report answer r pruner-after report-after answer-after
        → Served bytes t asked-bytes pruner report answer r pruner-after report-after answer-after
    served {types} {firsts} typed placed h l W = record {
      is = W.by ready.q ready.old ready.function_is ready.sum_is (ready.loaded types firsts typed placed) ∙ sym (serve_walks (module_of bytes t) lent asked-bytes ready.is h l);
    }
