-- The answer of a check, put together: 21, what is not judged, or that of the rounds; and what the rounds are given.
use Prim.Native.Nat.{ℕ, ◌-◌, ◌*◌, suc, ◌≤◌}
use native.Mathlib.Omega.{arith}
use mathlib.Core.Path.{◌≡◌, refl, sym, ap, ◌∙◌}
use mathlib.Core.Bool.{Bool, true, false, not, ◌&&◌}
use mathlib.Core.List.{List, []}
use mathlib.Core.Option.{Option, some, none as nothing}
use lib.ListN.{length, take}
use Rattle.std.specs.Prelude.{Option as Maybe, Some, None, Result, Ok, Err, is_ok}
use Rattle.std.specs.declared.ops.Range.{Range}
use Rattle.std.proofs.lemmas.List.{length-take-le}
use Rattle.field.specs.Limits.{max_types, max_expressions}
use Rattle.field.specs.Refusal.{number}
use Rattle.field.specs.declared.refusal.Refusal.{Refusal}
use Rattle.part.proofs.Equations.{never}
use Rattle.module.specs.Module.{Module, Kill}
use Rattle.module.specs.Tables.{max_items, function_of, module_of}
use Rattle.access.proofs.Access.{function_is, statement_is}
use Rattle.valid.specs.Valid.{FunctionValid, entries_below}
use Rattle.valid.specs.There.{There}
use Rattle.valid.proofs.Accepted.{valid}
use Rattle.context.specs.RequiredContext.{RequiredContext}
use Rattle.context.specs.Types.{type_words}
use Rattle.request.specs.Request.{request_of}
use Rattle.request.specs.Context.{context_of}
use Rattle.walk.specs.Resolve.{function_at}
use Rattle.sound.specs.Sizes.{records_of}
use Rattle.sound.proofs.Totals.{total-take, total-lower}
use Rattle.sound.proofs.Sizes.{few_records}
use Rattle.clearance.specs.Scope.{Scope}
use Rattle.clearance.specs.Tree.{body_tree}
use Rattle.clearance.specs.Judged.{blamed_expression, blamed_statement}
use Rattle.clearance.specs.Verdict.{Request, Report, Answer, refused, body, has_shape}
use Rattle.pass.specs.Checked.{judge_by, checked}
use Rattle.judge.specs.Given.{scope_at}
use Rattle.judge.proofs.PathSteps.{function_valid, few}
use Rattle.framed.proofs.Given.{read_function, judged_function, statements-fit}
use Rattle.marks.specs.Places.{slice}
use Rattle.access.specs.Laid.{WasRead}
use Rattle.standing.specs.World.{World}
use Rattle.checking.specs.Check.{scope_of, value_of, cut_short, on_buffer, meaning_by, answer_to}
use Rattle.checking.specs.Word.{said}
use Rattle.checking.specs.declared.words.Verdict.{Verdict}
use Rattle.checking.specs.Stretch.{Firsts, marks_in, MarksFound}
use Rattle.rounds.specs.Settling.{asked_by, reported, Settling, Settled}
use Rattle.verdict.specs.Heard.{asks_by, Accepted, Hears}
use Rattle.verdict.specs.declared.heard.Heard.{Heard}
use Rattle.verdict.specs.Tables.{Tables, unjudged, Judges}
use Rattle.verdict.specs.Checks.{Working, Asked, Marked, MarksChecked, ReportChecked}

-- What is not judged, and what is

unjudged_is : (S : Scope) (R : Request) (P : Report) (o p : Option ℕ) {a : Answer} → some a ≡ unjudged o p → a ≡ judge_by S R P o p
unfolding unjudged judge_by
unjudged_is S R P (some e) p h = cc
unjudged_is S R P nothing (some n) h = cc
unjudged_is S R P nothing nothing h = never cc

none_left : (o p : Option ℕ) → nothing ≡ unjudged o p → (o ≡ nothing) × (p ≡ nothing)
unfolding unjudged
none_left (some e) p h = never cc
none_left nothing (some n) h = never cc
none_left nothing nothing h = (refl, refl)

module _ {bytes t : List ℕ} {f : ℕ} {types alike : List ℕ} {held paths : List Bool} {firsts s rs path : List ℕ} {g v : ℕ} (M : Marked bytes t f types alike held paths firsts s rs path g v) where
  abbrev m : Module
  m = module_of bytes t

  abbrev S : Scope
  S = scope_at bytes t f

  pub there : There bytes t f
  there = record { read = M.was_read.module_is; there = M.stored.there }

  fine : FunctionValid (length m.types) (length m.globals) (entries_below f m.functions) (function_of bytes t f)
  fine = function_valid bytes t f M.was_read.module_is M.stored.there

  pub firsts-asked : There bytes t f × (length (function_of bytes t f).statements ≤ length firsts)
  firsts-asked = (there, omega (arith, fine.parts.few_statements, M.firsts_long))

  few_blocks : length (function_of bytes t f).blocks ≤ max_items
  few_blocks =
      let fs = m.functions in
      let own = total-lower records_of fs f (suc f) (function_of bytes t f) (omega arith) M.stored.there in
      omega (
        arith,
        rw (function_is bytes t f (function_of bytes t f) M.stored.there) at own,
        total-take records_of fs (suc f),
        few_records bytes m M.was_read.module_is,
      )

  pub not_judged : {r : Maybe Verdict} {w : Verdict} (marks context : List ℕ) → Judges bytes t f r → r ≡ Some w → MarksChecked bytes t f s g v marks context (said w)
  not_judged marks context J h = record { is = λ c e. unjudged_is S (asked_by s g v) (reported marks c) _ _ (rw h at (J.is marks)) }

  module _ {r : Maybe Verdict} (J : Judges bytes t f r) (judged : r ≡ None) where
    nothing-blamed : (marks : List ℕ) → (blamed_expression S ≡ nothing) × (blamed_statement S (body_tree (function_of bytes t f) marks) ≡ nothing)
    nothing-blamed marks = none_left _ _ (rw judged at (J.is marks))

    -- a function of which nothing is to blame is a world for the rounds
    world : {rows same : List ℕ} {ways unsized : List Bool} → Tables bytes t f rows same unsized ways → World bytes t f rows same ways
    world T = record {
      given = T.given;
      read = read_function S _ (valid bytes m M.was_read.module_is) fine;
      judged = judged_function S (nothing-blamed []).0;
      fit = λ n l. rw (← statement_is bytes t f n Kill l) (statements-fit S (body_tree (function_of bytes t f) []) (nothing-blamed []).1 n Kill l);
    }

    pub settling : {rows same : List ℕ} {ways unsized : List Bool} {marked : List ℕ} → Tables bytes t f rows same unsized ways → Firsts (function_of bytes t f).statements marked → Settling bytes t f rows same ways marked s rs path g v
    settling T F = record {
      world = world T;
      begins = F;
      good = M.stored.good;
      there = M.stored.pieces;
      long = M.store.long;
      slim = M.stored.slim;
      slots = omega (arith, few_blocks, M.slots_long);
      path_long = omega (arith, fine.parts.few_expressions, M.path_long);
      listed = M.stored.listed;
      ascends = M.stored.ascends;
    }

    pub settled : {w : Answer} (marks context : List ℕ) → Settled S (asked_by s g v) marks context w → MarksChecked bytes t f s g v marks context w
    unfolding judge_by
    settled marks context D = record { is = λ c e. rw ((nothing-blamed marks).0, (nothing-blamed marks).1) (D.is c e) }

-- The buffer

module _ (S : Scope) (R : Request) (P : Report) where
  checked-unshaped : has_shape S.function P.marks ≡ false → checked S R P ≡ refused 21
  unfolding checked
  checked-unshaped h = rw (h, checked)

  checked-shaped : has_shape S.function P.marks ≡ true → checked S R P ≡ judge_by S R P (blamed_expression S) (blamed_statement S (body S P))
  unfolding checked
  checked-shaped h = rw (h, checked)

module _ {bytes t : List ℕ} {f : ℕ} {rows alike : List ℕ} {held paths : List Bool} {firsts s rs path : List ℕ} {g v : ℕ} (A : Asked bytes t f rows alike held paths firsts s rs path g v) where
  same_scope : scope_of (module_of bytes t) f ≡ scope_at bytes t f
  unfolding function_at
  same_scope = rw (function_is bytes t f _ A.stored.there)

  pub few_types : {n : ℕ} → n ≡ length (module_of bytes t).types → n ≤ max_types
  few_types e = omega (arith, (valid bytes (module_of bytes t) A.was_read.module_is).few_types)

  pub few_expressions : {e : ℕ} → e ≡ length (function_of bytes t f).expressions → e ≤ max_expressions
  few_expressions h = omega (arith, few bytes t f A.was_read.module_is A.stored.there)

  -- the tables are cut to what is filled
  pub cut : {n e : ℕ} → n ≡ length (module_of bytes t).types → e ≡ length (function_of bytes t f).expressions →
      Marked bytes t f (take (type_words * n) rows) (take n alike) (take n held) (take e paths) firsts s rs path g v
  cut {n} {e} p q = record {
    was_read = A.was_read;
    sized = record {
      types_long = omega (arith, length-take-le (type_words * n) rows (omega (arith, few_types p, A.working.rows_long)), p);
      alike_long = omega (arith, length-take-le n alike (omega (arith, few_types p, A.working.alike_long)), p);
      held_long = omega (arith, length-take-le n held (omega (arith, few_types p, A.working.held_long)), p);
      paths_long = omega (arith, length-take-le e paths (omega (arith, few_expressions q, A.working.paths_long)), q);
    };
    firsts_long = A.working.firsts_long;
    store = A.working.store;
    slots_long = A.working.slots_long;
    path_long = A.working.path_long;
    stored = A.stored;
  }

  module _ (report context : List ℕ) {r : Result (Range ℕ) (Range ℕ)} (D : MarksFound bytes t f report r) where
    abbrev marks : List ℕ
    marks = marks_in bytes t f report

    unshaped : (a b : Bool) → cut_short (module_of bytes t) f report ≡ a → has_shape (function_of bytes t f) marks ≡ b → not a && b ≡ false → (c : RequiredContext) → answer_to (on_buffer (module_of bytes t) report (asks_by s f g v) c) ≡ refused 21
    unfolding on_buffer answer_to value_of
    unshaped true b ha hb h c = rw ha
    unshaped false true ha hb h c = never (sym h)
    unshaped false false ha hb h c = rw ha (rw same_scope (checked-unshaped (scope_at bytes t f) (asked_by s g v) (reported marks c) hb))

    pub refused_21 : {x : Range ℕ} → r ≡ Err x → ReportChecked (module_of bytes t) s f g v report context (refused 21)
    refused_21 h = record { is = λ c e. rw (unshaped _ _ refl refl (sym D.fits ∙ ap is_ok h) c) }

    shaped : (a b : Bool) → cut_short (module_of bytes t) f report ≡ a → has_shape (function_of bytes t f) marks ≡ b → not a && b ≡ true → (c : RequiredContext) →
        answer_to (on_buffer (module_of bytes t) report (asks_by s f g v) c) ≡ judge_by (scope_at bytes t f) (asked_by s g v) (reported marks c) (blamed_expression (scope_at bytes t f)) (blamed_statement (scope_at bytes t f) (body (scope_at bytes t f) (reported marks c)))
    unfolding on_buffer answer_to value_of
    shaped true b ha hb h c = never h
    shaped false false ha hb h c = never h
    shaped false true ha hb h c = rw ha (rw same_scope (checked-shaped (scope_at bytes t f) (asked_by s g v) (reported marks c) hb))

    pub report-checked : {w : Answer} {x : Range ℕ} → r ≡ Ok x → MarksChecked bytes t f s g v (slice report x.start (x.end - x.start)) context w → ReportChecked (module_of bytes t) s f g v report context w
    report-checked {x = x} h C =
        let same : slice report x.start (x.end - x.start) ≡ marks = rw h at D.is in
        record { is = λ c e. rw same at (C.is c e) ∙ sym (shaped _ _ refl refl (sym D.fits ∙ ap is_ok h) c) }

-- The whole

module _ {m : Module} {request context u : List ℕ} {a : Result Heard Refusal} (H : Hears m request context u a) (report : List ℕ) where
  pub read_refused : {e : Refusal} → a ≡ Err e → refused (number e) ≡ answer_to (meaning_by m report (request_of request) (context_of context))
  unfolding answer_to
  read_refused e = rw ((rw e at H.by) report)

  heard_is : {h : Heard} → a ≡ Ok h → Accepted m request context u h.function.0 h.asked.globals h.asked.value
  heard_is e = rw e at H.by

  pub read_asks : {bytes t : List ℕ} {h : Heard} {rows alike : List ℕ} {held paths : List Bool} {firsts s rs path : List ℕ} → WasRead bytes t → Working rows alike held paths firsts s rs path → module_of bytes t ≡ m → length u ≡ length s →
      a ≡ Ok h → Asked bytes t h.function.0 rows alike held paths firsts u rs path h.asked.globals h.asked.value
  read_asks W K same e o = record {
    was_read = W;
    working = record {
      rows_long = K.rows_long;
      alike_long = K.alike_long;
      held_long = K.held_long;
      paths_long = K.paths_long;
      firsts_long = K.firsts_long;
      store = record { long = rw e K.store.long; fits = rw e K.store.fits };
      slots_long = K.slots_long;
      path_long = K.path_long;
    };
    stored = rw same (heard_is o).stored;
  }
