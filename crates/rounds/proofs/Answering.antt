-- The answer by what the last pass carried: 15 before 16, then the lowest fault, then the start.
use Prim.Native.Nat.{ℕ}
use mathlib.Core.Path.{◌≡◌, sym, ◌∙◌}
use mathlib.Core.Bool.{Bool, true, false, cond}
use mathlib.Core.List.{List}
use mathlib.Core.Option.{Option, some}
use Rattle.std.specs.Prelude.{Some, None}
use Rattle.part.specs.PartReq.{PartReq}
use Rattle.part.specs.Store.{part}
use Rattle.context.specs.RequiredContext.{RequiredContext}
use Rattle.request.specs.Context.{context_of}
use Rattle.clearance.specs.Verdict.{Report, Answer, clear, at_start, at_statement, refused, verdict, starts}
use Rattle.judge.specs.Blamed.{blamed}
use Rattle.pass.specs.Checked.{answer_of}
use Rattle.standing.specs.Passing.{Passing}
use Rattle.context_bytes.specs.Covered.{CoversContext}
use Rattle.rounds.specs.Settling.{reported}
use Rattle.rounds.specs.Rounds.{Answers}

abbrev by_flags : Report → PartReq → (deep wide : Bool) → Option ℕ → Answer
by_flags P m deep wide fault = cond deep (refused 15) (cond wide (refused 16) (verdict fault (starts P m)))

module _ {s : List ℕ} {n : ℕ} {q : Passing} {context : List ℕ} where
  by_flags-each : {r : Answer} →
      ((c : RequiredContext) (marks : List ℕ) → context_of context ≡ some c → r ≡ by_flags (reported marks c) (part s n) q.deep q.wide (blamed q.fault)) →
      Answers s n q context r
  unfolding answer_of
  by_flags-each h = record {
    is = λ c marks d e z. h c marks e ∙ rw (z.deep, z.wide, z.fault);
  }

  pub answers_deep : q.deep ≡ true → Answers s n q context (refused 15)
  answers_deep a = by_flags-each (λ c marks e. rw a)

  module _ (a : q.deep ≡ false) where
    pub answers_wide : q.wide ≡ true → Answers s n q context (refused 16)
    answers_wide b = by_flags-each (λ c marks e. rw (a, b))

    module _ (b : q.wide ≡ false) where
      pub answers_fault : {m : ℕ} → q.fault ≡ Some m → Answers s n q context (at_statement m)
      unfolding verdict
      answers_fault f = by_flags-each (λ c marks e. rw (a, b, f))

      module _ (f : q.fault ≡ None) {r : Bool} (w : CoversContext s n context r) where
        pub answers_clear : r ≡ true → Answers s n q context clear
        unfolding verdict
        answers_clear h = by_flags-each (λ c marks e. rw (a, b, f, sym (w.is c marks e) ∙ h))

        pub answers_start : r ≡ false → Answers s n q context at_start
        unfolding verdict
        answers_start h = by_flags-each (λ c marks e. rw (a, b, f, sym (w.is c marks e) ∙ h))
