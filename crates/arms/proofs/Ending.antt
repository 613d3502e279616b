-- 16 as a visit ends: it counts what the definition counts, and what is left after a collection stands as before.
use mathlib.Core.Path.{◌≡◌, ap, subst, ◌∙◌}
use mathlib.Core.Bool.{Bool, true, false}
use mathlib.Core.List.{List}
use Prim.Native.Nat.{ℕ, ◌+◌}
use native.Mathlib.Omega.{arith}
use Rattle.std.specs.Prelude.{Result, Ok, Err}
use Rattle.field.specs.declared.refusal.Refusal.TheVariants.{PiecesLimit}
use Rattle.module.specs.Tables.{module_of}
use Rattle.walk.specs.State.{at_statement, went, halt, count}
use Rattle.walk.proofs.Bind.{counted-over, counted-under}
use Rattle.memory.specs.Memory.{read}
use Rattle.marks.specs.declared.places.MarkPlaces.{MarkPlaces}
use Rattle.marks.specs.declared.totals.MarkTotals.{MarkTotals}
use Rattle.state.specs.declared.answer.Place.TheVariants as place
use Rattle.state.specs.declared.answer.Tally.{Tally}
use Rattle.state.specs.declared.frame.Frame.{Frame}
use Rattle.state.specs.declared.answer.Halt.{Halt}
use Rattle.state.specs.declared.answer.Answer.{Answer}
use Rattle.state.proofs.Others.{count_is}
use Rattle.expression.specs.Visits.{Counting, Allowed}
use Rattle.expression.proofs.Visits.{is_allowed, not_allowed}
use Rattle.block.specs.Standing.{rest_in, state_in, Standing}
use Rattle.block.specs.Blocks.{context_in, StatementEnding}
use Rattle.block.proofs.Steps.{beside_same, beside_then}
use Rattle.arms.specs.Visit.{CountingWhen, LastAsked, last, LastEnds}
use Rattle.arms.proofs.Tidies.{tidied_state, tidied_standing}

module _ {bytes t types : List ℕ} {places : MarkPlaces} {s rs open_marks : List ℕ} {totals : MarkTotals} {f at held sum visits : ℕ} (S : Standing bytes t types places s rs open_marks totals f at held sum visits) where
  pub standing_count : (v : ℕ) → count held (state_in bytes t s rs open_marks totals f at v) ≡ held + (context_in s rs at + sum)
  standing_count v = count_is t f at held (read s rs) (rest_in (module_of bytes t) t f (read s rs) open_marks totals) v sum S.ready.sums S.totals-sum

-- `end_statement`: what it answers
module _ {u us : List ℕ} {fr : Frame} (r : Result Answer Halt) where
  pub last_halts : {stop : Halt} → r ≡ Err stop → LastEnds u us fr r (Err stop) u us
  last_halts e = record {
    by = λ bytes t types places s rs open_marks totals open_after totals-after total E.
        record { by = ap (last fr) (subst (λ (x : Result Answer Halt). StatementEnding bytes t types places s rs open_marks totals fr total (λ b. b) x u us open_after totals-after) e E.by) };
  }

  module _ {tally : Tally} {b : Bool} (e : r ≡ Ok (record { tally = tally; required = b })) where
    pub last_counting : LastAsked u us fr r → Counting u us fr.at fr.held tally.sum
    last_counting A = subst (CountingWhen u us fr) e A.by

    module _ {h : Bool} {v vs : List ℕ} (A : Allowed u us fr.at fr.held tally.sum h v vs) where
      pub last_allowed : h ≡ true → LastEnds u us fr r (Ok (record { tally = tally; required = b })) v vs
      last_allowed g = record {
        by = λ bytes t types places s rs open_marks totals open_after totals-after total E.
            let W = subst (λ (x : Result Answer Halt). StatementEnding bytes t types places s rs open_marks totals fr total (λ b. b) x u us open_after totals-after) e E.by in
            let a = is_allowed A g in
            let under = counted-under fr.held (at_statement fr.function.0 fr.statement) (state_in bytes t u us open_after totals-after fr.function.0 fr.at tally.visits) (omega (arith, standing_count W.standing tally.visits, a.0)) in
            let z : went (state_in bytes t v vs open_after totals-after fr.function.0 fr.at tally.visits) b ≡ last fr (went (state_in bytes t u us open_after totals-after fr.function.0 fr.at tally.visits) b) =
            rw (under, tidied_state W.standing a.1 tally.visits) in
            record {
              by = record {
                is = z ∙ ap (last fr) W.is;
                standing = tidied_standing W.standing a.1;
                few = rw a.1.same a.0;
                roomy = a.1.roomy;
                beside = beside_then fr.at W.beside (beside_same a.1.long a.1.same) (omega arith);
              };
            };
      }

      pub last_refused : h ≡ false → LastEnds u us fr r (Err (record { refusal = PiecesLimit; place = place.Statement fr.function fr.statement })) v vs
      last_refused g = record {
        by = λ bytes t types places s rs open_marks totals open_after totals-after total E.
            let W = subst (λ (x : Result Answer Halt). StatementEnding bytes t types places s rs open_marks totals fr total (λ b. b) x u us open_after totals-after) e E.by in
            let over = counted-over fr.held (at_statement fr.function.0 fr.statement) (state_in bytes t u us open_after totals-after fr.function.0 fr.at tally.visits) (omega (arith, standing_count W.standing tally.visits, not_allowed A g)) in
            let z : halt 16 (at_statement fr.function.0 fr.statement) ≡ last fr (went (state_in bytes t u us open_after totals-after fr.function.0 fr.at tally.visits) b) = rw over in
            record { by = z ∙ ap (last fr) W.is };
      }
