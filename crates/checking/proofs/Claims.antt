-- What a check that answers clear claims, and when it answers so: from demand 3 and `exactly`, since what is checked is the clearance or 26, of a request that was read.
use Prim.Native.Nat.{ℕ}
use mathlib.Core.Path.{◌≡◌, refl, ◌∙◌}
use mathlib.Core.Bool.{true}
use mathlib.Core.List.{List}
use mathlib.Core.Logic.{◌↔◌, ⊎_elim}
use Rattle.part.specs.PartReq.{PartReq}
use Rattle.part.proofs.Equations.{never}
use Rattle.clearance.specs.Scope.{Scope}
use Rattle.clearance.specs.Verdict.{Request, Report, clear, refused, has_shape, clearance}
use Rattle.clearance.specs.Answered.{Cleared}
use Rattle.clearance.proofs.Small.{cases}
use Rattle.clearance.proofs.Answers.{exactly}
use Rattle.clearance.proofs.Top.{demand3}
use Rattle.pass.specs.Checked.{checked}
use Rattle.pass.proofs.Checked.{checked-is, checked-clear}
use Rattle.checking.specs.Check.{Meaning, unread, means, meaning, answer_to, check}
use Rattle.checking.specs.Claims.{CheckedClaims}
use Rattle.checking.proofs.Meaning.{was_read, ascends}

module _ (s request report context : List ℕ) where
  claims_of : (x : Meaning) → meaning s request report context ≡ x → answer_to x ≡ clear → CheckedClaims s request report context
  unfolding answer_to
  claims_of (unread n) h e = never cc
  claims_of (means S R P) h e =
      record {
        scope = S;
        asked = R;
        judged = P;
        meant = h;
        same = demand3.holds S R P (checked-clear S R P (ascends (was_read s request report context S R P h)) e);
      }

  -- Where the check answers clear, the claim holds of what the bytes mean.
  pub checked_claims : check s request report context ≡ clear → CheckedClaims s request report context
  unfolding check
  checked_claims e = claims_of (meaning s request report context) refl e

  module _ (S : Scope) (R : Request) (P : Report) (h : meaning s request report context ≡ means S R P) where
    pub check-is : check s request report context ≡ checked S R P
    unfolding check answer_to
    check-is = rw (h, answer_to)

    -- A report that is not refused by 26 is cleared exactly when it is as 01 says: judged, within the limits, no rule broken, and the start met.
    pub check-exactly : (check s request report context ≡ refused 26 → ⊥) → (check s request report context ≡ clear) ↔ ((r : ℕ → PartReq) × Cleared S R P r)
    check-exactly f =
        let o = ascends (was_read s request report context S R P h) in
        let same : check s request report context ≡ clearance S R P = ⊎_elim (λ e. check-is ∙ e) (λ e. absurd (f (check-is ∙ e.0))) (checked-is S R P o) in
        rw same (exactly S R P o)

    -- marks that are not refused by 21 have the function's shape
    pub check-shaped : (check s request report context ≡ refused 21 → ⊥) → has_shape S.function P.marks ≡ true
    unfolding checked
    check-shaped f = cases (has_shape S.function P.marks) (λ e. e) (λ e. absurd (f (check-is ∙ rw (e, checked))))
