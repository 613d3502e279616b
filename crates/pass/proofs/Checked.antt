-- The clearance by passes is the clearance, or 26 where a pass was past the working bound or the loops' needs had not settled after so many rounds: by
-- recursion over the number of rounds, and by cases of how the answer comes about.
use Prim.Native.Nat.{ℕ, zero, suc, ◌≤◌}
use native.Mathlib.Omega.{arith}
use native.Mathlib.Decide.{dec_lt}
use mathlib.Core.Path.{◌≡◌, refl, sym, ap, ◌∙◌}
use mathlib.Core.Bool.{Bool, true, false, cond, ◌&&◌, or-false}
use mathlib.Core.List.{List, [], ◌∷◌}
use mathlib.Core.Option.{Option, some, none as nothing}
use mathlib.Core.Logic.{◌⊎◌, inl, inr, ⊎_elim}
use Rattle.part.specs.PartReq.{PartReq}
use Rattle.part.proofs.Equations.{never}
use Rattle.clearance.specs.Scope.{Scope}
use Rattle.clearance.specs.Tree.{Tree}
use Rattle.clearance.specs.Needs.{Exit, next, returned, Setting, Table, reentry, walk, stable, round, settle, enough, smallest}
use Rattle.clearance.specs.Judged.{lower, lowest, blamed_expression, blamed_statement}
use Rattle.clearance.specs.Verdict.{Request, Report, clear, refused, ending, setting, body, start_needs, faults, at_point, limited, answer_by, judge, has_shape, clearance}
use Rattle.clearance.specs.IsNeed.{AscendingRequest}
use Rattle.clearance.proofs.Small.{cases}
use Rattle.clearance.proofs.Rounds.{rounds_end}
use Rattle.pass.specs.Pass.{too_many, Passed, on, full, lowest_with}
use Rattle.pass.specs.Checked.{fresh, asked_of, pass_once, settled_by, settle_within, max_rounds, last_pass, answer_of, judge_by, checked, Beyond, memory, rounds, SameOrBeyond}
use Rattle.pass.proofs.Carry.{carry}
use Rattle.pass.proofs.After.{after}
use Rattle.pass.proofs.Pass.{Says, says_then, says_within, pass-says}

-- Rounds

module _ (W : Setting) (a : Tree) (k : Exit → PartReq) where
  -- what the pass with the table t comes to
  unfoldable outcome : Option Table → Option Passed
  outcome nothing = nothing
  outcome (some t) = some (on (after W (reentry t) a k (fresh t)) (walk W (reentry t) a k))

  once_says : (t : Table) → Says (pass_once W a k t) (after W (reentry t) a k (fresh t)) (walk W (reentry t) a k)
  unfolding pass_once
  once_says t = says_then _ (says_within (asked_of W ∷ k returned ∷ t) (k next) (fresh t)) (pass-says W (reentry t) a _ k (fresh t))

  -- a pass was full, or the outcome is that of the rounds by definition
  Agree : Option Passed → Option Table → Type 0
  Agree x o = (x ≡ some full) ⊎ (x ≡ outcome o)

  -- one more round, with q whether the needs held
  agree_round : (q : Bool) (t : Table) (x : Option Passed) (o : Option Table) → Agree x o →
      Agree (cond (q && true) (outcome (some t)) x) (elim q [ true ↦ some t | false ↦ o ])
  unfolding Agree
  agree_round true t x o h = inr refl
  agree_round false t x o h = h

  agree_pass : (t : Table) (p : Passed) (f : Table → Option Passed) (o : Option Table) → Says p (after W (reentry t) a k (fresh t)) (walk W (reentry t) a k) →
      Agree (f (round W a k t)) o → Agree (settled_by p f) (elim (stable W (reentry t) a k) [ true ↦ some t | false ↦ o ])
  unfolding Agree settled_by outcome after carry fresh round
  agree_pass t p f o (inl e) h = inl (rw e)
  agree_pass t p f o (inr e) h = rw e (agree_round (stable W (reentry t) a k) t _ o h)

  settle-agrees : (n : ℕ) (t : Table) → Agree (settle_within W a k n t) (settle W a k n t)
  unfolding settle_within settle
  settle-agrees zero t = unfold Agree outcome in inr refl
  settle-agrees (suc n) t = agree_pass t _ _ _ (once_says t) (settle-agrees n (round W a k t))

  -- rounds that have settled have settled for good
  longer_by : (q : Bool) (t : Table) (x y o : Option Table) → (x ≡ o → y ≡ o) → elim q [ true ↦ some t | false ↦ x ] ≡ o → elim q [ true ↦ some t | false ↦ y ] ≡ o
  longer_by true t x y o h e = e
  longer_by false t x y o h e = h e

  settled_longer : (n m : ℕ) (t u : Table) → n ≤ m → settle W a k n t ≡ some u → settle W a k m t ≡ some u
  unfolding settle
  settled_longer zero m t u l e = never cc
  settled_longer (suc n) zero t u l e = absurd (omega arith)
  settled_longer (suc n) (suc m) t u l e =
      longer_by (stable W (reentry t) a k) t _ _ (some u) (settled_longer n m (round W a k t) u (omega arith)) e

  settled_same : (n m : ℕ) (t u v : Table) → settle W a k n t ≡ some u → settle W a k m t ≡ some v → u ≡ v
  settled_same n m t u v e f =
      elim (dec_lt m n) [
        | yes l ↦ let z = settled_longer m n t v (omega arith) f in cc
        | no l ↦ let z = settled_longer n m t u (omega arith) e in cc
      ]

-- Answers

lowest-of : (l : List ℕ) → lowest_with l nothing ≡ lowest l
unfolding lowest_with lowest
lowest-of [] = refl
lowest-of (n ∷ ns) = ap (lower n) (lowest-of ns)

module _ (S : Scope) (R : Request) (P : Report) where
  answer_is : (t : Table) → answer_of P (outcome (setting S R) (body S P) (ending S R) (some t)) ≡ answer_by S R P (some t)
  unfolding answer_of outcome answer_by
  answer_is t = unfold after carry fresh limited at_point too_many faults start_needs in simp (or-false, lowest-of)

  last_agrees : Agree (setting S R) (body S P) (ending S R) (last_pass S R P) (settle (setting S R) (body S P) (ending S R) max_rounds [])
  unfolding last_pass
  last_agrees = settle-agrees (setting S R) (body S P) (ending S R) max_rounds []

  module _ (ascending : AscendingRequest R) where
    last : Table
    last = (rounds_end S R P ascending).0

    settled_last : settle (setting S R) (body S P) (ending S R) (enough (setting S R) (body S P)) [] ≡ some last
    unfolding last smallest
    settled_last = (rounds_end S R P ascending).1

    answer_same : (x : Option Passed) (o : Option Table) → last_pass S R P ≡ x → settle (setting S R) (body S P) (ending S R) max_rounds [] ≡ o →
        Agree (setting S R) (body S P) (ending S R) x o → SameOrBeyond S R P (answer_of P x) (answer_by S R P (some last))
    unfolding Agree last
    answer_same x nothing h g (inl e) = inr (unfold answer_of in rw e, rounds g)
    answer_same x nothing h g (inr e) = inr (unfold answer_of outcome in rw e, rounds g)
    answer_same x (some t) h g (inl e) = inr (unfold answer_of in rw e, memory (h ∙ e))
    answer_same x (some t) h g (inr e) =
        let z : t ≡ last = settled_same (setting S R) (body S P) (ending S R) max_rounds (enough (setting S R) (body S P)) [] t last g settled_last in
        inl (rw e (answer_is t ∙ ap (λ (u : Table). answer_by S R P (some u)) z))

    judge-same : (x y : Option ℕ) → SameOrBeyond S R P (judge_by S R P x y) (judge S R P x y)
    unfolding judge_by judge last
    judge-same (some e) y = inl refl
    judge-same nothing (some n) = inl refl
    judge-same nothing nothing = rw (rounds_end S R P ascending).1 (answer_same (last_pass S R P) _ refl refl last_agrees)

    -- What is checked is the clearance, or 26, and one of the two bounds was passed.
    pub checked-is : SameOrBeyond S R P (checked S R P) (clearance S R P)
    unfolding checked clearance
    checked-is =
        cases (has_shape S.function P.marks)
        (λ e. rw (e, checked, clearance) (judge-same (blamed_expression S) (blamed_statement S (body S P))))
        (λ e. inl (rw (e, checked, clearance)))

    -- Where neither was passed, it is the clearance.
    pub checked-within : (Beyond S R P → ⊥) → checked S R P ≡ clearance S R P
    checked-within h = ⊎_elim (λ e. e) (λ e. absurd (h e.1)) checked-is

    -- What is checked clear is cleared.
    pub checked-clear : checked S R P ≡ clear → clearance S R P ≡ clear
    checked-clear h = ⊎_elim (λ e. sym e ∙ h) (λ e. let z : refused 26 ≡ clear = sym e.0 ∙ h in never cc) checked-is

    -- The rounds settle within the bound where the definition's own number of them is.
    pub rounds_enough : enough (setting S R) (body S P) ≤ max_rounds → settle (setting S R) (body S P) (ending S R) max_rounds [] ≡ nothing → ⊥
    rounds_enough l e =
        let z = settled_longer (setting S R) (body S P) (ending S R) (enough (setting S R) (body S P)) max_rounds [] last l settled_last in
        never cc
