-- The equation of a recursion by way of lower numbers, and induction over it: both by one induction over how many numbers are tied.
use mathlib.Core.Path.{◌≡◌, refl, ap, ◌∙◌, fun_ext}
use mathlib.Core.Bool.{Bool, true, false, cond}
use Prim.Native.Nat.{ℕ, zero, suc, ◌<◌, ◌≤◌}
use native.Mathlib.Omega.{arith}
use lib.Dec.{ltb, eqb}
use borrow.Author.Tests.{lt-ltb, le-ltb, ltb-true, ltb-false, eqb-true, eqb-false, eq-eqb, ne_eqb}
use Rattle.module.specs.Knot.{tie, knot, below}

pub below-lt : {A : Type 0} (w : ℕ → A) (d : A) (e a : ℕ) → a < e → below w d e a ≡ w a
unfolding below
below-lt w d e a h = rw (lt-ltb a e h)

tie-at : {A : Type 0} (step : (ℕ → A) → ℕ → A) (d : A) (k : ℕ) → tie step d (suc k) k ≡ step (tie step d k) k
unfolding tie
tie-at step d k = rw (eq-eqb k k refl, tie)

tie-other : {A : Type 0} (step : (ℕ → A) → ℕ → A) (d : A) (k e : ℕ) → (e ≡ k → ⊥) → tie step d (suc k) e ≡ tie step d k e
unfolding tie
tie-other step d k e h = rw (ne_eqb e k h, tie)

-- one more number: the claim at suc k from the claim at k
tie_more : {A : Type 0} (step : (ℕ → A) → ℕ → A) (d : A) (k a : ℕ) → tie step d k a ≡ below (knot step d) d k a → (b : Bool) → eqb a k ≡ b → tie step d (suc k) a ≡ below (knot step d) d (suc k) a
unfolding below knot
tie_more step d k a ih true h = let e : a ≡ k = eqb-true a k h in rw (lt-ltb a (suc k) (omega arith), e)
tie_more step d k a ih false h =
    let n : a ≡ k → ⊥ = eqb-false a k h in
    tie-other step d k a n ∙ ih ∙ same n (ltb a k) refl
  where
    same : (a ≡ k → ⊥) → (b : Bool) → ltb a k ≡ b → cond (ltb a k) (tie step d (suc a) a) d ≡ cond (ltb a (suc k)) (tie step d (suc a) a) d
    same n true t = let l : a < k = ltb-true a k t in rw (t, lt-ltb a (suc k) (omega arith))
    same n false t = let l : k ≤ a = ltb-false a k t in rw (t, le-ltb a (suc k) (omega arith))

tie-below : {A : Type 0} (step : (ℕ → A) → ℕ → A) (d : A) (k a : ℕ) → tie step d k a ≡ below (knot step d) d k a
unfolding tie below knot
tie-below step d zero a = rw (le-ltb a 0 (omega arith))
tie-below step d (suc k) a = tie_more step d k a (tie-below step d k a) (eqb a k) refl

-- the equation of the recursion
pub knot-is : {A : Type 0} (step : (ℕ → A) → ℕ → A) (d : A) (e : ℕ) → knot step d e ≡ step (below (knot step d) d e) e
unfolding knot
knot-is step d e = tie-at step d e ∙ ap (λ (w : ℕ → _). step w e) (fun_ext (tie-below step d e))

tied : {A : Type 0} (P : ℕ → A → Type 0) (step : (ℕ → A) → ℕ → A) (d : A) → ((w : ℕ → A) (e : ℕ) → ((a : ℕ) → P a (w a)) → P e (step w e)) → (k a : ℕ) → ((b : ℕ) → P b (tie step d k b)) → (b : Bool) → eqb a k ≡ b → P a (tie step d (suc k) a)
tied P step d on_step k a ih true h = let e : a ≡ k = eqb-true a k h in rw (e, tie-at step d k) (on_step (tie step d k) k ih)
tied P step d on_step k a ih false h = rw (tie-other step d k a (eqb-false a k h)) (ih a)

all_tied : {A : Type 0} (P : ℕ → A → Type 0) (step : (ℕ → A) → ℕ → A) (d : A) → ((e : ℕ) → P e d) → ((w : ℕ → A) (e : ℕ) → ((a : ℕ) → P a (w a)) → P e (step w e)) → (k a : ℕ) → P a (tie step d k a)
unfolding tie
all_tied P step d on_d on_step zero a = on_d a
all_tied P step d on_d on_step (suc k) a = tied P step d on_step k a (all_tied P step d on_d on_step k) (eqb a k) refl

-- induction: what holds of d, and at each number wherever it holds at the calls, holds at every number
pub knot-all : {A : Type 0} (P : ℕ → A → Type 0) (step : (ℕ → A) → ℕ → A) (d : A) → ((e : ℕ) → P e d) → ((w : ℕ → A) (e : ℕ) → ((a : ℕ) → P a (w a)) → P e (step w e)) → (e : ℕ) → P e (knot step d e)
unfolding knot
knot-all P step d on_d on_step e = all_tied P step d on_d on_step (suc e) e
