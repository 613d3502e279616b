-- Recursion on a number by way of any lower number, tied once: no fuel, and it computes.
use Rattle.std.specs.Prelude.{ℕ, zero, suc, true, false, cond, ltb, eqb}

-- what `step` gives at e, where e is below n; d elsewhere
unfoldable pub tie : {A : Type 0} → ((ℕ → A) → ℕ → A) → A → (n e : ℕ) → A
tie step d zero e = d
tie step d (suc k) e = let lower = tie step d k in elim (eqb e k) [ true ↦ step lower k | false ↦ lower e ]

-- the recursion whose step is `step`, where a call at a number that is not lower gives d
unfoldable pub knot : {A : Type 0} → ((ℕ → A) → ℕ → A) → A → ℕ → A
knot step d e = tie step d (suc e) e

-- w at the numbers below e
unfoldable pub below : {A : Type 0} → (ℕ → A) → A → (e a : ℕ) → A
below w d e a = cond (ltb a e) (w a) d
