-- The operators that the claim speaks of are those that WGSL has: one that uses its operands whole may be any function of them, one that
-- works number by number is by component, and so is Select, which needs all of its condition.
use Prim.Native.Nat.{ℕ}
use mathlib.Core.Path.{◌≡◌, refl, sym, ap, ◌∙◌, subst}
use mathlib.Core.Bool.{Bool, true, false, cond}
use mathlib.Core.List.{List, [], ◌∷◌, ◌++◌, map}
use lib.Dec.{eqb}
use Rattle.part.proofs.Equations.{never}
use Rattle.module.specs.Module.{ExpressionHandle, Select}
use Rattle.clearance.specs.Scope.{Scope, typed, Operand, whole, same, operator, arm_of, arm}
use Rattle.clearance.specs.Run.{Value, Operators}
use Rattle.clearance.specs.Claim.{SameOperands, no_operands, same_whole, same_part, ByComponent}

-- number by number
unfoldable pub numberwise : (ExpressionHandle → List ℕ → ℕ) → Operators
numberwise f e vs q = f e (map (λ v. v q) vs)

numbers_same : (q r : List ℕ) (xs : List Operand) (vs ws : List Value) → SameOperands q xs vs ws →
    map (λ (v : Value). v (q ++ r)) vs ≡ map (λ (v : Value). v (q ++ r)) ws
numbers_same q r xs vs ws no_operands = refl
numbers_same q r xs vs ws (same_whole v h) = ap (◌∷◌ (v (q ++ r))) (numbers_same q r _ _ _ h)
numbers_same q r xs vs ws (same_part v w e h) = rw (e r, numbers_same q r _ _ _ h)

pub numberwise-by_component : (S : Scope) (f : ExpressionHandle → List ℕ → ℕ) → ByComponent S (numberwise f)
unfolding numberwise
numberwise-by_component S f = record { parts = λ e xs i q vs ws h r. ap (f e) (numbers_same q r xs vs ws h) }

-- all operands whole
unfoldable pub only_whole : List Operand → Bool
only_whole [] = true
only_whole (whole x ∷ xs) = only_whole xs
only_whole (same x ∷ xs) = false

pub whole_same : (q : List ℕ) (xs : List Operand) (vs ws : List Value) → only_whole xs ≡ true → SameOperands q xs vs ws → vs ≡ ws
unfolding only_whole
whole_same q xs vs ws o no_operands = refl
whole_same q xs vs ws o (same_whole v h) = ap (◌∷◌ v) (whole_same q _ _ _ o h)
whole_same q xs vs ws o (same_part v w e h) = never o

-- Select takes the first value unless the condition is zero
unfoldable pub selecting : List Value → Value
selecting [] q = 0
selecting (c ∷ []) q = 0
selecting (c ∷ a ∷ []) q = 0
selecting (c ∷ a ∷ r ∷ vs) q = cond (eqb (c []) 0) (r q) (a q)

selecting-same : (q : List ℕ) (x y z : ExpressionHandle) (vs ws : List Value) → SameOperands q (whole x ∷ same y ∷ same z ∷ []) vs ws → (r : List ℕ) →
    selecting vs (q ++ r) ≡ selecting ws (q ++ r)
unfolding selecting
selecting-same q x y z vs ws (same_whole v (same_part a b e (same_part c d f no_operands))) r = rw (e r, f r)

pub select_by_component : (S : Scope) (e condition accept reject : ExpressionHandle) → (typed S e).expression ≡ Select condition accept reject →
    (xs : List Operand) → arm S e ≡ operator xs → (q : List ℕ) (vs ws : List Value) → SameOperands q xs vs ws → (r : List ℕ) →
    selecting vs (q ++ r) ≡ selecting ws (q ++ r)
unfolding arm arm_of
select_by_component S e condition accept reject i xs j q vs ws h r =
    let z : operator (whole condition ∷ same accept ∷ same reject ∷ []) ≡ operator xs = ap (arm_of S e) (sym i) ∙ j in
    let y : xs ≡ whole condition ∷ same accept ∷ same reject ∷ [] = cc z in
    selecting-same q condition accept reject vs ws (subst (λ l. SameOperands q l vs ws) y h) r
