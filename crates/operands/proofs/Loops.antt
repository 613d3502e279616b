-- A loop over a list of asks, from its last to its first: before each turn those from the number k on are done.
use Prim.Native.Nat.{ℕ, zero, suc, ◌+◌, ◌<◌, ◌≤◌}
use native.Mathlib.Omega.{arith}
use mathlib.Core.Path.{◌≡◌, refl, sym, ap, subst, ◌∙◌}
use mathlib.Core.Bool.{Bool, true, false}
use mathlib.Core.List.{List, [], ◌∷◌, ◌++◌}
use lib.ListN.{length, get_or, take, drop, take-append-drop}
use lib.Seq.{drop-cons}
use Rattle.part.specs.PartReq.{PartReq}
use Rattle.clearance.specs.Scope.{Scope}
use Rattle.clearance.specs.Needs.{Ask}
use Rattle.operands.specs.AsksAll.{wanted_in, ListGiven, AsksAll}
use Rattle.operands.proofs.Lists.{all_none, all_full, given_next, all_then}

-- the j-th ask of xs is f j of the part that is needed
pub record Each (xs : List Ask) (f : ℕ → PartReq → Ask) (m : ℕ) (a : PartReq) : Type 0 where
  pub long : length xs ≡ m
  pub is : (j : ℕ) (d : Ask) → j < m → get_or xs j d ≡ f j a

drop_past : (xs : List Ask) (k : ℕ) → length xs ≡ k → drop k xs ≡ []
drop_past [] zero e = refl
drop_past [] (suc k) e = refl
drop_past (x ∷ xs) zero e = absurd (omega arith)
drop_past (x ∷ xs) (suc k) e = drop_past xs k (omega arith)

module _ {S : Scope} {xs : List Ask} {f : ℕ → PartReq → Ask} {m : ℕ} {s rs : List ℕ} {n : ℕ} (E : Each xs f m (wanted_in s rs n)) (g : ListGiven S xs s rs n) where
  -- nothing is done
  pub loop_start : {k : ℕ} → k ≡ m → AsksAll S (drop k xs) s rs n s rs true
  loop_start {k} e = rw (drop_past xs k (E.long ∙ sym e)) (all_none g)

  -- a turn
  module _ (i : ℕ) {k : ℕ} (next : i + 1 ≡ k) (low : k ≤ m) {t us : List ℕ} (a : AsksAll S (drop k xs) s rs n t us true) where
    here : drop i xs ≡ f i (wanted_in s rs n) ∷ drop k xs
    here =
        let d = f i (wanted_in s rs n) in
        let l : i < length xs = omega (arith, E.long) in
        let e : suc i ≡ k = omega arith in
        drop-cons xs i d l ∙ rw (E.is i d (omega arith), e)

    whole : xs ≡ take i xs ++ (f i (wanted_in s rs n) ∷ drop k xs)
    whole = sym (take-append-drop i xs) ∙ ap (λ (l : List Ask). take i xs ++ l) here

    pub loop_given : ListGiven S (f i (wanted_in t us n) ∷ []) t us n
    loop_given = given_next a refl (λ p. f i p ∷ []) (take i xs) (subst (λ (l : List Ask). ListGiven S l s rs n) whole g)

    module _ {v vs : List ℕ} {r : Bool} (b : AsksAll S (f i (wanted_in t us n) ∷ []) t us n v vs r) where
      one_more : AsksAll S (f i (wanted_in s rs n) ∷ drop k xs) s rs n v vs r
      one_more = all_then a refl (λ p. f i p ∷ []) g.two (omega (arith, g.spare)) b

      pub loop_full : r ≡ false → AsksAll S xs s rs n v vs false
      loop_full e = subst (λ (l : List Ask). AsksAll S l s rs n v vs false) (sym whole) (all_full one_more (take i xs) e)

      pub loop_more : r ≡ true → AsksAll S (drop i xs) s rs n v vs true
      loop_more e = subst (λ (b : Bool). AsksAll S (drop i xs) s rs n v vs b) e (rw here one_more)
