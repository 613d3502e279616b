-- Lists, element by element: what is true of each element and its number stays true with one element more at the end.
use mathlib.Core.Path.{◌≡◌, refl, sym, ◌∙◌, subst}
use mathlib.Core.Logic.{⊎_elim}
use mathlib.Core.List.{List, [], ◌∷◌, ◌++◌}
use Prim.Native.Nat.{ℕ, zero, suc, ◌<◌, ◌≤◌}
use native.Mathlib.Nat.{eq-or-lt_of_le, le_of_suc-le-suc}
use native.Mathlib.Omega.{arith}
use lib.ListN.{length, get_or, length-append, get_or-append}
use lib.Seq.{get_or_at}
use Rattle.valid.specs.Valid.{All}

module _ {A : Type 0} where
  pub length-one_more : (xs : List A) (x : A) → length (xs ++ (x ∷ [])) ≡ suc (length xs)
  length-one_more xs x = length-append xs (x ∷ []) ∙ omega arith

  pub at_last : (P : ℕ → A → Type 0) (xs : List A) (x d : A) (i : ℕ) → i ≡ length xs → P (length xs) x → P i (get_or (xs ++ (x ∷ [])) i d)
  at_last P xs x d i e z =
      subst (λ (j : ℕ). P j (get_or (xs ++ (x ∷ [])) j d)) (sym e)
      (subst (λ (y : A). P (length xs) y) (sym (get_or_at xs x [] d (length xs) refl)) z)

  pub all_more : (P : ℕ → A → Type 0) (xs : List A) (x : A) → All P xs → P (length xs) x → All P (xs ++ (x ∷ []))
  all_more P xs x h z i d l =
      ⊎_elim
      (λ e. at_last P xs x d i e z)
      (λ m. subst (λ (y : A). P i y) (sym (get_or-append xs (x ∷ []) d i m)) (h i d m))
      (eq-or-lt_of_le (le_of_suc-le-suc (rw length-one_more at l)))

  pub more_length : (xs : List A) (x : A) → length xs ≤ length (xs ++ (x ∷ []))
  more_length xs x = rw length-one_more (omega arith)

  -- in range it does not matter what stands for what there is not
  pub in_range : (xs : List A) (i : ℕ) (c d : A) → i < length xs → get_or xs i c ≡ get_or xs i d
  in_range [] i c d l = absurd (omega arith)
  in_range (x ∷ xs) zero c d l = refl
  in_range (x ∷ xs) (suc i) c d l = in_range xs i c d (le_of_suc-le-suc l)
