-- Lists given by number: their length, what stands at a number, and when two are equal.
use mathlib.Core.Path.{◌≡◌, refl, ◌∙◌}
use mathlib.Core.Logic.{⊎_elim}
use mathlib.Core.List.{[], ◌∷◌, ◌++◌, map, map-append}
use Prim.Native.Nat.{ℕ, zero, suc, ◌<◌, ◌≤◌}
use native.Mathlib.Nat.{eq-or-lt_of_le, le_of_suc-le-suc}
use native.Mathlib.Omega.{arith}
use lib.ListN.{length, get_or, length-append, get_or-append, get_or-eq_default}
use lib.Seq.{get_or_at}
use Rattle.module.specs.Decode.{tab}

module _ {A : Type 0} where
  pub length-tab : (n : ℕ) (f : ℕ → A) → length (tab n f) ≡ n
  unfolding tab
  length-tab zero f = refl
  length-tab (suc n) f = length-append (tab n f) (f n ∷ []) ∙ rw (length-tab n f) (omega arith)

  tab-last : (n : ℕ) (f : ℕ → A) (i : ℕ) (d : A) → i ≡ n → get_or (tab n f ++ (f n ∷ [])) i d ≡ f i
  tab-last n f i d e = rw e (get_or_at (tab n f) (f n) [] d n (length-tab n f))

  pub get_d_tab : (n : ℕ) (f : ℕ → A) (i : ℕ) (d : A) → i < n → get_or (tab n f) i d ≡ f i
  unfolding tab
  get_d_tab zero f i d h = absurd (omega arith)
  get_d_tab (suc n) f i d h =
      ⊎_elim
      (λ e. tab-last n f i d e)
      (λ l. get_or-append (tab n f) (f n ∷ []) d i (rw length-tab l) ∙ get_d_tab n f i d l)
      (eq-or-lt_of_le (le_of_suc-le-suc h))

  pub tab-past : (n : ℕ) (f : ℕ → A) (i : ℕ) (d : A) → n ≤ i → get_or (tab n f) i d ≡ d
  tab-past n f i d h = get_or-eq_default (tab n f) d (rw length-tab h)

  pub tab-same : (n : ℕ) (f g : ℕ → A) → ((i : ℕ) → i < n → f i ≡ g i) → tab n f ≡ tab n g
  unfolding tab
  tab-same zero f g h = refl
  tab-same (suc n) f g h = rw (tab-same n f g (λ i l. h i (omega arith)), h n (omega arith))

pub map-tab : {A B : Type 0} (k : A → B) (n : ℕ) (f : ℕ → A) → map k (tab n f) ≡ tab n (λ i. k (f i))
unfolding tab
map-tab k zero f = refl
map-tab k (suc n) f = map-append k (tab n f) (f n ∷ []) ∙ rw (map-tab k n f)
