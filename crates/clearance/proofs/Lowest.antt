-- Lists of numbers: which is the lowest, and which are the numbers of those that fail a test.
use Prim.Native.Nat.{ℕ, zero, suc, ◌+◌, ◌<◌, ◌≤◌}
use native.Mathlib.Omega.{arith}
use mathlib.Core.Path.{◌≡◌, refl, sym, ap, subst, ◌∙◌}
use mathlib.Core.Bool.{Bool, true, false, cond}
use mathlib.Core.List.{List, [], ◌∷◌, ◌++◌}
use mathlib.Core.Logic.{◌⊎◌, inl, inr}
use mathlib.Core.Option.{Option, some, none as nothing}
use lib.Dec.{ltb, eqb}
use lib.ListN.{length, get_or}
use borrow.Author.Tests.{ltb-true, ltb-false, eqb-true, eqb-false}
use Rattle.part.proofs.Equations.{never}
use Rattle.clearance.specs.Judged.{unless, failing, lower, lowest}
use Rattle.clearance.specs.Rules.{Member, here, later, Lowest}
use Rattle.clearance.proofs.Small.{cases}
use Rattle.clearance.proofs.Cleared.{lowest-none}

pub no_member : {A : Type 0} (m : ℕ) (l : List ℕ) → l ≡ [] → Member m l → A
no_member m l e here = never cc
no_member m l e (later h) = never cc

only_first : (n : ℕ) (ns : List ℕ) → ns ≡ [] → Lowest n (n ∷ ns)
only_first n ns e = record { member = here; least = least }
  where
    least : (m : ℕ) → Member m (n ∷ ns) → n ≤ m
    least m here = omega arith
    least m (later h) = no_member m ns e h

first_lowest : (n j : ℕ) (ns : List ℕ) → n ≤ j → Lowest j ns → Lowest n (n ∷ ns)
first_lowest n j ns l L = record { member = here; least = least }
  where
    least : (m : ℕ) → Member m (n ∷ ns) → n ≤ m
    least m here = omega arith
    least m (later h) = omega (arith, L.least m h)

later_lowest : (n j : ℕ) (ns : List ℕ) → j < n → Lowest j ns → Lowest j (n ∷ ns)
later_lowest n j ns l L = record { member = later L.member; least = least }
  where
    least : (m : ℕ) → Member m (n ∷ ns) → j ≤ m
    least m here = omega arith
    least m (later h) = L.least m h

either_lowest : (n j k : ℕ) (ns : List ℕ) → Lowest j ns → cond (ltb j n) j n ≡ k → Lowest k (n ∷ ns)
either_lowest n j k ns L e =
    cases (ltb j n)
    (λ t. subst (λ x. Lowest x (n ∷ ns)) (rw t at e) (later_lowest n j ns (ltb-true j n t) L))
    (λ t. subst (λ x. Lowest x (n ∷ ns)) (rw t at e) (first_lowest n j ns (ltb-false j n t) L))

same_some : (a b : ℕ) → ◌≡◌ {A = Option ℕ} (some a) (some b) → a ≡ b
same_some a b e = cc

pub lowest-is : (l : List ℕ) (k : ℕ) → lowest l ≡ some k → Lowest k l
lowest-is [] k e = never (unfold lowest in cc)
lowest-is (n ∷ ns) k e = go (lowest ns) refl (λ j. lowest-is ns j) (unfold lowest in e)
  where
    go : (o : Option ℕ) → lowest ns ≡ o → ((j : ℕ) → lowest ns ≡ some j → Lowest j ns) → lower n o ≡ some k → Lowest k (n ∷ ns)
    go nothing h f g = subst (λ x. Lowest x (n ∷ ns)) (same_some n k (unfold lower in g)) (only_first n ns (lowest-none ns h))
    go (some j) h f g = either_lowest n j k ns (f j h) (same_some _ k (unfold lower in g))

-- What the numbers of those that fail a test are

pub first_or_later : {A : Type 0} (k n : ℕ) (l : List ℕ) → Member n (k ∷ l) → (n ≡ k → A) → (Member n l → A) → A
first_or_later k n l here f g = f refl
first_or_later k n l (later h) f g = g h

unless-cases : {A : Type 0} (b : Bool) (k n : ℕ) (l : List ℕ) → Member n (unless b k ++ l) → (b ≡ false → n ≡ k → A) → (Member n l → A) → A
unfolding unless
unless-cases true k n l h f g = g h
unless-cases false k n l h f g = first_or_later k n l h (f refl) g

unless-later : (b : Bool) (k n : ℕ) (l : List ℕ) → Member n l → Member n (unless b k ++ l)
unfolding unless
unless-later true k n l h = h
unless-later false k n l h = later h

unless-first : (b : Bool) (k : ℕ) (l : List ℕ) → b ≡ false → Member k (unless b k ++ l)
unfolding unless
unless-first true k l h = never (sym h)
unless-first false k l h = here

module _ {A : Type 0} (test : ℕ → A → Bool) (d : A) where
  -- each of them fails,
  pub failing-fails : (k : ℕ) (xs : List A) (n : ℕ) → Member n (failing test k xs) → (i : ℕ) × (i < length xs) × (n ≡ k + i) × (test n (get_or xs i d) ≡ false)
  unfolding failing
  failing-fails k [] n h = no_member n [] refl h
  failing-fails k (x ∷ xs) n h =
      unless-cases (test k x) k n (failing test (suc k) xs) h
      (λ t e. (0, omega arith, omega (arith, e), rw e t))
      (λ m. let z = failing-fails (suc k) xs n m in (suc z.0, omega (arith, z.1), omega (arith, z.2), z.3))

  -- and each that fails is one of them
  pub fails_failing : (k : ℕ) (xs : List A) (i : ℕ) → i < length xs → test (k + i) (get_or xs i d) ≡ false → Member (k + i) (failing test k xs)
  unfolding failing
  fails_failing k [] i l h = absurd (omega arith)
  fails_failing k (x ∷ xs) zero l h =
      let z : k + zero ≡ k = omega arith in
      rw z (unless-first (test k x) k (failing test (suc k) xs) (rw z at h))
  fails_failing k (x ∷ xs) (suc i) l h =
      let z : k + suc i ≡ suc k + i = omega arith in
      rw z (unless-later (test k x) k (suc k + i) (failing test (suc k) xs) (fails_failing (suc k) xs i (omega arith) (rw z at h)))

-- Whether a number is in a list

pub decide_member : (n : ℕ) (l : List ℕ) → Member n l ⊎ (Member n l → ⊥)
decide_member n [] = inr (λ m. no_member n [] refl m)
decide_member n (k ∷ l) = go (decide_member n l)
  where
    go : Member n l ⊎ (Member n l → ⊥) → Member n (k ∷ l) ⊎ (Member n (k ∷ l) → ⊥)
    go (inl m) = inl (later m)
    go (inr f) = cases (eqb n k) (λ e. inl (subst (λ x. Member n (x ∷ l)) (eqb-true n k e) here)) (λ e. inr (λ m. first_or_later k n l m (eqb-false n k e) f))

-- The lowest, from what it is

pub none_listed : (l : List ℕ) → ((n : ℕ) → Member n l → ⊥) → lowest l ≡ nothing
unfolding lowest
none_listed [] h = refl
none_listed (n ∷ l) h = absurd (h n here)

pub listed : (l : List ℕ) (n : ℕ) → Lowest n l → lowest l ≡ some n
listed l n L = go (lowest l) refl
  where
    go : (o : Option ℕ) → lowest l ≡ o → lowest l ≡ some n
    go nothing e = no_member n l (lowest-none l e) L.member
    go (some m) e =
        let M = lowest-is l m e in
        let z : m ≡ n = omega (arith, M.least n L.member, L.least m M.member) in
        e ∙ ap some z
