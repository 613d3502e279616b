-- The first statements of a function's blocks, while it is read: they ascend from 0, and there is one where there are statements. So the blocks' ranges
-- lie within the statements, apart from each other, and each statement stands in one.
use mathlib.Core.Path.{◌≡◌, refl, sym, subst}
use mathlib.Core.Logic.{⊎_elim}
use mathlib.Core.List.{List, [], ◌∷◌, ◌++◌}
use Prim.Native.Nat.{ℕ, zero, suc, ◌+◌, ◌-◌, ◌<◌, ◌≤◌}
use native.Mathlib.Nat.{add-zero, eq-or-lt_of_le, le_of_suc-le-suc, le_refl, le_trans}
use native.Mathlib.Decide.{dec_lt}
use native.Mathlib.Omega.{arith}
use lib.ListN.{length, get_or, get_or-append, get_or-eq_default}
use Rattle.module.specs.Module.{BlockRange}
use Rattle.module.specs.Decode.{tab}
use Rattle.module.specs.Reading.{range_of}
use Rattle.module.proofs.Tab.{length-tab, get_d_tab}
use Rattle.valid.specs.Valid.{InBlock}
use Rattle.valid.proofs.Lists.{length-one_more, at_last, all_more, in_range}

-- the first statements of the blocks, of a function with m statements so far
pub record Starts (starts : List ℕ) (m : ℕ) : Type 0 where
  pub within : (b : ℕ) → b < length starts → get_or starts b 0 ≤ m
  pub ascend : (b : ℕ) → suc b < length starts → get_or starts b 0 ≤ get_or starts (suc b) 0
  pub first : get_or starts 0 0 ≡ 0
  pub some_block : 0 < m → 0 < length starts

module _ (starts : List ℕ) (m : ℕ) (v : Starts starts m) where
  abbrev range : ℕ → BlockRange
  range = range_of starts m

  -- the last block ends with the statements, each other where the next begins
  range_last : (b : ℕ) → suc b ≡ length starts → (range b).first + (range b).count ≡ m
  unfolding range_of
  range_last b e =
      let past : get_or starts (suc b) m ≡ m = get_or-eq_default starts m (omega arith) in
      let low = v.within b (omega arith) in
      subst (λ (k : ℕ). get_or starts b 0 + (k - get_or starts b 0) ≡ m) (sym past) (omega arith)

  range-next : (b : ℕ) → suc b < length starts → (range b).first + (range b).count ≡ (range (suc b)).first
  unfolding range_of
  range-next b n =
      let same = in_range starts (suc b) m 0 n in
      let low = v.ascend b n in
      subst (λ (k : ℕ). get_or starts b 0 + (k - get_or starts b 0) ≡ get_or starts (suc b) 0) (sym same) (omega arith)

  first_is : (b : ℕ) → (range b).first ≡ get_or starts b 0
  unfolding range_of
  first_is b = refl

  -- the statements of a block are the function's
  pub range_within : (b : ℕ) → b < length starts → (range b).first + (range b).count ≤ m
  range_within b l =
      ⊎_elim
      (λ e. omega (arith, range_last b e))
      (λ n. omega (arith, range-next b n, first_is (suc b), v.within (suc b) n))
      (eq-or-lt_of_le l)

  -- and they come before those of a later block
  starts-before : (k a : ℕ) → suc (a + k) < length starts → get_or starts (suc a) 0 ≤ get_or starts (suc (a + k)) 0
  starts-before zero a l = rw add-zero (le_refl (get_or starts (suc a) 0))
  starts-before (suc k) a l =
      let before = starts-before k a (omega arith) in
      let step = v.ascend (suc (a + k)) (omega arith) in
      let same : suc (a + suc k) ≡ suc (suc (a + k)) = omega arith in
      rw same (le_trans before step)

  pub ranges_apart : (a b : ℕ) → a < b → b < length starts → (range a).first + (range a).count ≤ (range b).first
  ranges_apart a b l h =
      let here : suc (a + (b - suc a)) ≡ b = omega arith in
      let far : get_or starts (suc a) 0 ≤ get_or starts b 0 = subst (λ (k : ℕ). get_or starts (suc a) 0 ≤ get_or starts k 0) here (starts-before (b - suc a) a (omega arith)) in
      omega (arith, range-next a (omega arith), first_is (suc a), first_is b)

  -- each statement stands in a block: in the last one that does not begin after it
  blocks_tab : (s b : ℕ) → b < length starts → (range b).first ≤ s → s < (range b).first + (range b).count → InBlock (tab (length starts) range) s
  blocks_tab s b l low high =
      record {
        block = b;
        there = rw length-tab l;
        from = λ d. rw (get_d_tab (length starts) range b d l) low;
        to = λ d. rw (get_d_tab (length starts) range b d l) high;
      }

  from_on : (s : ℕ) → s < m → (k b : ℕ) → b + suc k ≡ length starts → get_or starts b 0 ≤ s → InBlock (tab (length starts) range) s
  from_on s h zero b e low =
      blocks_tab s b (omega arith) (omega (arith, first_is b)) (omega (arith, range_last b (omega arith)))
  from_on s h (suc k) b e low =
      elim (dec_lt s (get_or starts (suc b) 0)) [
        | yes l ↦ blocks_tab s b (omega arith) (omega (arith, first_is b)) (omega (arith, range-next b (omega arith), first_is (suc b)))
        | no n ↦ from_on s h k (suc b) (omega arith) (omega arith)
      ]

  pub in_one : (s : ℕ) → s < m → InBlock (tab (length starts) range) s
  in_one s h = let some_one = v.some_block (omega arith) in from_on s h (length starts - 1) 0 (omega arith) (omega (arith, v.first))

-- one block more
first_more : (starts : List ℕ) (m : ℕ) → Starts starts m → get_or (starts ++ (m ∷ [])) 0 0 ≡ 0
first_more [] m v =
    elim (dec_lt 0 m) [
      | yes l ↦ absurd (omega (arith, v.some_block l))
      | no n ↦ omega arith
    ]
first_more (x ∷ starts) m v = v.first

pub more_starts : (starts : List ℕ) (m : ℕ) → Starts starts m → Starts (starts ++ (m ∷ [])) m
more_starts starts m v =
    record {
      within = λ b l. all_more (λ i x. x ≤ m) starts m (λ i d k. subst (λ (x : ℕ). x ≤ m) (in_range starts i 0 d k) (v.within i k)) (le_refl m) b 0 l;
      ascend = λ b l.
          let k : suc b ≤ length starts = le_of_suc-le-suc (rw length-one_more at l) in
          let here : get_or (starts ++ (m ∷ [])) b 0 ≡ get_or starts b 0 = get_or-append starts (m ∷ []) 0 b k in
          ⊎_elim
          (λ e.
          subst (λ (x : ℕ). x ≤ get_or (starts ++ (m ∷ [])) (suc b) 0) (sym here)
          (at_last (λ i x. get_or starts b 0 ≤ x) starts m 0 (suc b) e (v.within b k)))
          (λ n.
          let there : get_or (starts ++ (m ∷ [])) (suc b) 0 ≡ get_or starts (suc b) 0 = get_or-append starts (m ∷ []) 0 (suc b) n in
          let h = v.ascend b n in
          rw (here, there) h)
          (eq-or-lt_of_le k);
      first = first_more starts m v;
      some_block = λ l. omega (arith, length-one_more starts m);
    }

-- more statements, where there is a block
pub starts-further : {starts : List ℕ} {m n : ℕ} → m ≤ n → 0 < length starts → Starts starts m → Starts starts n
starts-further l s v =
    record { within = λ b k. le_trans (v.within b k) l; ascend = v.ascend; first = v.first; some_block = λ k. s }
