-- The cells that a list of needs reaches, by the cells of a store: no more than are in use, since each is a piece of its own (`cells_below`). Where the cells in use
-- were just those that are kept, and a sum found no room, the sum and what is kept reach every cell of the full store (`short_many`).
use Prim.Native.Nat.{ℕ, zero, suc, ◌+◌, ◌<◌, ◌≤◌}
use native.Mathlib.Omega.{arith}
use native.Mathlib.Decide.{dec_lt}
use mathlib.Core.Path.{◌≡◌, refl}
use mathlib.Core.Bool.{Bool, true, false, cond}
use mathlib.Core.List.{List, [], ◌∷◌, ◌++◌, flat_map}
use lib.ListN.{length, get_or}
use Rattle.std.specs.Prelude.{Option}
use Rattle.part.specs.PartReq.{PartReq, all, exist, none, more}
use Rattle.part.specs.Store.{top, part, Good, distinct_in}
use Rattle.part.specs.Count.{same, among, each_once, different}
use Rattle.part.specs.Collect.{cells_in, reached, cells_of}
use Rattle.part.specs.Summed.{Summed}
use Rattle.part.proofs.Pieces.{part-0, part-1, part-2}
use Rattle.part.proofs.Once.{formed, cell_means, same_number}
use Rattle.part.proofs.Counting.{same_is, by_bool, lot, Stands, once_lot}
use Rattle.part.proofs.Distinct.{or_cases, untrue, not_true_false, among-left, among-right, among_cases, Among, once_monotone}
use Rattle.part.proofs.Reached.{here, sub_cells, reached-stored}

-- what is reached is a cell
abbrev is_cell : PartReq → Bool
is_cell all = false
is_cell exist = false
is_cell none = false
is_cell (more i p r) = true

in_cell : (q p : PartReq) → among q (cells_in p) ≡ true → is_cell q ≡ true
in_cell q all e = untrue (unfold cells_in among in e)
in_cell q exist e = untrue (unfold cells_in among in e)
in_cell q none e = untrue (unfold cells_in among in e)
in_cell q (more i p r) e =
    or_cases (is_cell q ≡ true) (same q (more i p r)) (among q (cells_in p ++ cells_in r)) (unfold cells_in among in e)
    (λ y. rw (same_is q (more i p r) y))
    (λ y. among_cases (is_cell q ≡ true) q (cells_in p) (cells_in r) y (in_cell q p) (in_cell q r))

reached-cell : (q : PartReq) (l : List PartReq) → among q (reached l) ≡ true → is_cell q ≡ true
unfolding flat_map
reached-cell q [] e = untrue (unfold among in e)
reached-cell q (p ∷ l) e = among_cases (is_cell q ≡ true) q (cells_in p) (reached l) e (in_cell q p) (reached-cell q l)

low_not : (s : List ℕ) (k : ℕ) → k < 3 → (l : List PartReq) → among (part s k) (reached l) ≡ false
low_not s k h l = not_true_false (among (part s k) (reached l)) (λ e. go k h (reached-cell (part s k) l e))
  where
    go : (k : ℕ) → k < 3 → is_cell (part s k) ≡ true → ⊥
    go zero h e = untrue (rw part-0 at e)
    go (suc zero) h e = untrue (rw part-1 at e)
    go (suc (suc zero)) h e = untrue (rw part-2 at e)
    go (suc (suc (suc k))) h e = absurd (omega arith)

abbrev counts : List ℕ → List PartReq → ℕ → ℕ
counts s l k = lot (λ p. 1) s l k

one_le : (b : Bool) → cond b 1 0 ≤ 1
one_le true = omega arith
one_le false = omega arith

-- no more than are in use
counts-low : (s : List ℕ) (l : List PartReq) (k : ℕ) → k ≤ 3 → counts s (reached l) k ≡ 0
unfolding lot
counts-low s l zero h = refl
counts-low s l (suc k) h = rw (low_not s k (omega arith) l, counts-low s l k (omega arith)) refl

counts-few : (s : List ℕ) (l : List PartReq) (k : ℕ) → 3 ≤ k → 3 + counts s (reached l) k ≤ k
unfolding lot
counts-few s l zero h = absurd (omega arith)
counts-few s l (suc k) h =
    elim (dec_lt k 3) [
      | yes z ↦ let a = counts-low s l (suc k) (omega arith) in omega arith
      | no z ↦ let ih = counts-few s l k (omega arith) in let a = one_le (among (part s k) (reached l)) in omega arith
    ]

pub cells_below : {s : List ℕ} → Good s → (l : List PartReq) → ((j : ℕ) → j < length l → Stands s (get_or l j none)) → 3 + cells_of l ≤ top s
cells_below {s} g l h =
    let a = once_lot g (λ p. 1) (reached l) (reached-stored g l h) in
    let b = counts-few s l (top s) g.base in
    omega arith

-- no more than there are different ones, wherever they stand
unfoldable picked : List ℕ → List PartReq → ℕ → List PartReq
picked s l zero = []
picked s l (suc k) = cond (among (part s k) l) (part s k ∷ picked s l k) (picked s l k)

picked-cases : (C : Type 0) (s : List ℕ) (l : List PartReq) (k : ℕ) (q : PartReq) → among q (picked s l (suc k)) ≡ true
    → (q ≡ part s k → among q l ≡ true → C) → (among q (picked s l k) ≡ true → C) → C
unfolding picked among
picked-cases C s l k q e f g =
    by_bool (λ b. (among (part s k) l ≡ b) → among q (cond b (part s k ∷ picked s l k) (picked s l k)) ≡ true → C) (among (part s k) l)
    (λ y d z. or_cases C (same q (part s k)) (among q (picked s l k)) z (λ x. f (same_is q (part s k) x) (rw (same_is q (part s k) x) y)) g)
    (λ y d z. g z)
    refl e

picked-in : (s : List ℕ) (l : List PartReq) (k : ℕ) → Among (picked s l k) l
picked-in s l zero q e = untrue (unfold picked among in e)
picked-in s l (suc k) q e = picked-cases (among q l ≡ true) s l k q e (λ y z. z) (picked-in s l k q)

module _ {s : List ℕ} (g : Good s) (l : List PartReq) where
  picked-not : (n k : ℕ) → k ≤ n → n < top s → among (part s n) (picked s l k) ≡ true → ⊥
  picked-not n zero h z e = untrue (unfold picked among in e)
  picked-not n (suc k) h z e =
      picked-cases ⊥ s l k (part s n) e
      (λ y x. let d : n ≡ k = same_number (formed g) (distinct_in g.unique) n k z (omega arith) y in omega arith)
      (λ y. picked-not n k (omega arith) z y)

  picked-counts : (k : ℕ) → k ≤ top s → different (picked s l k) ≡ counts s l k
  unfolding picked lot each_once
  picked-counts zero h = refl
  picked-counts (suc k) h =
      let ih = picked-counts k (omega arith) in
      let new = not_true_false (among (part s k) (picked s l k)) (picked-not k k (omega arith) (omega arith)) in
      by_bool (λ b. different (cond b (part s k ∷ picked s l k) (picked s l k)) ≡ counts s l k + cond b 1 0) (among (part s k) l)
      (λ e. rw new (omega arith))
      (λ e. omega arith)

  counts-different : (k : ℕ) → k ≤ top s → counts s l k ≤ different l
  counts-different k h =
      let a = once_monotone (λ p. 1) (picked s l k) l (picked-in s l k) in
      let b = picked-counts k h in
      omega arith

-- in two stores
counts-more : (s t : List ℕ) (l m : List PartReq) (k : ℕ) → ((j : ℕ) → j < k → among (part s j) l ≡ true → among (part t j) m ≡ true) → counts s l k ≤ counts t m k
unfolding lot
counts-more s t l m zero h = omega arith
counts-more s t l m (suc k) h =
    let ih = counts-more s t l m k (λ j z. h j (omega arith)) in
    by_bool (λ b. (among (part s k) l ≡ b) → counts s l k + cond b 1 0 ≤ counts t m k + cond (among (part t k) m) 1 0) (among (part s k) l)
    (λ e d. rw (h k (omega arith) e) (omega arith))
    (λ e d. omega arith)
    refl

-- where each from a on counts
counts_all : (t : List ℕ) (m : List PartReq) (a k : ℕ) → a ≤ k → ((j : ℕ) → a ≤ j → j < k → among (part t j) m ≡ true) → counts t m a + k ≤ counts t m k + a
unfolding lot
counts_all t m a zero z h = let e : a ≡ 0 = omega arith in rw e (omega arith)
counts_all t m a (suc k) z h =
    elim (dec_lt k a) [
      | yes y ↦ let e : a ≡ suc k = omega arith in rw e (omega arith)
      | no y ↦ let ih = counts_all t m a k (omega arith) (λ j x w. h j x (omega arith)) in rw (h k (omega arith) (omega arith)) (omega arith)
    ]

-- from t, in which just the cells that l reaches are in use, a sum found no room: all cells of u are reached
pub short_many : {t u : List ℕ} {p : PartReq} {o : Option ℕ} → Good t → (l : List PartReq) → ((j : ℕ) → j < length l → Stands t (get_or l j none))
    → top t ≡ 3 + cells_of l → Summed t u p o → top u ≤ 3 + cells_of (p ∷ l)
unfolding flat_map
short_many {t} {u} {p} g l h used m =
    let a = once_lot g (λ p. 1) (reached l) (reached-stored g l h) in
    let b = counts-more t u (reached l) (cells_in p ++ reached l) (top t)
    (λ j z e. rw (m.kept.same j z) (among-right (part t j) (cells_in p) (reached l) e)) in
    let c = counts_all u (cells_in p ++ reached l) (top t) (top u) m.kept.tops
    (λ j z y.
    among-left (part u j) (cells_in p) (reached l)
    (sub_cells (part u j) p (m.new j z y) (part u j) (here (cell_means (formed m.kept.good) j (omega (arith, g.base)) y)))) in
    let d = counts-different m.kept.good (cells_in p ++ reached l) (top u) (omega arith) in
    omega arith
