-- The sizes of a sum, case by case as `add` has it: those of one entry before the sum of the rest.
use Prim.Native.Nat.{ℕ, ◌+◌, ◌<◌, ◌≤◌}
use native.Mathlib.Omega.{arith}
use mathlib.Core.Path.{◌≡◌, refl}
use mathlib.Core.Bool.{Bool}
use mathlib.Core.List.{List}
use Rattle.part.specs.PartReq.{add}
use Rattle.part.specs.StoreLimits.{store_words, entries_cap}
use Rattle.part.specs.Store.{top, part, Good, Measures, SizesOf, Seen}
use Rattle.part.proofs.Sum.{add-idempotent}
use Rattle.part.proofs.Sizes.{sum_small}
use Rattle.part.proofs.Pieces.{part-low_sizes}
use Rattle.part.proofs.Measures.{Small, small}
use Rattle.part.proofs.Making.{sum_lt, sum_gt, sum_eq}

abbrev Asked : List ℕ → ℕ → ℕ → Type 0
Asked s a b = Good s × ((a < top s) × (b < top s))

abbrev Sizes : List ℕ → (a b e d w : ℕ) → Bool → Type 0
Sizes s a b e d w o = Measures (add (part s a) (part s b)) e d w o

-- what `sizes_of` asks of those of a child and of a rest
abbrev Fit : (pe re pd rv : ℕ) → Type 0
Fit pe re pd rv = ((pe ≤ entries_cap) × (re ≤ entries_cap)) × ((pd ≤ store_words) × (rv ≤ store_words))

-- the sizes of a sum are as small as those of its pieces let them be
sum_fits : {s : List ℕ} {a b e d w : ℕ} {o : Bool} → Asked s a b → Sizes s a b e d w o → Small e d w
sum_fits {s} {a} {b} P m =
    let l = part-low_sizes s a in
    let k = part-low_sizes s b in
    let n = sum_small (part s a) (part s b) in
    let g : top s + top s ≤ store_words = omega (arith, P.0.base, P.0.room, P.0.fits) in
    let shallow = n.shallow in
    let narrow = n.narrow in
    record {
      entries_small = omega (arith, m.entries_is);
      depth_small = omega (arith, m.depth_is);
      width_small = omega (arith, m.width_is);
    }

module _ {s : List ℕ} {a b : ℕ} (P : Asked s a b) where
  pub sizes_same : {e d w : ℕ} {o : Bool} → a ≡ b → Measures (part s a) e d w o → Sizes s a b e d w o
  sizes_same q m = rw (← q, add-idempotent (part s a)) m

  module _ {i j c d q r : ℕ} (x : Seen s a i c q) (y : Seen s b j d r) where
    pub asks_child : Good s × (c < top s)
    asks_child = (P.0, omega arith)

    pub asks_lt : {t : ℕ} → a + b ≡ t → (q + b < t) × Asked s q b
    asks_lt e = (omega arith, (P.0, (omega arith, omega arith)))

    pub asks_gt_child : Good s × (d < top s)
    asks_gt_child = (P.0, omega arith)

    pub asks_gt : {t : ℕ} → a + b ≡ t → (a + r < t) × Asked s a r
    asks_gt e = (omega arith, (P.0, (omega arith, omega arith)))

    pub asks_eq_child : {t : ℕ} → a + b ≡ t → (c + d < t) × Asked s c d
    asks_eq_child e = (omega arith, (P.0, (omega arith, omega arith)))

    pub asks_eq : {t : ℕ} → a + b ≡ t → (q + r < t) × Asked s q r
    asks_eq e = (omega arith, (P.0, (omega arith, omega arith)))

    module _ {pe pd pw re rd rv : ℕ} {po ro : Bool} where
      pub fit_lt : Measures (part s c) pe pd pw po → Sizes s q b re rd rv ro → Fit pe re pd rv
      fit_lt m n =
          let k = small P.0 asks_child.1 m in
          let l = sum_fits (asks_lt refl).1 n in
          ((k.entries_small, l.entries_small), (k.depth_small, l.width_small))

      pub fit_gt : Measures (part s d) pe pd pw po → Sizes s a r re rd rv ro → Fit pe re pd rv
      fit_gt m n =
          let k = small P.0 asks_gt_child.1 m in
          let l = sum_fits (asks_gt refl).1 n in
          ((k.entries_small, l.entries_small), (k.depth_small, l.width_small))

      pub fit_eq : Sizes s c d pe pd pw po → Sizes s q r re rd rv ro → Fit pe re pd rv
      fit_eq m n =
          let k = sum_fits (asks_eq_child refl).1 m in
          let l = sum_fits (asks_eq refl).1 n in
          ((k.entries_small, l.entries_small), (k.depth_small, l.width_small))

      module _ {e f w : ℕ} {o : Bool} where
        pub sizes_lt : i < j → Measures (part s c) pe pd pw po → Sizes s q b re rd rv ro → SizesOf i pe pd pw po re rd rv ro e f w o → Sizes s a b e f w o
        sizes_lt h m n z = rw (sum_lt x y h) (z.is _ _ m n)

        pub sizes_gt : j < i → Measures (part s d) pe pd pw po → Sizes s a r re rd rv ro → SizesOf j pe pd pw po re rd rv ro e f w o → Sizes s a b e f w o
        sizes_gt h m n z = rw (sum_gt x y h) (z.is _ _ m n)

        pub sizes_eq : j ≤ i → i ≤ j → Sizes s c d pe pd pw po → Sizes s q r re rd rv ro → SizesOf i pe pd pw po re rd rv ro e f w o → Sizes s a b e f w o
        sizes_eq h g m n z = rw (sum_eq x y h g) (z.is _ _ m n)
