-- The part of a buffer that a function's marks take, lent and written whole; and the report, which is written part by part.
use mathlib.Core.Path.{◌≡◌, sym, ap, ◌∙◌}
use mathlib.Core.Bool.{Bool, true, false, cond}
use mathlib.Core.List.{List, ◌++◌}
use Prim.Native.Nat.{ℕ, zero, suc, ◌+◌, ◌-◌, ◌<◌, ◌≤◌}
use native.Mathlib.Numerals.{add-one}
use native.Mathlib.Omega.{arith}
use lib.Dec.{eqb}
use lib.ListN.{length, take, drop, replicate, length-replicate, length-append}
use borrow.Author.Tests.{eq-eqb, ne_eqb}
use Rattle.field.specs.Limits.{min_report}
use Rattle.walk.specs.Marks.{write_marks, add_marks}
use Rattle.marks.specs.Places.{slice, start_in, size_in, Inside, AllInside}
use Rattle.marks.specs.declared.totals.MarkTotals.{MarkTotals}
use Rattle.marks.specs.Report.{has_total, part_in, report_in}
use Rattle.marks.proofs.Write.{write_long, write_lent, write_append, slice-long, add-long}

module _ (xs : List ℕ) (starts : List ℕ) (f top from to : ℕ) (i : Inside starts f top) (room : top ≤ length xs) (a : from ≡ start_in starts f) (b : to ≡ start_in starts (f + 1)) where
  size : to - from ≡ size_in starts f
  size = let h = i.ascends in omega arith

  end : from + (to - from) ≤ length xs
  end =
      let h = i.ascends in
      let w = i.within in
      omega arith

  pub lent_long : length (take (to - from) (drop from xs)) ≡ size_in starts f
  lent_long = slice-long xs from (to - from) end ∙ size

  lent_is : take (to - from) (drop from xs) ≡ slice xs (start_in starts f) (size_in starts f)
  lent_is = ap (λ (n : ℕ). take n (drop from xs)) size ∙ ap (λ (n : ℕ). slice xs n (size_in starts f)) a

  pub lent_written : (ys zs : List ℕ) → ys ≡ zs → length zs ≡ size_in starts f → take from xs ++ (ys ++ drop (to - from) (drop from xs)) ≡ write_marks xs (start_in starts f) zs
  lent_written ys zs e l =
      write_lent xs from (to - from) ys (ap length e ∙ l ∙ sym size) end
      ∙ rw (e, a)

  pub lent_cleared : (ys : List ℕ) → ys ≡ replicate (length (take (to - from) (drop from xs))) 0 → take from xs ++ (ys ++ drop (to - from) (drop from xs)) ≡ write_marks xs (start_in starts f) (replicate (size_in starts f) 0)
  lent_cleared ys e =
      lent_written ys (replicate (size_in starts f) 0)
      (e ∙ ap (λ (n : ℕ). replicate n 0) lent_long)
      (length-replicate (size_in starts f) 0)

-- marks of the open functions into the totals
module _ (kept marks : List ℕ) (starts : List ℕ) (f from to : ℕ) (i : Inside starts f min_report) (room : min_report ≤ length kept) (there : min_report ≤ length marks) (a : from ≡ start_in starts f)
    (b : to ≡ start_in starts (f + 1)) where
  own_long : length (slice marks (start_in starts f) (size_in starts f)) ≡ size_in starts f
  own_long =
      let h = i.ascends in
      let w = i.within in
      slice-long marks (start_in starts f) (size_in starts f) (omega arith)

  own_is : slice marks from (length (take (to - from) (drop from kept))) ≡ slice marks (start_in starts f) (size_in starts f)
  own_is =
      ap (λ (n : ℕ). slice marks from n) (lent_long kept starts f min_report from to i room a b)
      ∙ ap (λ (n : ℕ). slice marks n (size_in starts f)) a

  pub lent_kept : (ys : List ℕ) → ys ≡ slice marks from (length (take (to - from) (drop from kept))) → take from kept ++ (ys ++ drop (to - from) (drop from kept)) ≡ write_marks kept (start_in starts f) (slice marks (start_in starts f) (size_in starts f))
  lent_kept ys e = lent_written kept starts f min_report from to i room a b ys (slice marks (start_in starts f) (size_in starts f)) (e ∙ own_is) own_long

  pub lent_added : (ys : List ℕ) → ys ≡ add_marks (take (to - from) (drop from kept)) (slice marks from (length (take (to - from) (drop from kept)))) → take from kept ++ (ys ++ drop (to - from) (drop from kept)) ≡ write_marks kept (start_in starts f) (add_marks (slice kept (start_in starts f) (size_in starts f)) (slice marks (start_in starts f) (size_in starts f)))
  lent_added ys e =
      let old = lent_is kept starts f min_report from to i room a b in
      let long = ap length (sym old) ∙ lent_long kept starts f min_report from to i room a b in
      lent_written kept starts f min_report from to i room a b
      ys (add_marks (slice kept (start_in starts f) (size_in starts f)) (slice marks (start_in starts f) (size_in starts f)))
      (e ∙ ap (λ (m : List ℕ). add_marks (take (to - from) (drop from kept)) m) own_is
      ∙ ap (λ (t : List ℕ). add_marks t (slice marks (start_in starts f) (size_in starts f))) old)
      (add-long (slice kept (start_in starts f) (size_in starts f)) (slice marks (start_in starts f) (size_in starts f)) (long ∙ sym own_long) ∙ long)

-- a part of the report
module _ (starts : List ℕ) (marks : List ℕ) (totals : MarkTotals) (asked f : ℕ) where
  pub part_long : Inside starts f min_report → min_report ≤ length marks → min_report ≤ length totals.marks → length (part_in starts marks totals asked f) ≡ size_in starts f
  unfolding part_in
  part_long i open_long kept_long = go (eqb f asked) (has_total totals f)
    where
      go : (b d : Bool) → length (cond b (slice marks (start_in starts f) (size_in starts f)) (cond d (slice totals.marks (start_in starts f) (size_in starts f)) (replicate (size_in starts f) 0))) ≡ size_in starts f
      go true d =
          let h = i.ascends in
          let w = i.within in
          slice-long marks (start_in starts f) (size_in starts f) (omega arith)
      go false true =
          let h = i.ascends in
          let w = i.within in
          slice-long totals.marks (start_in starts f) (size_in starts f) (omega arith)
      go false false = length-replicate (size_in starts f) 0

  module _ (ys part : List ℕ) (from : ℕ) (l : length part ≡ size_in starts f) (a : from ≡ start_in starts f) where
    pub part_asked : f ≡ asked → ys ≡ slice marks from (length part) → ys ≡ part_in starts marks totals asked f
    unfolding part_in
    part_asked e h = h ∙ rw (eq-eqb f asked e, l, a)

    pub part_none : (f ≡ asked → ⊥) → has_total totals f ≡ false → ys ≡ replicate (length part) 0 → ys ≡ part_in starts marks totals asked f
    unfolding part_in
    part_none n z h = h ∙ rw (ne_eqb f asked n, z, l)

    pub part-total : (f ≡ asked → ⊥) → has_total totals f ≡ true → ys ≡ slice totals.marks from (length part) → ys ≡ part_in starts marks totals asked f
    unfolding part_in
    part-total n z h = h ∙ rw (ne_eqb f asked n, z, l, a)

-- the report, one part more
module _ (starts : List ℕ) (marks : List ℕ) (totals : MarkTotals) (asked n : ℕ) (all : AllInside starts n min_report) (open_long : min_report ≤ length marks) (kept_long : min_report ≤ length totals.marks) where
  pub report_long : (f : ℕ) → f ≤ n → length (report_in starts marks totals asked f) ≡ start_in starts f
  unfolding report_in
  report_long zero h = sym all.first
  report_long (suc f) h =
      let i = all.each f (omega arith) in
      let u = i.ascends in
      let z : suc f ≡ f + 1 = omega arith in
      length-append (report_in starts marks totals asked f) (part_in starts marks totals asked f)
      ∙ rw (report_long f (omega arith), part_long starts marks totals asked f i open_long kept_long, z) (omega arith)

  pub report-turn : (report₀ report ys : List ℕ) (f from to : ℕ) → f < n → min_report ≤ length report₀ → report ≡ write_marks report₀ 0 (report_in starts marks totals asked f) → from ≡ start_in starts f → to ≡ start_in starts (f + 1) → ys ≡ part_in starts marks totals asked f → take from report ++ (ys ++ drop (to - from) (drop from report)) ≡ write_marks report₀ 0 (report_in starts marks totals asked (f + 1))
  unfolding report_in
  report-turn report₀ report ys f from to h fits is a b e =
      let i = all.each f h in
      let long = ap length is ∙ write_long report₀ 0 (report_in starts marks totals asked f) in
      let z : 0 + length (report_in starts marks totals asked f) ≡ start_in starts f = omega (arith, report_long f (omega arith)) in
      lent_written report starts f min_report from to i (omega arith) a b ys (part_in starts marks totals asked f) e (part_long starts marks totals asked f i open_long kept_long)
      ∙ rw (add-one f, is, ← z) (sym (write_append report₀ 0 (report_in starts marks totals asked f) (part_in starts marks totals asked f)))
