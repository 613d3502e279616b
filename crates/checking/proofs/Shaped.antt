-- A function's part of a buffer, cut off at the buffer's end, is what the definition takes of it; and whether it has the function's shape, by its length and its bytes.
use Prim.Native.Nat.{ℕ, zero, suc, ◌+◌, ◌-◌, ◌<◌, ◌≤◌, min}
use native.Mathlib.Omega.{arith}
use native.Mathlib.Decide.{dec_lt}
use mathlib.Core.Path.{◌≡◌, refl, sym, ap, ◌∙◌}
use mathlib.Core.Bool.{Bool, true, false, not, ◌&&◌}
use mathlib.Core.List.{List, [], ◌∷◌}
use lib.Dec.{ltb, eqb}
use lib.ListN.{length, drop, length-drop}
use lib.Seq.{drop-nil, take-nil, take_all}
use borrow.Author.Tests.{lt-ltb, le-ltb, eq-eqb}
use Rattle.std.specs.Prelude.{Result, Ok, Err, is_ok}
use Rattle.std.specs.List.{list_all}
use Rattle.std.specs.declared.ops.Range.{Range}
use Rattle.module.specs.Tables.{function_of, module_of}
use Rattle.valid.specs.There.{There}
use Rattle.walk.specs.Marks.{stretch}
use Rattle.marks.specs.Places.{slice, start_of}
use Rattle.marks.proofs.Write.{slice-long}
use Rattle.clearance.specs.Judged.{every}
use Rattle.clearance.specs.Verdict.{has_shape}
use Rattle.checking.specs.Check.{cut_short}
use Rattle.checking.specs.Stretch.{marks_in, found_at, MarksFound}
use Rattle.checking.proofs.Counting.{stretch-is}

none_left : (xs : List ℕ) (n : ℕ) → length xs ≤ n → drop n xs ≡ []
none_left [] n l = drop-nil n
none_left (x ∷ xs) zero l = absurd (omega arith)
none_left (x ∷ xs) (suc n) l = none_left xs n (omega arith)

-- Bytes

abbrev bits : List ℕ → Bool
bits = every (λ b. ltb b 2)

-- the code's test of all bytes is the definition's
pub bits_is : (xs : List ℕ) → list_all (λ b. ltb b 2) xs ≡ bits xs
unfolding every
bits_is [] = refl
bits_is (x ∷ xs) = ap (λ b. ltb x 2 && b) (bits_is xs)

-- The part

module _ (report : List ℕ) (start count from to : ℕ) (a : from ≡ min start (length report)) (b : to ≡ min (start + count) (length report)) where
  -- the buffer ends before the stretch begins
  outside : length report < start → slice report from (to - from) ≡ slice report start count
  outside l =
      let z : to - from ≡ 0 = omega arith in
      rw (z, none_left report start (omega arith), take-nil {A = ℕ} count)

  -- it ends in the stretch
  cut : start ≤ length report → length report < start + count → slice report from (to - from) ≡ slice report start count
  cut l k =
      let y : from ≡ start = omega arith in
      let z : to - start ≡ length report - start = omega arith in
      let w = length-drop start report in
      rw (y, z) (take_all (length report - start) (drop start report) (omega arith) ∙ sym (take_all count (drop start report) (omega arith)))

  within : start + count ≤ length report → slice report from (to - from) ≡ slice report start count
  within l =
      let y : from ≡ start = omega arith in
      let z : to - start ≡ count = omega arith in
      rw (y, z)

  part_is : slice report from (to - from) ≡ slice report start count
  part_is =
      elim (dec_lt (length report) start) [
        | yes l ↦ outside l
        | no l ↦
            elim (dec_lt (length report) (start + count)) [
              | yes k ↦ cut (omega arith) k
              | no k ↦ within (omega arith)
            ]
      ]

  part_long : length (slice report from (to - from)) ≡ to - from
  part_long = slice-long report from (to - from) (omega arith)

module _ {bytes t : List ℕ} {f : ℕ} (h : There bytes t f) (report : List ℕ) {start count from to : ℕ} (s : start ≡ start_of (module_of bytes t) f) (n : count ≡ stretch (module_of bytes t) f)
    (a : from ≡ min start (length report)) (b : to ≡ min (start + count) (length report)) where
  own : slice report from (to - from) ≡ marks_in bytes t f report
  own = part_is report start count from to a b ∙ rw (s, n)

  shape_is : has_shape (function_of bytes t f) (marks_in bytes t f report) ≡ eqb (to - from) count && bits (slice report from (to - from))
  unfolding has_shape
  shape_is = rw (← own, part_long report start count from to a b, ← stretch-is h, ← n)

  not_cut : start + count ≤ length report → cut_short (module_of bytes t) f report ≡ false
  unfolding cut_short
  not_cut d = rw (← s, ← n, le-ltb (length report) (start + count) d)

  shaped : (r : Bool) → start + count ≤ length report → r ≡ bits (slice report from (to - from)) → r ≡ not (cut_short (module_of bytes t) f report) && has_shape (function_of bytes t f) (marks_in bytes t f report)
  shaped r d e =
      let z : to - from ≡ count = omega arith in
      e ∙ sym (shape_is ∙ rw (eq-eqb (to - from) count z)) ∙ sym (ap (λ (q : Bool). not q && has_shape (function_of bytes t f) (marks_in bytes t f report)) (not_cut d))

  abbrev place : Range ℕ
  place = record { start = from; end = to }

  found : (r : Result (Range ℕ) (Range ℕ)) → found_at r ≡ place → is_ok r ≡ not (cut_short (module_of bytes t) f report) && has_shape (function_of bytes t f) (marks_in bytes t f report) → MarksFound bytes t f report r
  found r w e = record {
    ascends = rw w (omega arith);
    inside = rw w (omega arith);
    is = rw w own;
    fits = e;
    from_is = λ l. rw w (omega arith);
    to_is = λ l. rw w (omega arith);
  }

  pub found_short : length report < start + count → MarksFound bytes t f report (Err place)
  unfolding cut_short
  found_short d = found (Err place) refl (rw (← s, ← n, lt-ltb (length report) (start + count) d))

  pub found_whole : start + count ≤ length report → true ≡ bits (slice report from (to - from)) → MarksFound bytes t f report (Ok place)
  found_whole d e = found (Ok place) refl (shaped true d e)

  pub found_other : start + count ≤ length report → false ≡ bits (slice report from (to - from)) → MarksFound bytes t f report (Err place)
  found_other d e = found (Err place) refl (shaped false d e)
