-- What the loops over a lent part have written after k turns, for one turn more and at the end; and the marks of an emit in the same way.
use mathlib.Core.Path.{◌≡◌, refl, sym, ap, ◌∙◌}
use mathlib.Core.Bool.{Bool, true, false, not, ◌||◌}
use mathlib.Core.List.{List, [], ◌∷◌, ◌++◌}
use Prim.Native.Nat.{ℕ, zero, suc, ◌+◌, ◌<◌, ◌≤◌}
use native.Mathlib.Numerals.{add-one}
use native.Mathlib.Omega.{arith}
use mir.Val.{bool_byte}
use lib.Dec.{eqb}
use lib.ListN.{length, get_or, take, set}
use lib.Seq.{take-suc, take-length, length-take-le}
use Rattle.module.specs.Decode.{tab}
use Rattle.module.proofs.Tab.{length-tab}
use Rattle.walk.specs.StatementReq.{any, mark, marks_of}
use Rattle.walk.specs.Marks.{write_marks, add_mark, add_marks}
use Rattle.marks.specs.Places.{slice, recorded_in}
use Rattle.marks.proofs.Write.{write_long, write_all, write_one, write_after, write_more, slice-long, slice-more, add_more, add-long}

pub still_long : (xs ys part : List ℕ) (at : ℕ) → part ≡ write_marks xs at ys → length part ≡ length xs
still_long xs ys part at h = ap length h ∙ write_long xs at ys

-- after the last turn
pub all_written : (xs ys part : List ℕ) → part ≡ write_marks xs 0 ys → length ys ≡ length xs → part ≡ ys
all_written xs ys part h l = h ∙ write_all xs ys l

turn : (xs ys part : List ℕ) (k b : ℕ) → part ≡ write_marks xs 0 ys → length ys ≡ k → set part k b ≡ write_marks xs 0 (ys ++ (b ∷ []))
turn xs ys part k b h l = let z : 0 + k ≡ k = omega arith in rw h (rw z at (write_more xs 0 k ys b l))

module _ (xs marks part : List ℕ) (at k : ℕ) (fits : at + length xs ≤ length marks) where
  pub copy_turn : k < length xs → part ≡ write_marks xs 0 (slice marks at k) → set part k (get_or marks (at + k) 0) ≡ write_marks xs 0 (slice marks at (k + 1))
  copy_turn l h =
      let i : at + k < length marks = omega arith in
      rw (slice-more marks at k i) (turn xs (slice marks at k) part k (get_or marks (at + k) 0) h (slice-long marks at k (omega arith)))

  pub copy_done : k ≡ length xs → part ≡ write_marks xs 0 (slice marks at k) → part ≡ slice marks at (length xs)
  copy_done e h = rw (← e) (all_written xs (slice marks at k) part h (slice-long marks at k (omega arith) ∙ e))

  same : k ≤ length xs → length (take k xs) ≡ length (slice marks at k)
  same l = length-take-le k xs l ∙ sym (slice-long marks at k (omega arith))

  added_long : k ≤ length xs → length (add_marks (take k xs) (slice marks at k)) ≡ k
  added_long l = add-long (take k xs) (slice marks at k) (same l) ∙ length-take-le k xs l

  pub add_turn : (b : ℕ) → k < length xs → part ≡ write_marks xs 0 (add_marks (take k xs) (slice marks at k)) → b ≡ add_mark (get_or part k 0) (get_or marks (at + k) 0) → set part k b ≡ write_marks xs 0 (add_marks (take (k + 1) xs) (slice marks at (k + 1)))
  add_turn b l h e =
      let i : at + k < length marks = omega arith in
      let j : k ≤ length xs = omega arith in
      let old : get_or part k 0 ≡ get_or xs k 0 =
      ap (λ (p : List ℕ). get_or p k 0) h ∙ write_after xs 0 (add_marks (take k xs) (slice marks at k)) k (omega (arith, added_long j)) in
      rw (slice-more marks at k i, add-one k, take-suc xs k 0 l, add_more (take k xs) (slice marks at k) (get_or xs k 0) (get_or marks (at + k) 0) (same j), ← old, ← e)
      (turn xs (add_marks (take k xs) (slice marks at k)) part k b h (added_long j))

  pub add_done : k ≡ length xs → part ≡ write_marks xs 0 (add_marks (take k xs) (slice marks at k)) → part ≡ add_marks xs (slice marks at (length xs))
  add_done e h =
      let all : take k xs ≡ xs = ap (λ (n : ℕ). take n xs) e ∙ take-length xs in
      all_written xs (add_marks (take k xs) (slice marks at k)) part h (added_long (omega arith) ∙ e)
      ∙ ap (λ (ys : List ℕ). add_marks ys (slice marks at k)) all
      ∙ ap (λ (n : ℕ). add_marks xs (slice marks at n)) e

-- a mark as a byte
pub mark-byte : (b : Bool) → bool_byte b ≡ mark b
unfolding mark
mark-byte true = refl
mark-byte false = refl

-- the marks of an emit
marks_append : (bs : List Bool) (b : Bool) → marks_of (bs ++ (b ∷ [])) ≡ marks_of bs ++ (mark b ∷ [])
unfolding marks_of
marks_append [] b = refl
marks_append (x ∷ bs) b = ap (λ (r : List ℕ). mark x ∷ r) (marks_append bs b)

marks_long : (bs : List Bool) → length (marks_of bs) ≡ length bs
unfolding marks_of
marks_long [] = refl
marks_long (b ∷ bs) = ap suc (marks_long bs)

or_end : (a b : Bool) → (b || false) ≡ b
or_end a true = refl
or_end a false = refl

or_assoc : (a b c : Bool) → (a || (b || c)) ≡ ((a || b) || c)
or_assoc true b c = refl
or_assoc false b c = refl

any_append : (bs : List Bool) (b : Bool) → any (bs ++ (b ∷ [])) ≡ (any bs || b)
unfolding any
any_append [] b = or_end b b
any_append (x ∷ bs) b = ap (λ (r : Bool). x || r) (any_append bs b) ∙ or_assoc x (any bs) b

recorded_more : (slots : List ℕ) (from k : ℕ) → recorded_in slots from (k + 1) ≡ recorded_in slots from k ++ (not (eqb (get_or slots (from + k) 0) 2) ∷ [])
unfolding recorded_in tab
recorded_more slots from k = rw (add-one k)

recorded_long : (slots : List ℕ) (from k : ℕ) → length (recorded_in slots from k) ≡ k
unfolding recorded_in
recorded_long slots from k = length-tab k _

pub emit_long : (slots : List ℕ) (from n : ℕ) → length (marks_of (recorded_in slots from n)) ≡ n
emit_long slots from n = marks_long (recorded_in slots from n) ∙ recorded_long slots from n

pub emit_none : (xs slots : List ℕ) (at from : ℕ) → (xs ≡ write_marks xs at (marks_of (recorded_in slots from 0))) × (false ≡ any (recorded_in slots from 0))
unfolding recorded_in tab marks_of any write_marks
emit_none xs slots at from = (refl, refl)

module _ (xs slots : List ℕ) (at from k : ℕ) where
  pub emit_turn : (part left : List ℕ) (b : Bool) → b ≡ not (eqb (get_or slots (from + k) 0) 2) → part ≡ write_marks xs at (marks_of (recorded_in slots from k)) → left ≡ write_marks part (at + k) (mark b ∷ []) → left ≡ write_marks xs at (marks_of (recorded_in slots from (k + 1)))
  emit_turn part left b e h l =
      l ∙ sym (write_one part (at + k) (mark b))
      ∙ rw (h, recorded_more slots from k, ← e, marks_append (recorded_in slots from k) b)
      (write_more xs at k (marks_of (recorded_in slots from k)) (mark b) (emit_long slots from k))

  pub any-turn : (a b r : Bool) → b ≡ not (eqb (get_or slots (from + k) 0) 2) → a ≡ any (recorded_in slots from k) → r ≡ (a || b) → r ≡ any (recorded_in slots from (k + 1))
  any-turn a b r e h l =
      l ∙ rw (recorded_more slots from k, ← e, any_append (recorded_in slots from k) b, ← h)

-- a mark that is set stays
pub add_marked : (a b : ℕ) → (a ≡ 0 → ⊥) → add_mark a b ≡ 1
unfolding add_mark
add_marked zero b h = absurd (h refl)
add_marked (suc a) b h = refl
