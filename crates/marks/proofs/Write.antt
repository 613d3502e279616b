-- Marks written into a buffer, and what a stretch of it has then: written inside the stretch or outside of it, each by recursion over what is written.
use mathlib.Core.Path.{◌≡◌, refl, sym, ap, ◌∙◌}
use mathlib.Core.List.{List, [], ◌∷◌, ◌++◌, append_assoc, append-nil}
use Prim.Native.Nat.{ℕ, suc, ◌+◌, ◌-◌, ◌<◌, ◌≤◌}
use native.Mathlib.Numerals.{add-one}
use native.Mathlib.Omega.{arith}
use lib.ListN.{length, get_or, take, drop, set, length-drop, drop_of_length-le}
use lib.Seq.{sets, length-sets, sets-eq, take-set-le, take-set-lt, drop-set-lt, drop-set-add, take-suc, get_or-drop, drop-drop, length-take-le, get_or-set_other}
use Rattle.std.proofs.lemmas.List.{get_or-take}
use Rattle.walk.specs.Marks.{write_marks, add_mark, add_marks}
use Rattle.marks.specs.Places.{slice}

write_is : (xs : List ℕ) (at : ℕ) (ys : List ℕ) → write_marks xs at ys ≡ sets xs at ys
unfolding write_marks
write_is xs at [] = refl
write_is xs at (y ∷ ys) = write_is (set xs at y) (suc at) ys

pub write_long : (xs : List ℕ) (at : ℕ) (ys : List ℕ) → length (write_marks xs at ys) ≡ length xs
write_long xs at ys = ap length (write_is xs at ys) ∙ length-sets xs at ys

-- the buffer outside of what is written stays
pub write_cut : (xs : List ℕ) (at : ℕ) (ys : List ℕ) → at + length ys ≤ length xs → write_marks xs at ys ≡ take at xs ++ ys ++ drop (at + length ys) xs
write_cut xs at ys h = write_is xs at ys ∙ sets-eq ys xs at h

-- a lent part, written whole
pub write_lent : (xs : List ℕ) (at k : ℕ) (ys : List ℕ) → length ys ≡ k → at + k ≤ length xs → take at xs ++ (ys ++ drop k (drop at xs)) ≡ write_marks xs at ys
write_lent xs at k ys e h =
    sym
    (write_cut xs at ys (omega arith)
    ∙ rw (e, append_assoc (take at xs) ys (drop (at + k) xs), drop-drop k at xs))

pub write_all : (xs ys : List ℕ) → length ys ≡ length xs → write_marks xs 0 ys ≡ ys
write_all xs ys e =
    let z : length xs ≤ 0 + length ys = omega arith in
    write_cut xs 0 ys (omega arith) ∙ rw (drop_of_length-le xs z, append-nil ys)

pub write_none : (xs : List ℕ) (at : ℕ) → xs ≡ write_marks xs at []
unfolding write_marks
write_none xs at = refl

pub write_one : (xs : List ℕ) (at b : ℕ) → set xs at b ≡ write_marks xs at (b ∷ [])
unfolding write_marks
write_one xs at b = refl

pub write_append : (xs : List ℕ) (at : ℕ) (ys zs : List ℕ) → write_marks xs at (ys ++ zs) ≡ write_marks (write_marks xs at ys) (at + length ys) zs
unfolding write_marks
write_append xs at [] zs = let z : at + 0 ≡ at = omega arith in rw z
write_append xs at (y ∷ ys) zs =
    let z : at + suc (length ys) ≡ suc at + length ys = omega arith in
    rw z (write_append (set xs at y) (suc at) ys zs)

-- one more: a turn of a loop that writes
pub write_more : (xs : List ℕ) (at k : ℕ) (ys : List ℕ) (b : ℕ) → length ys ≡ k → set (write_marks xs at ys) (at + k) b ≡ write_marks xs at (ys ++ (b ∷ []))
write_more xs at k ys b e =
    sym (write_append xs at ys (b ∷ []) ∙ rw e (sym (write_one (write_marks xs at ys) (at + k) b)))

-- what stands before, and what a stretch has
pub write_before : (xs : List ℕ) (at : ℕ) (ys : List ℕ) (k : ℕ) → k < at → get_or (write_marks xs at ys) k 0 ≡ get_or xs k 0
unfolding write_marks
write_before xs at [] k h = refl
write_before xs at (y ∷ ys) k h =
    let ne : k ≡ at → ⊥ = omega arith in
    write_before (set xs at y) (suc at) ys k (omega arith) ∙ get_or-set_other xs at k y 0 ne

pub write_after : (xs : List ℕ) (at : ℕ) (ys : List ℕ) (k : ℕ) → at + length ys ≤ k → get_or (write_marks xs at ys) k 0 ≡ get_or xs k 0
unfolding write_marks
write_after xs at [] k h = refl
write_after xs at (y ∷ ys) k h =
    let ne : k ≡ at → ⊥ = omega arith in
    write_after (set xs at y) (suc at) ys k (omega arith) ∙ get_or-set_other xs at k y 0 ne

slice_set : (xs : List ℕ) (from n i y : ℕ) → i < n → slice (set xs (from + i) y) from n ≡ set (slice xs from n) i y
slice_set xs from n i y h = rw (drop-set-add from xs i y, take-set-lt n (drop from xs) i y h)

pub slice_inside : (xs : List ℕ) (from n i : ℕ) (ys : List ℕ) → i + length ys ≤ n → slice (write_marks xs (from + i) ys) from n ≡ write_marks (slice xs from n) i ys
unfolding write_marks
slice_inside xs from n i [] h = refl
slice_inside xs from n i (y ∷ ys) h =
    let z : suc (from + i) ≡ from + suc i = omega arith in
    let l : i < n = omega arith in
    rw (z, ← slice_set xs from n i y l) (slice_inside (set xs (from + i) y) from n (suc i) ys (omega arith))

pub slice-behind : (xs : List ℕ) (from n at : ℕ) (ys : List ℕ) → at + length ys ≤ from → slice (write_marks xs at ys) from n ≡ slice xs from n
unfolding write_marks
slice-behind xs from n at [] h = refl
slice-behind xs from n at (y ∷ ys) h =
    let l : at < from = omega arith in
    slice-behind (set xs at y) from n (suc at) ys (omega arith) ∙ rw (drop-set-lt from xs at y l)

slice_kept : (xs : List ℕ) (from n i y : ℕ) → n ≤ i → slice (set xs (from + i) y) from n ≡ slice xs from n
slice_kept xs from n i y h = rw (drop-set-add from xs i y, take-set-le n (drop from xs) i y h)

pub slice-before : (xs : List ℕ) (from n i : ℕ) (ys : List ℕ) → n ≤ i → slice (write_marks xs (from + i) ys) from n ≡ slice xs from n
unfolding write_marks
slice-before xs from n i [] h = refl
slice-before xs from n i (y ∷ ys) h =
    let z : suc (from + i) ≡ from + suc i = omega arith in
    rw (z, ← slice_kept xs from n i y h) (slice-before (set xs (from + i) y) from n (suc i) ys (omega arith))

pub slice-long : (xs : List ℕ) (from n : ℕ) → from + n ≤ length xs → length (slice xs from n) ≡ n
slice-long xs from n h = length-take-le n (drop from xs) (omega (arith, length-drop from xs))

-- what a loop over a stretch gives
pub slice_at : (xs : List ℕ) (from n k : ℕ) → k < n → get_or (take (from + n - from) (drop from xs)) k 0 ≡ get_or xs (from + k) 0
slice_at xs from n k h = get_or-take (from + n - from) (drop from xs) k 0 (omega arith) ∙ get_or-drop from xs k 0

-- what was written there
pub slice_written : (xs : List ℕ) (from : ℕ) (ys : List ℕ) → from + length ys ≤ length xs → slice (write_marks xs from ys) from (length ys) ≡ ys
slice_written xs from ys h =
    let z : from + 0 ≡ from = omega arith in
    rw (← ap (λ (k : ℕ). write_marks xs k ys) z, slice_inside xs from (length ys) 0 ys (omega arith))
    (write_all (slice xs from (length ys)) ys (sym (slice-long xs from (length ys) h)))

-- lists that a loop goes through, with one element more
pub slice-more : (xs : List ℕ) (from n : ℕ) → from + n < length xs → slice xs from (n + 1) ≡ slice xs from n ++ (get_or xs (from + n) 0 ∷ [])
slice-more xs from n h =
    rw (add-one n, take-suc (drop from xs) n 0 (omega (arith, length-drop from xs)), get_or-drop from xs n 0)

pub add_more : (xs ys : List ℕ) (a b : ℕ) → length xs ≡ length ys → add_marks (xs ++ (a ∷ [])) (ys ++ (b ∷ [])) ≡ add_marks xs ys ++ (add_mark a b ∷ [])
unfolding add_marks
add_more [] [] a b e = refl
add_more [] (y ∷ ys) a b e = absurd (omega arith)
add_more (x ∷ xs) [] a b e = absurd (omega arith)
add_more (x ∷ xs) (y ∷ ys) a b e = ap (λ (r : List ℕ). add_mark x y ∷ r) (add_more xs ys a b (omega arith))

pub add-long : (xs ys : List ℕ) → length xs ≡ length ys → length (add_marks xs ys) ≡ length xs
unfolding add_marks
add-long [] ys e = refl
add-long (x ∷ xs) [] e = absurd (omega arith)
add-long (x ∷ xs) (y ∷ ys) e = ap suc (add-long xs ys (omega arith))
