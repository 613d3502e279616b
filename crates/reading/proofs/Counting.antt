-- Counting, block by block: what has been counted so far, and whether all of it is below its holder.
use mathlib.Core.Path.{◌≡◌, refl, sym, ap, ◌∙◌}
use mathlib.Core.Bool.{Bool, true, false, ◌&&◌, and_assoc, and-true}
use mathlib.Core.List.{List, [], ◌∷◌, ◌++◌, append-nil, append_assoc}
use Prim.Native.Nat.{ℕ, zero, suc, ◌+◌, ◌-◌, ◌≤◌}
use native.Mathlib.Omega.{arith}
use native.Mathlib.Decide.{dec_lt}
use lib.Dec.{ltb, eqb}
use lib.ListN.{length, get_or, set, take, drop, replicate, length-set, length-take, length-replicate}
use borrow.Author.Tests.{lt-ltb, le-ltb}
use Rattle.std.specs.Prelude.{min}
use Rattle.std.specs.List.{list_all}
use Rattle.std.proofs.lemmas.List.{drop-set, drop-set-add, set-append_right, take_more}
use Rattle.std.proofs.lemmas.List.Folds.{list_all-append}
use Rattle.module.specs.Module.{BlockHandle, BlockRange, Statement, Break}
use Rattle.module.specs.Decode.{tab, st_of}
use Rattle.module.specs.Blocks.{held, held_from, held_in, all_below}
use Rattle.module.specs.Access.{RangeIs}
use Rattle.module.specs.declared.tables.Row.{Row}
use Rattle.module.specs.Tables.{open_of}
use Rattle.module.proofs.Tab.{tab-past}
use Rattle.reading.specs.Holding.{more, counted, cleared, ones, fields_of, held_at}

pub counted-append : (seen : List ℕ) (xs ys : List BlockHandle) → counted seen (xs ++ ys) ≡ counted (counted seen xs) ys
unfolding counted
counted-append seen [] ys = refl
counted-append seen (x ∷ xs) ys = counted-append (set seen x (more (get_or seen x 0))) xs ys

pub below_append : (b : ℕ) (xs ys : List BlockHandle) → all_below b (xs ++ ys) ≡ (all_below b xs && all_below b ys)
unfolding all_below
below_append b [] ys = refl
below_append b (x ∷ xs) ys = rw (below_append b xs ys) (sym (and_assoc (ltb x b) (all_below b xs) (all_below b ys)))

-- after the blocks hs: the words, and the answer
pub record Counted (b : ℕ) (first seen : List ℕ) (below : Bool) (hs : List BlockHandle) : Type 0 where
  pub words : seen ≡ counted first hs
  pub answer : below ≡ all_below b hs

pub none_yet : (b : ℕ) (seen : List ℕ) → Counted b seen seen true []
unfolding counted all_below
none_yet b seen = record { words = refl; answer = refl }

pub and_these : {b : ℕ} {first seen seen2 : List ℕ} {below below2 : Bool} {hs ks : List BlockHandle} → Counted b first seen below hs → Counted b seen seen2 below2 ks → Counted b first seen2 (below && below2) (hs ++ ks)
and_these {b} {first} {seen} {seen2} {below} {below2} {hs} {ks} c d =
    record {
      words = d.words ∙ rw c.words (sym (counted-append first hs ks));
      answer = rw (c.answer, d.answer) (sym (below_append b hs ks));
    }

one : (b k : ℕ) (seen : List ℕ) → Counted b seen (set seen k (more (get_or seen k 0))) (ltb k b) (k ∷ [])
unfolding counted all_below
one b k seen = record { words = refl; answer = sym (and-true (ltb k b)) }

module _ {b : ℕ} {first seen : List ℕ} {below : Bool} (f : ℕ → ℕ) (i : ℕ) {k : ℕ} (is : k ≡ f i) (c : Counted b first seen below (tab i f)) where
  next : Counted b first (set seen k (more (get_or seen k 0))) (below && ltb k b) (tab (suc i) f)
  unfolding tab
  next = rw (sym is) (and_these c (one b k seen))

  pub next_one : (seen2 : List ℕ) (below2 : Bool) → seen2 ≡ set seen k (more (get_or seen k 0)) → below2 ≡ (below && ltb k b) → Counted b first seen2 below2 (tab (i + 1) f)
  next_one seen2 below2 e d =
      let o : i + 1 ≡ suc i = omega arith in
      rw (o, e, d) next

pub all_counted : {b : ℕ} {first seen : List ℕ} {below : Bool} (f : ℕ → ℕ) (i n : ℕ) {hs : List BlockHandle} → Counted b first seen below (tab i f) → i ≤ n → n ≤ i → hs ≡ tab n f → Counted b first seen below hs
all_counted f i n c a d e =
    let o : n ≡ i = omega arith in
    rw (e, o) c

pub length-cleared : (seen : List ℕ) (n : ℕ) → length (cleared seen n) ≡ length seen
unfolding cleared
length-cleared seen zero = refl
length-cleared seen (suc n) = length-set (cleared seen n) n 0 ∙ length-cleared seen n

pub length-counted : (seen : List ℕ) (hs : List BlockHandle) → length (counted seen hs) ≡ length seen
unfolding counted
length-counted seen [] = refl
length-counted seen (k ∷ ks) = length-counted (set seen k (more (get_or seen k 0))) ks ∙ length-set seen k (more (get_or seen k 0))

zeros_shift : (n : ℕ) (xs : List ℕ) → replicate n 0 ++ 0 ∷ xs ≡ 0 ∷ (replicate n 0 ++ xs)
zeros_shift zero xs = refl
zeros_shift (suc n) xs = ap (λ (l : List ℕ). 0 ∷ l) (zeros_shift n xs)

cleared_front : (seen : List ℕ) (n : ℕ) → n ≤ length seen → replicate n 0 ++ drop n seen ≡ cleared seen n
unfolding cleared
cleared_front seen zero h = refl
cleared_front seen (suc n) h =
    let first : n - n ≡ 0 = omega arith in
    let here : n + 0 ≡ n = omega arith in
    let next : n + 1 ≡ suc n = omega arith in
    let one : drop n (set seen n 0) ≡ 0 ∷ drop (suc n) seen = rw next at (drop-set seen n 0 (omega (arith, h))) in
    let other : drop n (set seen n 0) ≡ set (drop n seen) 0 0 = rw here at (drop-set-add n seen 0 0) in
    sym (zeros_shift n (drop (suc n) seen))
    ∙ ap (λ (l : List ℕ). replicate n 0 ++ l) (sym one ∙ other)
    ∙ sym (rw first at (set-append_right (replicate n 0) (drop n seen) n n 0 (length-replicate {A = ℕ} n 0) (omega arith)))
    ∙ ap (λ (l : List ℕ). set l n 0) (cleared_front seen n (omega (arith, h)))

-- a front that is filled is cleared
pub filled_front : (seen zeros : List ℕ) (n : ℕ) → n ≤ length seen → zeros ≡ replicate (length (take n seen)) 0 → zeros ++ drop n seen ≡ cleared seen n
filled_front seen zeros n h e =
    let long : length (take n seen) ≡ n = simp length-take (omega (arith, h)) in
    rw (e, long) (cleared_front seen n h)

pub held_long : (first : List ℕ) (hs : List BlockHandle) (n : ℕ) {seen held : List ℕ} → seen ≡ cleared first n → held ≡ counted seen hs → length held ≡ length first
held_long first hs n e f = rw (f, e) (length-counted (cleared first n) hs ∙ length-cleared first n)

swap : (a b : Bool) → (a && (b && true)) ≡ (b && a)
swap true true = refl
swap true false = refl
swap false true = refl
swap false false = refl

-- the n lowest words are looked at from the first or from the last
pub ones_front : (seen : List ℕ) (n : ℕ) → n ≤ length seen → list_all (λ w. eqb w 1) (take n seen) ≡ ones n seen
unfolding ones
ones_front seen zero h = refl
ones_front seen (suc n) h =
    let next : n + 1 ≡ suc n = omega arith in
    let front : take (suc n) seen ≡ take n seen ++ (get_or seen n 0 ∷ []) = rw next at (take_more seen n 0 (omega (arith, h))) in
    ap (list_all (λ w. eqb w 1)) front
    ∙ list_all-append (λ w. eqb w 1) (take n seen) (get_or seen n 0 ∷ [])
    ∙ ap (λ (b : Bool). b && (eqb (get_or seen n 0) 1 && true)) (ones_front seen n (omega (arith, h)))
    ∙ swap (ones n seen) (eqb (get_or seen n 0) 1)

pub more_is : (n : ℕ) → min n 1 + 1 ≡ more n
unfolding more
more_is n =
    elim (dec_lt n 2) [
      | yes l ↦ rw (lt-ltb n 2 l) (omega arith)
      | no k ↦ rw (le-ltb n 2 (omega arith)) (omega arith)
    ]

pub by_words : {b : ℕ} {first seen : List ℕ} {below : Bool} {hs : List BlockHandle} → Counted b first seen below hs → (below ≡ all_below b hs) × (seen ≡ counted first hs)
by_words c = (c.answer, c.words)

pub none_there : (bytes t : List ℕ) (row : Row) (s b : ℕ) (seen : List ℕ) → row.statements ≤ s → (true ≡ all_below b (held_at bytes t row s)) × (seen ≡ counted seen (held_at bytes t row s))
unfolding open_of held counted all_below
none_there bytes t row s b seen h = rw (tab-past row.statements (λ i. st_of (fields_of bytes t row i)) s Break h) (refl, refl)

from_next : (sts : List Statement) (s n : ℕ) → held_from sts s (suc n) ≡ held_from sts s n ++ held (get_or sts (s + n) Break)
unfolding held_from
from_next sts s zero =
    let o : s + 0 ≡ s = omega arith in
    rw o (append-nil (held (get_or sts s Break)))
from_next sts s (suc n) =
    let o : suc s + n ≡ s + suc n = omega arith in
    rw (from_next sts (suc s) n, o) (sym (append_assoc (held (get_or sts s Break)) (held_from sts (suc s) n) (held (get_or sts (s + suc n) Break))))

pub next_statement : {b : ℕ} {first seen seen2 : List ℕ} {below here below2 : Bool} (sts : List Statement) (s i : ℕ) → Counted b first seen below (held_from sts s i) → (here ≡ all_below b (held (get_or sts (s + i) Break))) × (seen2 ≡ counted seen (held (get_or sts (s + i) Break))) → below2 ≡ (below && here) → Counted b first seen2 below2 (held_from sts s (i + 1))
next_statement sts s i c h e =
    let o : i + 1 ≡ suc i = omega arith in
    rw (o, from_next sts s i, e) (and_these c (record { words = h.1; answer = h.0 }))

pub no_statement : (b : ℕ) (seen : List ℕ) (sts : List Statement) (s : ℕ) → Counted b seen seen true (held_from sts s 0)
unfolding held_from
no_statement b seen sts s = none_yet b seen

pub all_statements : {b : ℕ} {first seen : List ℕ} {below : Bool} (sts : List Statement) (s i n : ℕ) (range : BlockRange) → Counted b first seen below (held_from sts s i) → i ≤ n → n ≤ i → RangeIs range s n → Counted b first seen below (held_in sts range)
all_statements sts s i n range c a d r =
    let o : n ≡ i = omega arith in
    rw (sym r.is_first, sym r.is_count, o) c
