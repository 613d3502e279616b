-- The flat parts: how they are made digit by digit, that a map's `insert` of a component sets its digit, and that the loop of `swizzle` gives what
-- `swizzled` does.
use Prim.Native.Nat.{ℕ, zero, suc, ◌+◌, ◌-◌, ◌*◌, ◌/◌, ◌%◌, ◌<◌, ◌≤◌}
use native.Mathlib.Omega.{arith}
use native.Mathlib.Numerals.{add-one}
use native.Mathlib.Decide.{ℕ_discrete, dec_lt}
use mathlib.Core.Path.{◌≡◌, refl, sym, ap, ◌∙◌}
use mathlib.Core.Bool.{Bool, true, false, ◌&&◌}
use mathlib.Core.List.{List, [], ◌∷◌}
use lib.Dec.{ltb}
use lib.ListN.{length, get_or, set, length-set, replicate, get_or-replicate}
use lib.Seq.{get_or-set_same, get_or-set_other}
use borrow.Author.Tests.{lt-ltb, le-ltb}
use Rattle.part.specs.PartReq.{PartReq, all, exist, none, more, entries, depth, width, over, is_all, is_exist, spine}
use Rattle.field.specs.Limits.{max_depth, max_entries}
use Rattle.part.specs.Insert.{insert}
use Rattle.part.specs.Store.{part, Good, Made}
use Rattle.part.proofs.Equations.{insert-none, insert_before, insert_at, insert-after}
use Rattle.part.proofs.Pieces.{part-0, part-1, part-2}
use Rattle.part.proofs.Write.{stay}
use Rattle.part.proofs.Making.{kept_trans}
use Rattle.context.specs.Swizzle.{Swizzled, asks, panics, is_flat, collected, swizzled}
use Rattle.memory.specs.Layout.{all_slot, exist_slot, flat_slot, flat_count, globals_slot}
use Rattle.memory.specs.Flat.{entry_of, flat_from, flat_of, digits_from, code}
use Rattle.memory.specs.Want.{kid, after, tail, asked, first, Child}
use Rattle.memory.specs.Memory.{Memory}
use Rattle.memory.specs.Picks.{digit_of, some_digit, Letters, FourDigits, Picks, Picking-on}
use Rattle.memory.specs.declared.want.Want.{Want}
use Rattle.std.specs.Prelude.{Some, None, IsSomeAnd}
use Rattle.memory.proofs.Asks.{tail_more}

-- `flat`
flat_suc : (k n c : ℕ) → 0 < n → flat_from k n c ≡ entry_of k (c % 3) (flat_from (k + 1) (n - 1) (c / 3))
unfolding flat_from
flat_suc k zero c h = absurd (omega arith)
flat_suc k (suc n) c h = let e : suc n - 1 ≡ n = omega arith in rw (e, add-one)

pub flat_none : (s : List ℕ) (k n c : ℕ) → Good s → n ≡ 0 → Made s s (flat_from k n c) n 2
unfolding flat_from
flat_none s k n c g e = rw e (stay s none 0 2 g (omega (arith, g.base)) (part-2 s))

entry_made : (t : List ℕ) (k d : ℕ) (r : PartReq) → (d ≡ 0 → ⊥) → d < 3 → more k (part t (d - 1)) r ≡ entry_of k d r
unfolding entry_of
entry_made t k zero r ne h = absurd (ne refl)
entry_made t k (suc zero) r ne h = rw part-0
entry_made t k (suc (suc zero)) r ne h = rw part-1
entry_made t k (suc (suc (suc d))) r ne h = absurd (omega arith)

module _ {s t : List ℕ} {r : ℕ} (k n c : ℕ) (h : 0 < n) (a : Made s t (flat_from (k + 1) (n - 1) (c / 3)) (n - 1) r) where
  pub flat_skip : c % 3 ≡ 0 → Made s t (flat_from k n c) n r
  flat_skip z = record {
    kept = a.kept;
    piece = a.piece;
    is = a.is ∙ sym (flat_suc k n c h ∙ rw z (unfold entry_of in refl));
    cost = omega (arith, a.cost);
  }

  pub flat_made : {u : List ℕ} {m : ℕ} → (c % 3 ≡ 0 → ⊥) → Made t u (more k (part t (c % 3 - 1)) (part t r)) 1 m → Made s u (flat_from k n c) n m
  flat_made ne b = record {
    kept = kept_trans a.kept b.kept;
    piece = b.piece;
    is = b.is ∙ entry_made t k (c % 3) (part t r) ne (omega arith) ∙ rw a.is (sym (flat_suc k n c h));
    cost = omega (arith, a.cost, b.cost);
  }

-- the part of a list of digits is that of its code
pub data Digits : List ℕ → Type 0 where
  last : Digits []
  digit : {d : ℕ} {ds : List ℕ} → d < 3 → Digits ds → Digits (d ∷ ds)

pub code-flat : (k : ℕ) {ds : List ℕ} → Digits ds → flat_from k (length ds) (code ds) ≡ digits_from k ds
unfolding flat_from digits_from code
code-flat k last = refl
code-flat k (digit {d} {ds} h a) =
    let m : (d + 3 * code ds) % 3 ≡ d = omega arith in
    let q : (d + 3 * code ds) / 3 ≡ code ds = omega arith in
    rw (m, q, code-flat (suc k) a)

-- a flat part passes no limit: a limit on depth or entries is no lower than these
pub record Shallow (n : ℕ) (p : PartReq) : Type 0 where
  pub fine : over p ≡ false
  pub deep : depth p ≤ 1
  pub wide : width p ≤ n

low_limits : (1 ≤ max_depth) × (4 ≤ max_entries)
low_limits = (omega arith, omega arith)

cell_shallow : (k n : ℕ) (q r : PartReq) → n < 4 → over q ≡ false → depth q ≡ 0 → Shallow n r → Shallow (suc n) (more k q r)
cell_shallow k n q r l o d h =
    let deep : depth (more k q r) ≤ 1 = unfold depth in omega (arith, h.deep) in
    let wide : width (more k q r) ≤ suc n = unfold width in omega (arith, h.wide) in
    record {
      fine = over-cell k q r o h.fine (omega (arith, low_limits)) (omega (arith, low_limits));
      deep = deep;
      wide = wide;
    }
  where
    nowhere_over : (b : Bool) → (b && false) ≡ false
    nowhere_over true = refl
    nowhere_over false = refl

    over-cell : (k : ℕ) (q r : PartReq) → over q ≡ false → over r ≡ false → depth (more k q r) ≤ max_depth → width (more k q r) ≤ max_entries → over (more k q r) ≡ false
    over-cell k q r a b x y =
        unfold over in rw (a, b, le-ltb max_depth (depth (more k q r)) x, le-ltb max_entries (width (more k q r)) y) (nowhere_over (ltb k spine))

entry_shallow : (k n d : ℕ) (r : PartReq) → n < 4 → Shallow n r → Shallow (suc n) (entry_of k d r)
entry_shallow k n zero r l h = unfold entry_of in record { fine = h.fine; deep = h.deep; wide = omega (arith, h.wide) }
entry_shallow k n (suc zero) r l h = unfold entry_of in cell_shallow k n all r l (unfold over in refl) (unfold depth in refl) h
entry_shallow k n (suc (suc d)) r l h = unfold entry_of in cell_shallow k n exist r l (unfold over in refl) (unfold depth in refl) h

flat_shallow : (k n c : ℕ) → n ≤ 4 → Shallow n (flat_from k n c)
unfolding flat_from
flat_shallow k zero c l = record { fine = unfold over in refl; deep = unfold depth in omega arith; wide = unfold width in omega arith }
flat_shallow k (suc n) c l = entry_shallow k n (c % 3) (flat_from (suc k) n (c / 3)) (omega arith) (flat_shallow (suc k) n (c / 3) (omega arith))

pub flat_fine : {s rs : List ℕ} → Memory s rs → (k : ℕ) → flat_slot ≤ k → k < globals_slot → over (part s (get_or rs k 0)) ≡ false
flat_fine {s} {rs} m k a b =
    let e : flat_slot + (k - flat_slot) ≡ k = omega arith in
    rw (← e) (rw (m.flats (k - flat_slot) (omega arith)) (flat_shallow 0 4 (k - flat_slot) (omega arith)).fine)

-- maps whose indexes are i or more
data Above : ℕ → PartReq → Type 0 where
  nothing : {i : ℕ} → Above i none
  next : {i : ℕ} (j : ℕ) (p : PartReq) {r : PartReq} → i ≤ j → Above (suc j) r → Above i (more j p r)

lower : (i j : ℕ) {r : PartReq} → i ≤ j → Above j r → Above i r
lower i j h nothing = nothing
lower i j h (next k p l a) = let b : i ≤ k = omega arith in next k p b a

-- a component that is put into a flat part
insert-first : (c : ℕ) (q : PartReq) {r : PartReq} → Above (suc c) r → insert r c q ≡ more c q r
insert-first c q nothing = insert-none c q
insert-first c q (next j p l a) = insert_before c j q p _ l

entry_flat : (k : ℕ) (q r : PartReq) → is_flat q ≡ true → more k q r ≡ entry_of k (digit_of q) r
unfolding entry_of digit_of is_flat
entry_flat k all r h = refl
entry_flat k exist r h = refl
entry_flat k none r h = let z : ◌≡◌ {A = ℕ} 0 1 = cc in absurd (omega arith)
entry_flat k (more i p s) r h = let z : ◌≡◌ {A = ℕ} 0 1 = cc in absurd (omega arith)

entry_above : (k d : ℕ) {r : PartReq} → Above (suc k) r → Above k (entry_of k d r)
unfolding entry_of
entry_above k zero a = lower k (suc k) (omega arith) a
entry_above k (suc zero) a = let b : k ≤ k = omega arith in next k all b a
entry_above k (suc (suc d)) a = let b : k ≤ k = omega arith in next k exist b a

digits_above : (k : ℕ) (ds : List ℕ) → Above k (digits_from k ds)
unfolding digits_from
digits_above k [] = nothing
digits_above k (d ∷ ds) = entry_above k d (digits_above (suc k) ds)

insert-head : (k d : ℕ) (q : PartReq) {r : PartReq} → Above (suc k) r → insert (entry_of k d r) k q ≡ more k q r
unfolding entry_of
insert-head k zero q a = insert-first k q a
insert-head k (suc zero) q a = insert_at k k q all _ refl
insert-head k (suc (suc d)) q a = insert_at k k q exist _ refl

insert-tail : (k d c : ℕ) (q r : PartReq) → k < c → insert (entry_of k d r) c q ≡ entry_of k d (insert r c q)
unfolding entry_of
insert-tail k zero c q r h = refl
insert-tail k (suc zero) c q r h = insert-after c k q all r h
insert-tail k (suc (suc d)) c q r h = insert-after c k q exist r h

insert-digit : (k j : ℕ) (ds : List ℕ) (q : PartReq) → is_flat q ≡ true → j < length ds → insert (digits_from k ds) (k + j) q ≡ digits_from k (set ds j (digit_of q))
unfolding digits_from
insert-digit k j [] q f h = absurd (omega arith)
insert-digit k zero (d ∷ ds) q f h =
    let e : k + 0 ≡ k = omega arith in
    rw e (insert-head k d q (digits_above (suc k) ds) ∙ entry_flat k q (digits_from (suc k) ds) f)
insert-digit k (suc j) (d ∷ ds) q f h =
    let e : k + suc j ≡ suc k + j = omega arith in
    rw e (insert-tail k d (suc k + j) q (digits_from (suc k) ds) (omega arith) ∙ rw (insert-digit (suc k) j ds q f (omega arith)))

-- `digit`
module _ (p : PartReq) where
  pub digit_all : true ≡ is_all p → Some 1 ≡ some_digit (digit_of p)
  digit_all h = go p h
    where
      go : (p : PartReq) → true ≡ is_all p → Some 1 ≡ some_digit (digit_of p)
      go all h = unfold digit_of in refl
      go exist h = let z : ◌≡◌ {A = ℕ} 0 1 = cc in absurd (omega arith)
      go none h = let z : ◌≡◌ {A = ℕ} 0 1 = cc in absurd (omega arith)
      go (more i q r) h = let z : ◌≡◌ {A = ℕ} 0 1 = cc in absurd (omega arith)

  pub digit_exist : true ≡ is_exist p → Some 2 ≡ some_digit (digit_of p)
  digit_exist h = go p h
    where
      go : (p : PartReq) → true ≡ is_exist p → Some 2 ≡ some_digit (digit_of p)
      go all h = let z : ◌≡◌ {A = ℕ} 0 1 = cc in absurd (omega arith)
      go exist h = unfold digit_of in refl
      go none h = let z : ◌≡◌ {A = ℕ} 0 1 = cc in absurd (omega arith)
      go (more i q r) h = let z : ◌≡◌ {A = ℕ} 0 1 = cc in absurd (omega arith)

  pub digit_none : false ≡ is_all p → false ≡ is_exist p → None ≡ some_digit (digit_of p)
  digit_none h g = go p h g
    where
      go : (p : PartReq) → false ≡ is_all p → false ≡ is_exist p → None ≡ some_digit (digit_of p)
      go all h g = let z : ◌≡◌ {A = ℕ} 0 1 = cc in absurd (omega arith)
      go exist h g = let z : ◌≡◌ {A = ℕ} 0 1 = cc in absurd (omega arith)
      go none h g = unfold digit_of in refl
      go (more i q r) h g = unfold digit_of in refl

-- what an answer of `digit` says
pub digit_missing : (n : ℕ) → None ≡ some_digit n → n ≡ 0
digit_missing zero e = refl
digit_missing (suc n) e = cc

pub digit_there : (n d : ℕ) → Some d ≡ some_digit n → (d ≡ n) × (d ≡ 0 → ⊥)
digit_there zero d e = cc
digit_there (suc n) d e = let z : d ≡ suc n = cc in (z, omega arith)

digit_flat : (q : PartReq) → (digit_of q ≡ 0 → ⊥) → (is_flat q ≡ true) × (digit_of q < 3)
unfolding digit_of is_flat
digit_flat all h = (refl, omega arith)
digit_flat exist h = (refl, omega arith)
digit_flat none h = absurd (h refl)
digit_flat (more i p r) h = absurd (h refl)

digit_part : (q : PartReq) → digit_of q ≡ 0 → is_flat q ≡ false
unfolding digit_of is_flat
digit_part all h = absurd (omega arith)
digit_part exist h = absurd (omega arith)
digit_part none h = refl
digit_part (more i p r) h = refl

-- `swizzle`: the entries that are left
pub cell_is : (q : PartReq) (i : ℕ) → Some i ≡ first q → q ≡ more i (kid q) (after q)
unfolding kid after
cell_is all i e = cc
cell_is exist i e = cc
cell_is none i e = cc
cell_is (more j p r) i e = cc

entries-cell : (i : ℕ) (p r : PartReq) → suc (entries r) ≤ entries (more i p r)
unfolding entries
entries-cell i p r = omega arith

collected-out : (pattern : List ℕ) (i : ℕ) (q r picked : PartReq) → 4 ≤ i → collected pattern (more i q r) picked ≡ panics
unfolding collected
collected-out pattern i q r picked h = rw (le-ltb i 4 h)

collected-part : (pattern : List ℕ) (i : ℕ) (q r picked : PartReq) → i < 4 → is_flat q ≡ false → collected pattern (more i q r) picked ≡ panics
unfolding collected
collected-part pattern i q r picked h f = rw (lt-ltb i 4 h, f)

collected-on : (pattern : List ℕ) (i : ℕ) (q r picked : PartReq) → i < 4 → is_flat q ≡ true
    → collected pattern (more i q r) picked ≡ collected pattern r (insert picked (get_or pattern i 0) q)
unfolding collected
collected-on pattern i q r picked h f = rw (lt-ltb i 4 h, f)

collected-end : (pattern : List ℕ) (q picked : PartReq) → None ≡ first q → collected pattern q picked ≡ asks picked
unfolding collected
collected-end pattern all picked e = refl
collected-end pattern exist picked e = refl
collected-end pattern none picked e = refl
collected-end pattern (more i p r) picked e = cc

swizzled_more : (pattern : List ℕ) (p : PartReq) → false ≡ is_all p → false ≡ is_exist p → collected pattern p none ≡ swizzled pattern p
swizzled_more pattern all h g = let z : ◌≡◌ {A = ℕ} 0 1 = cc in absurd (omega arith)
swizzled_more pattern exist h g = let z : ◌≡◌ {A = ℕ} 0 1 = cc in absurd (omega arith)
swizzled_more pattern none h g = unfold collected swizzled in refl
swizzled_more pattern (more i q r) h g = unfold swizzled in refl

no_digits : none ≡ digits_from 0 (replicate 4 0)
unfolding digits_from entry_of
no_digits = refl

pub pick_first : (pattern : List ℕ) (p : PartReq) → false ≡ is_all p → false ≡ is_exist p → Picking-on pattern p (swizzled pattern p) 0 (replicate 4 0)
unfolding tail
pick_first pattern p h g = record {
  rest = rw (← no_digits) (swizzled_more pattern p h g);
  few = omega arith;
  four = record { long = refl; small = λ i l. rw (get_or-replicate {A = ℕ} 4 i 0 0 l) (omega arith) };
}

four : (ds : List ℕ) → length ds ≡ 4 → ((i : ℕ) → i < 4 → get_or ds i 0 < 3)
    → (code ds ≡ get_or ds 0 0 + 3 * (get_or ds 1 0 + 3 * (get_or ds 2 0 + 3 * get_or ds 3 0))) × Digits ds
unfolding code
four [] l s = absurd (omega arith)
four (a ∷ []) l s = absurd (omega arith)
four (a ∷ (b ∷ [])) l s = absurd (omega arith)
four (a ∷ (b ∷ (c ∷ []))) l s = absurd (omega arith)
four (a ∷ (b ∷ (c ∷ (d ∷ [])))) l s =
    let z : a + 3 * (b + 3 * (c + 3 * (d + 3 * 0))) ≡ a + 3 * (b + 3 * (c + 3 * d)) = omega arith in
    (z, digit (s 0 (omega arith)) (digit (s 1 (omega arith)) (digit (s 2 (omega arith)) (digit (s 3 (omega arith)) last))))
four (a ∷ (b ∷ (c ∷ (d ∷ (e ∷ es))))) l s = absurd (omega arith)

module _ {pattern : List ℕ} {p : PartReq} {total : Swizzled} {k : ℕ} {ds : List ℕ} (h : Picking-on pattern p total k ds) where
  module _ {i : ℕ} (on : Some i ≡ first (tail p k)) where
    cell : tail p k ≡ more i (kid (tail p k)) (after (tail p k))
    cell = cell_is (tail p k) i on

    pub pick_there : i < 4 → IsSomeAnd (first (tail p k)) (λ j. j < spine)
    pick_there l = let b : i < spine = omega arith in rw (← on) b

    pub pick_less : entries (tail p (k + 1)) < entries (tail p k)
    pick_less =
        rw (tail_more p k) (omega (arith, entries-cell i (kid (tail p k)) (after (tail p k)), ap entries cell))

    pub pick_out : 4 ≤ i → total ≡ panics
    pick_out l = sym h.rest ∙ rw cell (collected-out pattern i (kid (tail p k)) (after (tail p k)) (digits_from 0 ds) l)

    module _ (l : i < 4) where
      pick_part : digit_of (kid (tail p k)) ≡ 0 → total ≡ panics
      pick_part z =
          sym h.rest
          ∙ rw cell (collected-part pattern i (kid (tail p k)) (after (tail p k)) (digits_from 0 ds) l (digit_part (kid (tail p k)) z))

      put_digit : Letters pattern → (digit_of (kid (tail p k)) ≡ 0 → ⊥) → Picking-on pattern p total (k + 1) (set ds (get_or pattern i 0) (digit_of (kid (tail p k))))
      put_digit ls ne =
          let f = digit_flat (kid (tail p k)) ne in
          let low = ls.low i l in
          let j : get_or pattern i 0 < length ds = omega (arith, h.four.long) in
          let z : 0 + get_or pattern i 0 ≡ get_or pattern i 0 = omega arith in
          let put : insert (digits_from 0 ds) (get_or pattern i 0) (kid (tail p k)) ≡ digits_from 0 (set ds (get_or pattern i 0) (digit_of (kid (tail p k))))
          = rw z at (insert-digit 0 (get_or pattern i 0) ds (kid (tail p k)) f.0 j) in
          record {
            rest = rw (tail_more p k, ← put)
                (sym (collected-on pattern i (kid (tail p k)) (after (tail p k)) (digits_from 0 ds) l f.0) ∙ rw (← cell) h.rest);
            few = omega (arith, h.few, pick_less);
            four = record {
              long = length-set ds (get_or pattern i 0) (digit_of (kid (tail p k))) ∙ h.four.long;
              small = λ m b.
                  elim (ℕ_discrete m (get_or pattern i 0)) [
                    | yes e ↦ rw (e, get_or-set_same ds (get_or pattern i 0) (digit_of (kid (tail p k))) 0 j) f.1
                    | no x ↦ rw (get_or-set_other ds (get_or pattern i 0) m (digit_of (kid (tail p k))) 0 x) (h.four.small m b)
                  ];
            };
          }

      -- the entry's requirement is what u asks, and d its digit
      module _ {s rs : List ℕ} {w u : Want} (ch : Child s rs w k u) (same : asked s rs w ≡ p) {d : ℕ} (ed : d ≡ digit_of (asked s rs u)) where
        d-is : d ≡ digit_of (kid (tail p k))
        d-is = ed ∙ ap digit_of ch.is ∙ rw same

        pub pick_panics : d ≡ 0 → total ≡ panics
        pick_panics z = pick_part (sym d-is ∙ z)

        pub pick_on : (letter : ℕ) → Letters pattern → letter ≡ get_or pattern i 0 → (d ≡ 0 → ⊥) → Picking-on pattern p total (k + 1) (set ds letter d)
        pick_on letter ls el ne = rw (el, d-is) (put_digit ls (λ z. ne (d-is ∙ z)))

  pub pick_done : {s rs : List ℕ} (n : ℕ) → Memory s rs → None ≡ first (tail p k)
      → n ≡ flat_slot + (get_or ds 0 0 + 3 * (get_or ds 1 0 + 3 * (get_or ds 2 0 + 3 * get_or ds 3 0))) → Picks s rs total (Some n)
  pick_done n m off is =
      let q = h.four in
      let f = four ds q.long q.small in
      let low : get_or ds 0 0 + 3 * (get_or ds 1 0 + 3 * (get_or ds 2 0 + 3 * get_or ds 3 0)) < flat_count
      = omega (arith, q.small 0 (omega arith), q.small 1 (omega arith), q.small 2 (omega arith), q.small 3 (omega arith)) in
      let e : flat_of (get_or ds 0 0 + 3 * (get_or ds 1 0 + 3 * (get_or ds 2 0 + 3 * get_or ds 3 0))) ≡ digits_from 0 ds = rw (← f.0, ← q.long) (code-flat 0 f.1) in
      record {
        by = (
          omega arith,
          (
            flat_fine m n (omega arith) (omega arith),
            sym h.rest ∙ collected-end pattern (tail p k) (digits_from 0 ds) off ∙ ap asks (sym (rw is (m.flats _ low) ∙ e)),
          ),
        );
      }

pub picks_panic : {s rs : List ℕ} {total : Swizzled} → total ≡ panics → Picks s rs total None
picks_panic e = record { by = e }

pub picks_all : {s rs : List ℕ} (pattern : List ℕ) (p : PartReq) → Memory s rs → true ≡ is_all p → Picks s rs (swizzled pattern p) (Some all_slot)
unfolding swizzled
picks_all pattern all m h = record { by = (omega arith, (rw m.first (unfold over in refl), ap asks (sym m.first))) }
picks_all pattern exist m h = let z : ◌≡◌ {A = ℕ} 0 1 = cc in absurd (omega arith)
picks_all pattern none m h = let z : ◌≡◌ {A = ℕ} 0 1 = cc in absurd (omega arith)
picks_all pattern (more i q r) m h = let z : ◌≡◌ {A = ℕ} 0 1 = cc in absurd (omega arith)

pub picks_exist : {s rs : List ℕ} (pattern : List ℕ) (p : PartReq) → Memory s rs → true ≡ is_exist p → Picks s rs (swizzled pattern p) (Some exist_slot)
unfolding swizzled
picks_exist pattern all m h = let z : ◌≡◌ {A = ℕ} 0 1 = cc in absurd (omega arith)
picks_exist pattern exist m h = record { by = (omega arith, (rw m.second (unfold over in refl), ap asks (sym m.second))) }
picks_exist pattern none m h = let z : ◌≡◌ {A = ℕ} 0 1 = cc in absurd (omega arith)
picks_exist pattern (more i q r) m h = let z : ◌≡◌ {A = ℕ} 0 1 = cc in absurd (omega arith)

-- a pattern that is filled up with 0 asks the same
module _ (p q : List ℕ) (h : (i : ℕ) → i < 4 → get_or p i 0 ≡ get_or q i 0) where
  collected-same : (r picked : PartReq) → collected p r picked ≡ collected q r picked
  unfolding collected
  collected-same all picked = refl
  collected-same exist picked = refl
  collected-same none picked = refl
  collected-same (more i x r) picked =
      elim (dec_lt i 4) [
        | yes l ↦ rw (h i l, collected-same r (insert picked (get_or q i 0) x))
        | no l ↦ rw (le-ltb i 4 (omega arith))
      ]

  pub swizzled-same : (r : PartReq) → swizzled p r ≡ swizzled q r
  unfolding swizzled
  swizzled-same all = refl
  swizzled-same exist = refl
  swizzled-same none = refl
  swizzled-same (more i x r) = collected-same (more i x r) none

-- each digit is small
pub digit_small : {ds : List ℕ} → FourDigits ds → (i : ℕ) → i < 4 → get_or ds i 0 ≤ 2
digit_small q i h = omega (arith, q.small i h)
