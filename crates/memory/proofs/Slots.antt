-- The slots of a memory: what they mean slot by slot, their entries in sum, and that a collection leaves room. A store into a slot changes the sum by
-- that slot alone, and what is left after a collection is what the slots' parts have.
use Prim.Native.Nat.{ℕ, zero, suc, ◌+◌, ◌-◌, ◌*◌, ◌/◌, ◌%◌, ◌<◌, ◌≤◌}
use native.Mathlib.Omega.{arith}
use native.Mathlib.Decide.{ℕ_discrete}
use mathlib.Core.Path.{◌≡◌, refl, sym, ap, ◌∙◌}
use mathlib.Core.Bool.{false}
use mathlib.Core.List.{List, [], ◌∷◌}
use lib.ListN.{length, get_or, set, length-set, length-map, length-replicate}
use lib.Seq.{get_or-set_same, get_or-set_other, ext_get_or}
use Rattle.field.specs.Limits.{max_functions, max_pieces, max_depth}
use Rattle.part.specs.PartReq.{PartReq, all, exist, none, entries, over}
use Rattle.part.specs.Store.{top, part, Good, Below, Kept}
use Rattle.part.specs.StoreLimits.{entries_cap}
use Rattle.part.specs.Collect.{Collected}
use Rattle.part.proofs.Reached.{sum_of, total, collected_total}
use Rattle.module.specs.Tables.{max_items}
use Rattle.memory.specs.Layout.{all_slot, exist_slot, ask, result, returned, flat_slot, flat_count, globals_slot, exprs_slot, totals_slot, functions_slot, stack_slot, most}
use Rattle.memory.specs.Flat.{entry_of, flat_from}
use Rattle.memory.specs.Want.{downs, wraps, asks, want_of, asked, Wants, Still}
use Rattle.memory.specs.Memory.{read, sum_from, counted, Recorded, Memory, Tidied}
use Rattle.memory.specs.declared.want.Want.{Want}
use Rattle.memory.proofs.Asks.{entries_asks}

pub read_at : (s rs : List ℕ) (k : ℕ) → k < length rs → get_or (read s rs) k none ≡ part s (get_or rs k 0)
read_at s [] k h = absurd (omega arith)
read_at s (r ∷ rs) zero h = refl
read_at s (r ∷ rs) (suc k) h = read_at s rs k (omega arith)

pub read-long : (s rs : List ℕ) → length (read s rs) ≡ length rs
read-long s rs = length-map rs (part s)

pub read_set : (s rs : List ℕ) (k r : ℕ) → read s (set rs k r) ≡ set (read s rs) k (part s r)
read_set s [] k r = refl
read_set s (x ∷ rs) zero r = refl
read_set s (x ∷ rs) (suc k) r = ap (λ l. part s x ∷ l) (read_set s rs k r)

-- two memories that mean the same, slot by slot
pub read_same : (s rs t us : List ℕ) → length us ≡ length rs → ((k : ℕ) → k < length rs → part t (get_or us k 0) ≡ part s (get_or rs k 0)) → read t us ≡ read s rs
read_same s rs t us e h =
    ext_get_or none (read t us) (read s rs) (read-long t us ∙ e ∙ sym (read-long s rs))
    (λ k l.
    let a : k < length us = omega (arith, read-long t us) in
    let b : k < length rs = omega arith in
    read_at t us k a ∙ h k b ∙ sym (read_at s rs k b))

pub kept_read : {s t : List ℕ} (rs : List ℕ) → Kept s t → Below rs (top s) → read t rs ≡ read s rs
kept_read {s} {t} rs x b = read_same s rs t rs refl (λ j h. x.same _ (b j h))

-- sums of entries
pub sum_suc : (ps : List PartReq) (a n : ℕ) → sum_from ps a (suc n) ≡ sum_from ps a n + entries (get_or ps (a + n) none)
unfolding sum_from
sum_suc ps a n = refl

pub sum_none : (ps : List PartReq) (a : ℕ) → sum_from ps a 0 ≡ 0
unfolding sum_from
sum_none ps a = refl

pub sum_split : (ps : List PartReq) (a m n : ℕ) → sum_from ps a (m + n) ≡ sum_from ps a m + sum_from ps (a + m) n
unfolding sum_from
sum_split ps a m zero = let e : m + 0 ≡ m = omega arith in rw e (omega arith)
sum_split ps a m (suc n) =
    let e : m + suc n ≡ suc (m + n) = omega arith in
    let f : a + (m + n) ≡ a + m + n = omega arith in
    rw e (let h = sum_split ps a m n in let i = ap (λ (k : ℕ). entries (get_or ps k none)) f in omega (arith, sum_suc ps a (m + n), i))

module _ (ps : List PartReq) (k : ℕ) (q : PartReq) where
  -- a slot outside
  pub sum_outside : (a n : ℕ) → ((j : ℕ) → j < n → a + j ≡ k → ⊥) → sum_from (set ps k q) a n ≡ sum_from ps a n
  unfolding sum_from
  sum_outside a zero h = refl
  sum_outside a (suc n) h =
      rw (sum_outside a n (λ j l e. h j (omega arith) e), get_or-set_other ps k (a + n) q none (h n (omega arith)))

  pub sum_set : (a n : ℕ) → k < length ps → a ≤ k → k < a + n → sum_from (set ps k q) a n + entries (get_or ps k none) ≡ sum_from ps a n + entries q
  sum_set a n l b h =
      let e : n ≡ (k - a) + suc (n - suc (k - a)) = omega arith in
      let f : a + (k - a) ≡ k = omega arith in
      rw e (rw (sum_split (set ps k q) a (k - a) (suc (n - suc (k - a))), sum_split ps a (k - a) (suc (n - suc (k - a))), f)
      (omega (arith, sum_outside a (k - a) (λ j i z. omega arith), head (n - suc (k - a)))))
    where
      head : (m : ℕ) → sum_from (set ps k q) k (suc m) + entries (get_or ps k none) ≡ sum_from ps k (suc m) + entries q
      head m =
          let e : suc m ≡ 1 + m = omega arith in
          let z : k + 0 ≡ k = omega arith in
          rw (e, sum_split (set ps k q) k 1 m, sum_split ps k 1 m)
          (omega (
            arith,
            sum_suc (set ps k q) k 0,
            sum_suc ps k 0,
            ap (λ (j : ℕ). entries (get_or ps j none)) z,
            ap (λ (j : ℕ). entries (get_or (set ps k q) j none)) z,
            ap entries (get_or-set_same ps k q none l),
            sum_outside (k + 1) m (λ j i z. omega arith),
            sum_none (set ps k q) k,
            sum_none ps k,
          ))

-- entries are counted further than a visit can make them
pub above : 2 * max_pieces + max_depth + 5 ≤ entries_cap
above = omega arith

-- a flat part has an entry for a digit at most
entry_entries : (k d : ℕ) (r : PartReq) → entries (entry_of k d r) ≤ 1 + entries r
unfolding entry_of entries
entry_entries k zero r = omega arith
entry_entries k (suc zero) r = omega arith
entry_entries k (suc (suc d)) r = omega arith

flat_entries : (k n c : ℕ) → entries (flat_from k n c) ≤ n
unfolding flat_from
flat_entries k zero c = unfold entries in omega arith
flat_entries k (suc n) c = omega (arith, entry_entries k (c % 3) (flat_from (suc k) n (c / 3)), flat_entries (suc k) n (c / 3))

no_entries : (entries all ≡ 0) × (entries exist ≡ 0)
unfolding entries
no_entries = (refl, refl)

-- the slots that a part by value may name
module _ {s rs : List ℕ} (m : Memory s rs) where
  pub slot_low : (k : ℕ) → k < stack_slot → (k < length rs) × (get_or rs k 0 < top s)
  slot_low k h = let l : k < length rs = omega (arith, m.slots) in (l, m.below k l)

  -- the part of such a slot is small
  pub slot_small : (k : ℕ) → k < globals_slot → entries (part s (get_or rs k 0)) ≤ max_pieces + 4
  slot_small zero h = rw m.first (unfold entries in omega arith)
  slot_small (suc zero) h = rw m.second (unfold entries in omega arith)
  slot_small (suc (suc zero)) h = omega (arith, m.asking ask (omega arith) (omega arith))
  slot_small (suc (suc (suc zero))) h = omega (arith, m.asking result (omega arith) (omega arith))
  slot_small (suc (suc (suc (suc zero)))) h = omega (arith, m.asking returned (omega arith) (omega arith))
  slot_small (suc (suc (suc (suc (suc c))))) h =
      let e : suc (suc (suc (suc (suc c)))) ≡ flat_slot + c = omega arith in
      rw (e, m.flats c (omega arith)) (omega (arith, flat_entries 0 4 c))

  pub asked-small : (w : Want) → Wants s rs w → entries (asked s rs w) ≤ max_pieces + max_depth + 4
  asked-small w q = omega (arith, entries_asks w (part s (get_or rs w.slot 0)), slot_small w.slot q.slot, q.high)

  -- the entries of all slots: those that 16 counts, those that are asked and returned, and the flat parts
  sum_flats : (n : ℕ) → n ≤ flat_count → sum_from (read s rs) flat_slot n ≤ 4 * n
  sum_flats zero h = omega (arith, sum_none (read s rs) flat_slot)
  sum_flats (suc n) h =
      let l = slot_low (flat_slot + n) (omega arith) in
      omega (arith, sum_suc (read s rs) flat_slot n, ap entries (read_at s rs (flat_slot + n) l.0 ∙ m.flats n (omega arith)), flat_entries 0 4 n, sum_flats n (omega arith))

  total_sum : (n : ℕ) → n ≤ length rs → sum_of (λ r. entries (part s r)) rs n ≡ sum_from (read s rs) 0 n
  unfolding sum_of sum_from
  total_sum zero h = refl
  total_sum (suc n) h =
      let z : 0 + n ≡ n = omega arith in
      omega (arith, total_sum n (omega arith), ap (λ (k : ℕ). entries (get_or (read s rs) k none)) z, ap entries (read_at s rs n (omega arith)))

  pub total-small : total s rs ≤ counted (read s rs) + (3 * (max_pieces + 4) + 4 * flat_count)
  total-small =
      let e : length rs ≡ flat_slot + (flat_count + (length rs - globals_slot)) = omega (arith, m.slots) in
      let a = total_sum (length rs) (omega arith) in
      let b = ap (λ (n : ℕ). sum_from (read s rs) 0 n) e in
      let f : sum_from (read s rs) globals_slot (length rs - globals_slot) ≡ counted (read s rs) = rw (read-long s rs) refl in
      omega (
        arith,
        a,
        b,
        f,
        sum_split (read s rs) 0 flat_slot (flat_count + (length rs - globals_slot)),
        sum_split (read s rs) flat_slot flat_count (length rs - globals_slot),
        sum_flats flat_count (omega arith),
        sum_first,
      )
    where
      at : (k : ℕ) → k < stack_slot → entries (get_or (read s rs) k none) ≡ entries (part s (get_or rs k 0))
      at k h = ap entries (read_at s rs k (slot_low k h).0)

      sum_first : sum_from (read s rs) 0 flat_slot ≤ 3 * (max_pieces + 4)
      sum_first =
          omega (
            arith,
            sum_suc (read s rs) 0 4,
            sum_suc (read s rs) 0 3,
            sum_suc (read s rs) 0 2,
            sum_suc (read s rs) 0 1,
            sum_suc (read s rs) 0 0,
            sum_none (read s rs) 0,
            at 0 (omega arith),
            at 1 (omega arith),
            at 2 (omega arith),
            at 3 (omega arith),
            at 4 (omega arith),
            ap entries m.first,
            ap entries m.second,
            m.asking ask (omega arith) (omega arith),
            m.asking result (omega arith) (omega arith),
            m.asking returned (omega arith) (omega arith),
            no_entries,
          )

-- a memory with other slots that mean the same: after a collection, or after more was made
pub same_memory : {s rs t us : List ℕ} → Memory s rs → Good t → length t ≡ length s → length us ≡ length rs
    → ((k : ℕ) → k < length rs → (get_or us k 0 < top t) × (part t (get_or us k 0) ≡ part s (get_or rs k 0))) → Memory t us
same_memory {s} {rs} {t} {us} m g l e h =
    let at : (k : ℕ) → k < stack_slot → part t (get_or us k 0) ≡ part s (get_or rs k 0) = λ k b. (h k (slot_low m k b).0).1 in
    record {
      good = g;
      below = λ k b. (h k (omega arith)).0;
      slots = omega (arith, m.slots);
      first = at all_slot (omega arith) ∙ m.first;
      second = at exist_slot (omega arith) ∙ m.second;
      asking = λ j a b. rw (at j (omega arith)) (m.asking j a b);
      fine = λ j a b. rw (at j (omega arith)) (m.fine j a b);
      flats = λ c b. at (flat_slot + c) (omega arith) ∙ m.flats c b;
      records = λ k a b. rw (at k (omega arith)) (m.records k a b);
      fits = omega (arith, m.fits);
    }

pub kept_memory : {s rs t : List ℕ} → Memory s rs → Kept s t → Memory t rs
kept_memory m x = same_memory m x.good x.long refl (λ k b. (omega (arith, m.below k b, x.tops), x.same _ (m.below k b)))

-- THE ROOM: what 16 counts, what is asked and returned, and the flat parts leave room for a visit
module _ {s rs t us : List ℕ} (m : Memory s rs) (few : counted (read s rs) ≤ most) (d : Collected s rs t us) where
  pub tidied : Tidied s rs t us
  tidied = record {
    memory = same_memory m d.good d.long d.roots d.same;
    same = read_same s rs t us d.roots (λ k h. (d.same k h).1);
    long = d.roots;
    roomy = omega (arith, collected_total d, total-small m, m.fits, d.long);
  }

-- the memory after more was made, and a slot that counts was set
pub set-memory : {s rs t : List ℕ} {k r : ℕ} → Memory s rs → Kept s t → r < top t → globals_slot ≤ k → k < length rs
    → (exprs_slot ≤ k → k < functions_slot → Recorded (part t r)) → Memory t (set rs k r)
set-memory {s} {rs} {t} {k} {r} m x h l b q =
    let old : (j : ℕ) → j < length rs → (j ≡ k → ⊥) → (get_or (set rs k r) j 0 < top t) × (part t (get_or (set rs k r) j 0) ≡ part s (get_or rs j 0))
    = λ j i ne. rw (get_or-set_other rs k j r 0 ne) (omega (arith, m.below j i, x.tops), x.same _ (m.below j i)) in
    let at : (j : ℕ) → j < globals_slot → part t (get_or (set rs k r) j 0) ≡ part s (get_or rs j 0)
    = λ j i. (old j (slot_low m j (omega arith)).0 (omega arith)).1 in
    record {
      good = x.good;
      below = λ j i.
          elim (ℕ_discrete j k) [
            | yes e ↦ rw (e, get_or-set_same rs k r 0 b) h
            | no ne ↦ (old j (omega (arith, length-set rs k r)) ne).0
          ];
      slots = omega (arith, m.slots, length-set rs k r);
      first = at all_slot (omega arith) ∙ m.first;
      second = at exist_slot (omega arith) ∙ m.second;
      asking = λ j a b. rw (at j (omega arith)) (m.asking j a b);
      fine = λ j a b. rw (at j (omega arith)) (m.fine j a b);
      flats = λ c i. at (flat_slot + c) (omega arith) ∙ m.flats c i;
      records = λ j a i.
          elim (ℕ_discrete j k) [
            | yes e ↦ rw (e, get_or-set_same rs k r 0 b) (q (omega arith) (omega arith))
            | no ne ↦ rw (old j (omega (arith, m.slots)) ne).1 (m.records j a i)
          ];
      fits = omega (arith, m.fits, x.long);
    }

pub set-read : {s t : List ℕ} (rs : List ℕ) (k r : ℕ) {p : PartReq} → Kept s t → Below rs (top s) → part t r ≡ p → read t (set rs k r) ≡ set (read s rs) k p
set-read {s} {t} rs k r x b e = read_set t rs k r ∙ rw (e, kept_read rs x b)

-- the slots that parts by value name, after a step that leaves them as they were
pub still_read : {s rs t us : List ℕ} → Memory s rs → length us ≡ length rs
    → ((k : ℕ) → k < globals_slot → get_or (read t us) k none ≡ get_or (read s rs) k none) → Still s rs t us
still_read {s} {rs} {t} {us} m e h = record {
  slot = λ k l.
      let a = (slot_low m k (omega arith)).0 in
      let b : k < length us = omega arith in
      sym (read_at t us k b) ∙ h k l ∙ read_at s rs k a;
}

pub tidied_still : {s rs t us : List ℕ} → Memory s rs → Tidied s rs t us → Still s rs t us
tidied_still m d = still_read m d.long (λ k h. ap (λ (ps : List PartReq). get_or ps k none) d.same)

pub still_trans : {s rs t us u vs : List ℕ} → Still s rs t us → Still t us u vs → Still s rs u vs
still_trans a b = record { slot = λ k l. b.slot k l ∙ a.slot k l }

pub asked-still : {s rs t us : List ℕ} (w : Want) → Still s rs t us → Wants s rs w → asked t us w ≡ asked s rs w
asked-still w x q = ap (λ (p : PartReq). asks w p) (x.slot w.slot q.slot)

pub wants_still : {s rs t us : List ℕ} (w : Want) → Still s rs t us → Wants s rs w → Wants t us w
wants_still w x q = rw (x.slot w.slot q.slot) q

-- the part of a slot by value
module _ (s rs : List ℕ) (k : ℕ) where
  pub asked-slot : asked s rs (want_of k) ≡ part s (get_or rs k 0)
  unfolding asks wraps downs
  asked-slot = refl

  pub want_slot : k < globals_slot → over (part s (get_or rs k 0)) ≡ false → Wants s rs (want_of k)
  want_slot l o = record { long = length-replicate {A = ℕ} (2 * max_depth) 0; slot = l; deep = omega arith; high = omega arith; fine = rw asked-slot o }

-- a slot of what is asked with, of the result too, or of what is returned, was set
pub hold_memory : {s rs : List ℕ} {k r : ℕ} → Memory s rs → ask ≤ k → k ≤ returned → r < top s → entries (part s r) ≤ max_pieces + 4 → over (part s r) ≡ false → Memory s (set rs k r)
hold_memory {s} {rs} {k} {r} m l b h few o =
    let i : k < length rs = omega (arith, m.slots) in
    let new : get_or (set rs k r) k 0 ≡ r = get_or-set_same rs k r 0 i in
    let old : (j : ℕ) → (j ≡ k → ⊥) → get_or (set rs k r) j 0 ≡ get_or rs j 0 = λ j ne. get_or-set_other rs k j r 0 ne in
    record {
      good = m.good;
      below = λ j x.
          elim (ℕ_discrete j k) [
            | yes e ↦ rw (e, new) h
            | no ne ↦ rw (old j ne) (m.below j (omega (arith, length-set rs k r)))
          ];
      slots = omega (arith, m.slots, length-set rs k r);
      first = rw (old all_slot (omega arith)) m.first;
      second = rw (old exist_slot (omega arith)) m.second;
      asking = λ j x y. elim (ℕ_discrete j k) [ yes e ↦ rw (e, new) few | no ne ↦ rw (old j ne) (m.asking j x y) ];
      fine = λ j x y. elim (ℕ_discrete j k) [ yes e ↦ rw (e, new) o | no ne ↦ rw (old j ne) (m.fine j x y) ];
      flats = λ c x. rw (old (flat_slot + c) (omega arith)) (m.flats c x);
      records = λ j x y. rw (old j (omega arith)) (m.records j x y);
      fits = m.fits;
    }

-- what 16 counts, by stretches: the total of globals, the records, the totals' records and contexts, the open contexts
pub counted-split : (ps : List PartReq) → stack_slot ≤ length ps
    → counted ps
    ≡ entries (get_or ps globals_slot none)
    + (sum_from ps exprs_slot max_items
    + (sum_from ps totals_slot max_items + (sum_from ps functions_slot (4 * max_functions) + sum_from ps stack_slot (length ps - stack_slot))))
counted-split ps l =
    let e : length ps - globals_slot ≡ 1 + (max_items + (max_items + (4 * max_functions + (length ps - stack_slot)))) = omega arith in
    omega (
      arith,
      ap (λ (n : ℕ). sum_from ps globals_slot n) e,
      sum_split ps globals_slot 1 (max_items + (max_items + (4 * max_functions + (length ps - stack_slot)))),
      sum_split ps exprs_slot max_items (max_items + (4 * max_functions + (length ps - stack_slot))),
      sum_split ps totals_slot max_items (4 * max_functions + (length ps - stack_slot)),
      sum_split ps functions_slot (4 * max_functions) (length ps - stack_slot),
      sum_suc ps globals_slot 0,
      sum_none ps globals_slot,
    )

pub counted-set : (ps : List PartReq) (k : ℕ) (q : PartReq) → globals_slot ≤ k → k < length ps → counted (set ps k q) + entries (get_or ps k none) ≡ counted ps + entries q
counted-set ps k q l h =
    omega (
      arith,
      sum_set ps k q globals_slot (length ps - globals_slot) h l (omega arith),
      ap (λ (n : ℕ). sum_from (set ps k q) globals_slot (n - globals_slot)) (length-set ps k q),
    )
