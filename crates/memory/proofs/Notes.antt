-- A memory that is made anew, and the record of what is asked: what each call asks, and what the slots mean and count for afterwards.
use Prim.Native.Nat.{ℕ, zero, suc, ◌+◌, ◌-◌, ◌*◌, ◌<◌, ◌≤◌, min}
use native.Mathlib.Omega.{arith}
use native.Mathlib.Numerals.{add-one}
use native.Mathlib.Decide.{dec_lt}
use mathlib.Core.Path.{◌≡◌, refl, sym, ap, ◌∙◌}
use mathlib.Core.Bool.{Bool, true, false, ◌&&◌}
use mathlib.Core.List.{List, [], ◌∷◌}
use lib.Dec.{eqb}
use lib.ListN.{length, get_or, set, length-set, replicate, get_or-replicate}
use lib.Seq.{get_or-set_same, get_or-set_other}
use Rattle.field.specs.Limits.{max_depth}
use Rattle.part.specs.PartReq.{PartReq, none, more, entries, over}
use Rattle.part.specs.Store.{top, part, Good, Kept, Made, Seen}
use Rattle.part.specs.Count.{same}
use Rattle.part.specs.StoreLimits.{entries_cap}
use Rattle.part.proofs.Pieces.{part-0, part-1, part-2}
use Rattle.part.proofs.Making.{kept_trans}
use Rattle.part.proofs.Write.{kept_self}
use Rattle.part.proofs.Counting.{same_is, same-pieces}
use Rattle.memory.specs.Layout.{flat_slot, flat_count, globals_slot, stack_slot, store_size}
use Rattle.memory.specs.Want.{asked}
use Rattle.memory.specs.Memory.{read, sum_from, Recorded, missing, present, Memory, Filled, Flats, Empty, Putting, Noting, Noted}
use Rattle.memory.specs.declared.want.Want.{Want}
use Rattle.memory.proofs.Slots.{read_at, read-long, kept_read, sum_suc, sum_split, asked-small, kept_memory, set-memory, set-read, above}

-- every slot has the empty part
pub all_filled : {us : List ℕ} {n : ℕ} → us ≡ replicate n 2 → Filled us n
all_filled {us} {n} e = record { with_none = λ k h. rw e (get_or-replicate {A = ℕ} n k 2 0 h) }

-- `init_memory`
module _ {s rs t us : List ℕ} {n : ℕ} (g : Good s) (none-used : top s ≡ 3) (big : store_size ≤ length s) (f : Filled rs n) (all-filled : length rs ≡ n) (long : stack_slot ≤ n)
    (x : Flats s (set (set rs 0 0) 1 1) t us flat_count) where
  lengths : length us ≡ length rs
  lengths = x.long ∙ length-set (set rs 0 0) 1 1 ∙ length-set rs 0 0

  filled : (k : ℕ) → k < length rs → (k ≡ 0 → ⊥) → (k ≡ 1 → ⊥) → get_or (set (set rs 0 0) 1 1) k 0 ≡ 2
  filled k h a b = get_or-set_other (set rs 0 0) 1 k 1 0 b ∙ get_or-set_other rs 0 k 0 0 a ∙ f.with_none k (omega arith)

  at_all : get_or us 0 0 ≡ 0
  at_all = let l : 0 < length rs = omega arith in x.before 0 (omega arith) ∙ get_or-set_other (set rs 0 0) 1 0 1 0 (omega arith) ∙ get_or-set_same rs 0 0 0 l

  at_exist : get_or us 1 0 ≡ 1
  at_exist = let l : 1 < length (set rs 0 0) = omega (arith, length-set rs 0 0) in x.before 1 (omega arith) ∙ get_or-set_same (set rs 0 0) 1 1 0 l

  at_low : (k : ℕ) → 2 ≤ k → k < flat_slot → get_or us k 0 ≡ 2
  at_low k a b = x.before k b ∙ filled k (omega arith) (omega arith) (omega arith)

  at_high : (k : ℕ) → globals_slot ≤ k → k < length rs → get_or us k 0 ≡ 2
  at_high k a b = x.behind k a ∙ filled k b (omega arith) (omega arith)

  pub emptied : Empty t us
  emptied = record {
    memory = record {
      good = x.kept.good;
      below = λ k h.
          elim (dec_lt k flat_slot) [
            | yes l ↦ low k l
            | no l ↦
                elim (dec_lt k globals_slot) [
                  | yes b ↦
                      let e : flat_slot + (k - flat_slot) ≡ k = omega arith in
                      rw e at (x.made (k - flat_slot) (omega arith)).0
                  | no b ↦ rw (at_high k (omega arith) (omega (arith, lengths))) (omega (arith, x.kept.good.base))
                ]
          ];
      slots = omega (arith, lengths);
      first = rw at_all (part-0 t);
      second = rw at_exist (part-1 t);
      asking = λ k a b. rw (at_low k (omega arith) (omega arith), part-2) (unfold entries in omega arith);
      fine = λ k a b. rw (at_low k (omega arith) (omega arith), part-2) (unfold over in refl);
      flats = λ c h. (x.made c h).1;
      records = λ k a b. rw (at_high k (omega arith) (omega arith), part-2) missing;
      fits = omega (arith, x.kept.long);
    };
    none_asked = λ k a b. rw (at_low k (omega arith) (omega arith)) (part-2 t);
    none_counted = λ k a b. rw (at_high k a (omega (arith, lengths))) (part-2 t);
    few = omega (arith, x.cost);
    roomy = omega (arith, x.cost, x.kept.long);
  }
    where
      low : (k : ℕ) → k < flat_slot → get_or us k 0 < top t
      low zero l = rw at_all (omega (arith, x.kept.good.base))
      low (suc zero) l = rw at_exist (omega (arith, x.kept.good.base))
      low (suc (suc k)) l = rw (at_low (suc (suc k)) (omega arith) l) (omega (arith, x.kept.good.base))

-- `weigh`
module _ {s rs : List ℕ} (m : Memory s rs) (a n : ℕ) (h : a + n ≤ length rs) where
  pub sum_grows : (k : ℕ) → k ≤ n → sum_from (read s rs) a k ≤ sum_from (read s rs) a n
  sum_grows k l = let e : n ≡ k + (n - k) = omega arith in rw e (omega (arith, sum_split (read s rs) a k (n - k)))

  pub weigh_more : (k e sum : ℕ) → sum_from (read s rs) a n ≤ entries_cap → k < n → sum ≡ sum_from (read s rs) a k → e ≡ min entries_cap (entries (part s (get_or rs (a + k) 0)))
      → sum + e ≡ sum_from (read s rs) a (k + 1)
  weigh_more k e sum few l is ie =
      rw add-one
      (omega (arith, sum_suc (read s rs) a k, ap entries (read_at s rs (a + k) (omega arith)), sum_grows (suc k) (omega arith)))

-- `put`
module _ {s rs : List ℕ} {at r sum : ℕ} (h : Putting s rs at r sum) where
  module _ {less new : ℕ} (el : less ≡ min entries_cap (entries (part s (get_or rs at 0)))) (en : new ≡ min entries_cap (entries (part s r))) where
    less-is : less ≡ entries (part s (get_or rs at 0))
    less-is = omega (arith, el, h.old, h.few)

    new_is : new ≡ entries (part s r)
    new_is = omega (arith, en, h.new)

    pub put_sub : less ≤ sum
    put_sub = omega (arith, less-is, h.old)

    pub put_sum : sum - less + new ≤ 2 * entries_cap
    put_sum = omega (arith, new_is, h.new, h.few)

    pub put_noted : Noted s rs at (part s r) sum 0 s (set rs at r) (sum - less + new)
    put_noted =
        let k = kept_self h.memory.good in
        record {
          memory = set-memory h.memory k h.piece h.low h.high h.kind;
          kept = k;
          reads = set-read rs at r k h.memory.below refl;
          long = length-set rs at r;
          sums = omega (arith, less-is, new_is, put_sub);
          spent = omega arith;
        }

-- a store into a slot, after more was made
pub noted_after : {s t rs us : List ℕ} {at sum m : ℕ} {q : PartReq} (cost : ℕ) → Memory s rs → at < length rs → Kept s t → top t ≤ top s + cost → Noted t rs at q sum 0 t us m
    → Noted s rs at q sum cost t us m
noted_after {s} {t} {rs} {us} {at} {sum} {m} {q} cost v l k c n = record {
  memory = n.memory;
  kept = k;
  reads = n.reads ∙ ap (λ (ps : List PartReq). set ps at q) (kept_read rs k v.below);
  long = n.long;
  sums = omega (arith, n.sums, ap entries (k.same _ (v.below at l)));
  spent = c;
}

-- `is_record`
record_first : {q : PartReq} {j : ℕ} {p r : PartReq} → Recorded q → q ≡ more j p r → (j ≡ 0) × (r ≡ none)
record_first missing e = let z : ◌≡◌ {A = ℕ} 0 1 = cc in absurd (omega arith)
record_first (present p) e = (cc, cc)

and-true : (b : Bool) → b && true ≡ b
and-true true = refl
and-true false = refl

pub record_none : (s : List ℕ) (n p : ℕ) → n < 3 → false ≡ same (part s n) (more 0 (part s p) none)
unfolding same
record_none s zero p h = rw part-0
record_none s (suc zero) p h = rw part-1
record_none s (suc (suc zero)) p h = rw part-2
record_none s (suc (suc (suc n))) p h = absurd (omega arith)

pub record_cell : {s : List ℕ} {n j c r p : ℕ} → Good s → ((n < top s) × (p < top s)) × Recorded (part s n) → Seen s n j c r → eqb c p ≡ same (part s n) (more 0 (part s p) none)
unfolding same
record_cell {s} {n} {j} {c} {r} {p} g h x =
    let a = record_first h.1 x.is in
    let l : c < top s = omega (arith, x.child_low) in
    same-pieces g c p l h.0.1 ∙ rw (x.is, a.0, a.1) (sym (and-true (same (part s c) (part s p))))

-- `note`
set_there : (ps : List PartReq) (k : ℕ) (q : PartReq) → k < length ps → get_or ps k none ≡ q → set ps k q ≡ ps
set_there [] k q l e = absurd (omega arith)
set_there (p ∷ ps) zero q l e = rw e
set_there (p ∷ ps) (suc k) q l e = ap (λ (qs : List PartReq). p ∷ qs) (set_there ps k q (omega arith) e)

pub entries-single : (i : ℕ) (p : PartReq) → entries (more i p none) ≡ 1 + entries p
unfolding entries
entries-single i p = omega arith

module _ {s rs : List ℕ} {at : ℕ} {w : Want} {sum : ℕ} (h : Noting s rs at w sum) {t : List ℕ} {p : ℕ} (a : Made s t (asked s rs w) max_depth p) where
  pub note_inside : at < length rs
  note_inside = omega (arith, h.high, h.memory.slots)

  old_kept : part t (get_or rs at 0) ≡ part s (get_or rs at 0)
  old_kept = a.kept.same _ (h.memory.below at note_inside)

  -- the record is there already
  pub note_again : same (part t (get_or rs at 0)) (more 0 (part t p) none) ≡ true → Noted s rs at (more 0 (asked s rs w) none) sum (max_depth + 1) t rs sum
  note_again e =
      let is : part t (get_or rs at 0) ≡ more 0 (asked s rs w) none = same_is _ _ e ∙ rw a.is in
      let l : at < length (read t rs) = omega (arith, note_inside, read-long t rs) in
      let there : get_or (read t rs) at none ≡ more 0 (asked s rs w) none = read_at t rs at note_inside ∙ is in
      record {
        memory = kept_memory h.memory a.kept;
        kept = a.kept;
        reads = sym (set_there (read t rs) at _ l there) ∙ ap (λ (ps : List PartReq). set ps at (more 0 (asked s rs w) none)) (kept_read rs a.kept h.memory.below);
        long = refl;
        sums = omega (arith, ap entries (sym old_kept ∙ is));
        spent = omega (arith, a.cost);
      }

  module _ {u : List ℕ} {r : ℕ} (b : Made t u (more 0 (part t p) (part t 2)) 1 r) where
    su : Kept s u
    su = kept_trans a.kept b.kept

    record_is : part u r ≡ more 0 (asked s rs w) none
    record_is = b.is ∙ rw (a.is, part-2)

    pub note_put : Putting u rs at r sum
    note_put = record {
      memory = kept_memory h.memory su;
      piece = b.piece;
      low = omega (arith, h.low);
      high = note_inside;
      kind = λ x y. rw record_is (present (asked s rs w));
      old = omega (arith, h.old, ap entries (su.same _ (h.memory.below at note_inside)));
      few = h.few;
      new = omega (arith, ap entries record_is, entries-single 0 (asked s rs w), asked-small h.memory w h.wants, above);
    }

    pub note_noted : {us : List ℕ} {m : ℕ} → Noted u rs at (part u r) sum 0 u us m → Noted s rs at (more 0 (asked s rs w) none) sum (max_depth + 1) u us m
    note_noted n = noted_after (max_depth + 1) h.memory note_inside su (omega (arith, a.cost, b.cost)) (rw record_is at n)
