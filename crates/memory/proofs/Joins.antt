-- What is asked of a variable, joined to its entry in a map: what each call asks, and what the map means afterwards. A global's total stands in its slot.
use Prim.Native.Nat.{ℕ, ◌+◌, ◌*◌, ◌<◌, ◌≤◌}
use native.Mathlib.Omega.{arith}
use native.Mathlib.Decide.{dec_lt}
use mathlib.Core.Path.{◌≡◌, refl, sym, ap, subst, ◌∙◌}
use mathlib.Core.List.{List}
use lib.ListN.{length, get_or}
use borrow.Author.Tests.{lt-ltb, le-ltb}
use Rattle.std.specs.Prelude.{Option, Some, None}
use Rattle.field.specs.Limits.{max_depth, max_pieces}
use Rattle.part.specs.PartReq.{PartReq, all, exist, none, more, Subpart, gone, there, get_subpart, entries, spine}
use Rattle.part.specs.Insert.{insert}
use Rattle.part.specs.Store.{top, part, Good, Kept, Room, Made}
use Rattle.part.specs.Found.{Got}
use Rattle.part.proofs.Sizes.{sum_small}
use Rattle.part.proofs.Making.{kept_trans}
use Rattle.context.specs.RequiredContext.{variable}
use Rattle.walk.specs.Expression.{joined}
use Rattle.memory.specs.Layout.{globals_slot}
use Rattle.memory.specs.Want.{asked}
use Rattle.memory.specs.Memory.{Putting, Noted, join_room, Joining, total_after, globals_after, Totalling, Totalled}
use Rattle.memory.specs.declared.want.Want.{Want}
use Rattle.memory.proofs.Slots.{slot_low, asked-small, kept_memory, above}
use Rattle.memory.proofs.Notes.{entries-single, noted_after}

-- `join_asked`
module _ {s rs : List ℕ} {n i : ℕ} {w : Want} (h : Joining s rs n i w) {t : List ℕ} {p : ℕ} (a : Made s t (asked s rs w) max_depth p) where
  map_is : part t n ≡ part s n
  map_is = a.kept.same n h.piece

  pub asked_join : Good t × ((((n < top t) × (p < top t)) × (i < spine)) × Room t (entries (part t n) + entries (part t p) + 1))
  asked_join = (
    a.kept.good,
    (
      ((omega (arith, h.piece, a.kept.tops), a.piece), h.index),
      omega (arith, h.roomy, h.few, a.cost, a.kept.long, ap entries map_is, ap entries a.is, asked-small h.memory w h.wants),
    ),
  )

  pub asked-joined : {u : List ℕ} {r : ℕ} → Made t u (joined (part t n) i (part t p)) (entries (part t n) + entries (part t p) + 1) r → Made s u (joined (part s n) i (asked s rs w)) join_room r
  asked-joined b = record {
    kept = kept_trans a.kept b.kept;
    piece = b.piece;
    is = b.is ∙ rw (map_is, a.is);
    cost = omega (arith, h.few, a.cost, b.cost, ap entries map_is, ap entries a.is, asked-small h.memory w h.wants);
  }

-- sizes
pub insert-small : (m : PartReq) (i : ℕ) (p : PartReq) → entries (insert m i p) ≤ 1 + (entries m + entries p)
unfolding insert entries
insert-small all i p = omega arith
insert-small exist i p = omega arith
insert-small none i p = omega arith
insert-small (more j q r) i p =
    elim (dec_lt j i) [
      | yes l ↦ rw (lt-ltb j i l) (omega (arith, insert-small r i p))
      | no l ↦
          elim (dec_lt i j) [
            | yes b ↦ rw (lt-ltb i j b, le-ltb j i (omega arith)) (omega arith)
            | no b ↦ rw (le-ltb j i (omega arith), le-ltb i j (omega arith)) (omega arith)
          ]
    ]

after_small : (o : Subpart) (q : PartReq) (g : ℕ) (p : PartReq) → entries (total_after o q g p) ≤ 1 + (entries q + entries p)
unfolding total_after
after_small gone q g p = insert-small q (variable g) p
after_small (there old) q g p = omega (arith, (sum_small q (more (variable g) p none)).few, entries-single (variable g) p)

after_gone : {o : Subpart} (q c : PartReq) (g : ℕ) (p : PartReq) → o ≡ gone → (total_after o q g p ≡ insert q (variable g) p) × (globals_after o c g p ≡ insert c (variable g) p)
unfolding total_after globals_after
after_gone q c g p e = rw e (refl, refl)

after_there : {o : Subpart} {old : PartReq} (q c : PartReq) (g : ℕ) (p : PartReq) → o ≡ there old → (total_after o q g p ≡ joined q g p) × (globals_after o c g p ≡ c)
unfolding total_after globals_after
after_there q c g p e = rw e (refl, refl)

pub got_gone : (s : List ℕ) (p : Subpart) {f : Option ℕ} → f ≡ None → Got s p f → p ≡ gone
got_gone s p e g = subst (λ f. Got s p f) e g

pub got_there : (s : List ℕ) (p : Subpart) {f : Option ℕ} {n : ℕ} → f ≡ Some n → Got s p f → (n < top s) × (p ≡ there (part s n))
got_there s p e g = subst (λ f. Got s p f) e g

-- `ask_global`: p is the piece of what w asks
module _ {s rs : List ℕ} {n g : ℕ} {w : Want} {sum : ℕ} (h : Totalling s rs n g w sum) {t : List ℕ} {p : ℕ} (a : Made s t (asked s rs w) max_depth p) where
  old_low : (globals_slot < length rs) × (get_or rs globals_slot 0 < top s)
  old_low = slot_low h.joining.memory globals_slot (omega arith)

  pub global_get : Good t × (get_or rs globals_slot 0 < top t)
  global_get = (a.kept.good, omega (arith, old_low.1, a.kept.tops))

  old_is : part t (get_or rs globals_slot 0) ≡ part s (get_or rs globals_slot 0)
  old_is = a.kept.same _ old_low.1

  asked_few : entries (asked s rs w) ≤ max_pieces + max_depth + 4
  asked_few = asked-small h.joining.memory w h.joining.wants

  -- the total stands in v as x, and the context's map as d
  module _ {v : List ℕ} (k : Kept s v) (c : top v ≤ top s + join_room) {x : ℕ} (lx : x < top v)
      (ex : part v x ≡ total_after (get_subpart (part s (get_or rs globals_slot 0)) (variable g)) (part s (get_or rs globals_slot 0)) g (asked s rs w)) where
    put_total : Putting v rs globals_slot x sum
    put_total = record {
      memory = kept_memory h.joining.memory k;
      piece = lx;
      low = omega arith;
      high = old_low.0;
      kind = λ l b. absurd (omega arith);
      old = omega (arith, h.old, ap entries (k.same _ old_low.1));
      few = omega (arith, h.few, above);
      new = omega (
        arith,
        ap entries ex,
        after_small (get_subpart (part s (get_or rs globals_slot 0)) (variable g)) (part s (get_or rs globals_slot 0)) g (asked s rs w),
        asked_few,
        h.old,
        h.few,
        above,
      );
    }

    totalled : {us : List ℕ} {d m : ℕ} → d < top v
        → part v d ≡ globals_after (get_subpart (part s (get_or rs globals_slot 0)) (variable g)) (part s n) g (asked s rs w)
        → Noted v rs globals_slot (part v x) sum 0 v us m → Totalled s rs n g (asked s rs w) sum v us d m
    totalled ld ed o = record { noted = noted_after join_room h.joining.memory old_low.0 k c (rw ex at o); piece = ld; is = ed }

  -- the first visit
  module _ {f : Option ℕ} (got : Got t (get_subpart (part t (get_or rs globals_slot 0)) (spine + g)) f) (is-gone : f ≡ None) where
    pub first_insert : Good t × (((n < top t) × (p < top t)) × Room t (1 + entries (part t n)))
    first_insert = (
      a.kept.good,
      (
        (omega (arith, h.joining.piece, a.kept.tops), a.piece),
        omega (arith, h.joining.roomy, h.joining.few, a.cost, a.kept.long, ap entries (a.kept.same n h.joining.piece)),
      ),
    )

    module _ {u : List ℕ} {d : ℕ} (b : Made t u (insert (part t n) (spine + g) (part t p)) (1 + entries (part t n)) d) where
      su : Kept s u
      su = kept_trans a.kept b.kept

      pub first_total : Good u × (((get_or rs globals_slot 0 < top u) × (p < top u)) × Room u (1 + entries (part u (get_or rs globals_slot 0))))
      first_total = (
        b.kept.good,
        (
          (omega (arith, old_low.1, su.tops), omega (arith, a.piece, b.kept.tops)),
          omega (
            arith,
            h.joining.roomy,
            h.joining.few,
            h.old,
            h.few,
            a.cost,
            b.cost,
            su.long,
            ap entries (a.kept.same n h.joining.piece),
            ap entries (su.same _ old_low.1),
          ),
        ),
      )

      module _ {v : List ℕ} {x : ℕ} (e : Made u v (insert (part u (get_or rs globals_slot 0)) (spine + g) (part u p)) (1 + entries (part u (get_or rs globals_slot 0))) x) where
        sv : Kept s v
        sv = kept_trans su e.kept

        was : get_subpart (part s (get_or rs globals_slot 0)) (variable g) ≡ gone
        was = rw old_is at (got_gone t (get_subpart (part t (get_or rs globals_slot 0)) (spine + g)) is-gone got)

        cost : top v ≤ top s + join_room
        cost = omega (
          arith,
          h.joining.few,
          h.old,
          h.few,
          a.cost,
          b.cost,
          e.cost,
          ap entries (a.kept.same n h.joining.piece),
          ap entries (su.same _ old_low.1),
        )

        total_is : part v x ≡ total_after (get_subpart (part s (get_or rs globals_slot 0)) (variable g)) (part s (get_or rs globals_slot 0)) g (asked s rs w)
        total_is =
            e.is ∙ rw (su.same _ old_low.1, b.kept.same p a.piece, a.is) (sym (after_gone (part s (get_or rs globals_slot 0)) (part s n) g (asked s rs w) was).0)

        pub first_put : Putting v rs globals_slot x sum
        first_put = put_total sv cost e.piece total_is

        pub first_totalled : {us : List ℕ} {m : ℕ} → Noted v rs globals_slot (part v x) sum 0 v us m → Totalled s rs n g (asked s rs w) sum v us d m
        first_totalled o =
            totalled sv cost e.piece total_is (omega (arith, b.piece, e.kept.tops))
            (e.kept.same d b.piece ∙ b.is ∙ rw (a.kept.same n h.joining.piece, a.is) (sym (after_gone (part s (get_or rs globals_slot 0)) (part s n) g (asked s rs w) was).1))
            o

  -- a later visit
  module _ {f : Option ℕ} {o : ℕ} (got : Got t (get_subpart (part t (get_or rs globals_slot 0)) (spine + g)) f) (is-there : f ≡ Some o) where
    pub later_join : Good t × ((((get_or rs globals_slot 0 < top t) × (p < top t)) × (g < spine)) × Room t (entries (part t (get_or rs globals_slot 0)) + entries (part t p) + 1))
    later_join = (
      a.kept.good,
      (
        ((omega (arith, old_low.1, a.kept.tops), a.piece), h.joining.index),
        omega (arith, h.joining.roomy, h.old, h.few, a.cost, a.kept.long, ap entries old_is, ap entries a.is, asked_few),
      ),
    )

    module _ {v : List ℕ} {x : ℕ} (e : Made t v (joined (part t (get_or rs globals_slot 0)) g (part t p)) (entries (part t (get_or rs globals_slot 0)) + entries (part t p) + 1) x) where
      sv' : Kept s v
      sv' = kept_trans a.kept e.kept

      was' : get_subpart (part s (get_or rs globals_slot 0)) (variable g) ≡ there (part t o)
      was' = rw old_is at (got_there t (get_subpart (part t (get_or rs globals_slot 0)) (spine + g)) is-there got).1

      cost' : top v ≤ top s + join_room
      cost' = omega (arith, h.old, h.few, a.cost, e.cost, ap entries old_is, ap entries a.is, asked_few)

      total_is' : part v x ≡ total_after (get_subpart (part s (get_or rs globals_slot 0)) (variable g)) (part s (get_or rs globals_slot 0)) g (asked s rs w)
      total_is' = e.is ∙ rw (old_is, a.is) (sym (after_there (part s (get_or rs globals_slot 0)) (part s n) g (asked s rs w) was').0)

      pub later_put : Putting v rs globals_slot x sum
      later_put = put_total sv' cost' e.piece total_is'

      pub later_totalled : {us : List ℕ} {m : ℕ} → Noted v rs globals_slot (part v x) sum 0 v us m → Totalled s rs n g (asked s rs w) sum v us n m
      later_totalled q =
          totalled sv' cost' e.piece total_is' (omega (arith, h.joining.piece, sv'.tops))
          (sv'.same n h.joining.piece ∙ sym (after_there (part s (get_or rs globals_slot 0)) (part s n) g (asked s rs w) was').1)
          q

-- what records and totals count for, after a global was asked: a bound for the record that follows
pub totalled_few : {s rs t us : List ℕ} {n g sum d m : ℕ} {w : Want} → Totalling s rs n g w sum → Totalled s rs n g (asked s rs w) sum t us d m → m ≤ 2 * max_pieces + max_depth + 5
totalled_few {s} {rs} {t} {us} {n} {g} {sum} {d} {m} {w} h x =
    omega (
      arith,
      x.noted.sums,
      after_small (get_subpart (part s (get_or rs globals_slot 0)) (variable g)) (part s (get_or rs globals_slot 0)) g (asked s rs w),
      asked-small h.joining.memory w h.joining.wants,
      h.few,
    )
