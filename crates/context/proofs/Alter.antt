-- An entry of a map with something taken out: by which index is lower, what a call asks and what follows from what the calls have left; and how
-- many entries there are then.
use Prim.Native.Nat.{ℕ, ◌+◌, ◌<◌, ◌≤◌}
use native.Mathlib.Omega.{arith}
use mathlib.Core.Path.{◌≡◌, refl, sym}
use mathlib.Core.List.{List}
use mathlib.Core.Option.{some}
use borrow.Author.Tests.{lt-ltb, le-ltb}
use Rattle.part.specs.PartReq.{PartReq, all, exist, none, more, entries, width}
use Rattle.part.specs.Store.{part, Made, Seen}
use Rattle.part.proofs.Equations.{way, before, after, at}
use Rattle.part.proofs.Making.{RemakeAsked}
use Rattle.part.proofs.Write.{holds_on}
use Rattle.module.specs.Module.{TypeHandle, TypeInner}
use Rattle.context.specs.Remove.{Removed, left, ◌>>=◌, remove}
use Rattle.context.specs.RequiredContext.{alter}
use Rattle.context.specs.Reduced.{Took, remove_room}
use Rattle.std.specs.Prelude.{Option as Maybe, Some, None}
use Rattle.context.proofs.Removal.{left_then}
use Rattle.context.proofs.Removal as removal
use Rattle.context.proofs.Taking.{made_as}
use Rattle.context.proofs.Cycle.{took_left, took_stays, panics_on, goes_on, RemoveAsked, low_width}

module _ (i j : ℕ) (f : PartReq → Removed) (p r : PartReq) where
  pub alter-behind : j < i → alter i f (more j p r) ≡ (alter i f r >>= λ rest. left (more j p rest))
  unfolding alter
  alter-behind h = simp (lt-ltb j i h)

  pub alter_passed : i < j → alter i f (more j p r) ≡ left (more j p r)
  unfolding alter
  alter_passed h = let z : i ≤ j = omega arith in simp (le-ltb j i z, lt-ltb i j h)

  pub alter_at : j ≡ i → alter i f (more j p r) ≡ (f p >>= λ reduced. left (more j reduced r))
  unfolding alter
  alter_at e =
      let h : i ≤ j = omega arith in
      let l : j ≤ i = omega arith in
      simp (le-ltb j i h, le-ltb i j l)

-- what is no list is left as it is
alter-plain : (i : ℕ) (f : PartReq → Removed) (p : PartReq) → width p ≡ 0 → left p ≡ alter i f p
unfolding alter width
alter-plain i f all h = refl
alter-plain i f exist h = refl
alter-plain i f none h = refl
alter-plain i f (more j p r) h = absurd (omega arith)

-- what is asked further on, and of the entry
module _ {s : List ℕ} {m q j c a : ℕ} (P : RemoveAsked s m q) (x : Seen s m j c a) where
  pub rest_asks : {z : ℕ} → m ≡ z → (a < z) × RemoveAsked s a q
  rest_asks e = (omega arith, (P.0, ((omega arith, omega arith), omega arith)))

  pub entry-asks : RemoveAsked s c q
  entry-asks = (P.0, ((omega arith, omega arith), omega arith))

module _ {s : List ℕ} (types : List TypeInner) (i : ℕ) (ty : TypeHandle) {m q : ℕ} (P : RemoveAsked s m q) where
  abbrev taking : PartReq → Removed
  taking p = remove types p (part s q) (some ty)

  abbrev altered : Removed
  altered = alter i taking (part s m)

  abbrev room : ℕ
  room = remove_room (part s m) (part s q)

  pub plain_done : m < 3 → Took s s altered room (Some m)
  plain_done h = took_stays P.0 P.1.0.0 (alter-plain i taking (part s m) (low_width s m h))

  module _ {j c a : ℕ} (x : Seen s m j c a) where
    -- the entry is not there
    pub gone_done : i < j → Took s s altered room (Some m)
    gone_done h = took_stays P.0 P.1.0.0 (rw x.is (sym (alter_passed i j taking _ _ h)))

    -- it is further on
    module _ {t : List ℕ} {r : Maybe ℕ} (h : j < i) (w : Took s t (alter i taking (part s a)) (remove_room (part s a) (part s q)) r) where
      further : altered ≡ (alter i taking (part s a) >>= λ z. left (more j (part s c) z))
      further = rw x.is (alter-behind i j taking _ _ h)

      pub rest_panics : r ≡ None → Took s t altered room None
      rest_panics e = panics_on (λ z. left (more j (part s c) z)) w e further (omega arith)

      pub rest_remake : {n : ℕ} → r ≡ Some n → RemakeAsked t m j c a c n
      rest_remake e = (w.kept.good, (omega (arith, w.cost, w.kept.long), ((omega arith, (took_left w e).0), holds_on x P.1.0.0 w.kept)))

      pub rest_done : {u : List ℕ} {n l : ℕ} → r ≡ Some n → Made t u (more j (part t c) (part t n)) 1 l → Took s u altered room (Some l)
      rest_done e o = goes_on (λ z. more j (part s c) z) w e further (made_as {l = 1} o (rw (w.kept.same c (omega arith))) (omega arith)) (omega arith)

    -- it is this one
    module _ {t : List ℕ} {r : Maybe ℕ} (h : j ≡ i) (w : Took s t (taking (part s c)) (remove_room (part s c) (part s q)) r) where
      here : altered ≡ (taking (part s c) >>= λ z. left (more j z (part s a)))
      here = rw x.is (alter_at i j taking _ _ h)

      pub entry_panics : r ≡ None → Took s t altered room None
      entry_panics e = panics_on (λ z. left (more j z (part s a))) w e here (omega arith)

      pub entry_remake : {n : ℕ} → r ≡ Some n → RemakeAsked t m j c a n a
      entry_remake e = (w.kept.good, (omega (arith, w.cost, w.kept.long), (((took_left w e).0, omega arith), holds_on x P.1.0.0 w.kept)))

      pub entry_done : {u : List ℕ} {n l : ℕ} → r ≡ Some n → Made t u (more j (part t n) (part t a)) 1 l → Took s u altered room (Some l)
      entry_done e o = goes_on (λ z. more j z (part s a)) w e here (made_as {l = 1} o (rw (w.kept.same a (omega arith))) (omega arith)) (omega arith)

-- where f leaves at most k entries more than there were
module _ (i k : ℕ) (f : PartReq → Removed) (F : (p : PartReq) → removal.Left (λ r. entries r ≤ entries p + k) (f p)) where
  pub entries-altered : (m : PartReq) → removal.Left (λ r. entries r ≤ entries m + k) (alter i f m)
  entries-altered all = unfold alter in omega arith
  entries-altered exist = unfold alter in omega arith
  entries-altered none = unfold alter in omega arith
  entries-altered (more j p r) =
      let ih = entries-altered r in
      elim (way j i) [
        | before h ↦
            rw (alter-behind i j f p r h)
            (left_then (λ x. entries x ≤ entries r + k) (λ x. entries x ≤ entries (more j p r) + k) (alter i f r) _ ih (λ x l. unfold entries in omega arith))
        | after h ↦ rw (alter_passed i j f p r h) (unfold entries in omega arith)
        | at e ↦
            rw (alter_at i j f p r e)
            (left_then (λ x. entries x ≤ entries p + k) (λ x. entries x ≤ entries (more j p r) + k) (f p) _ (F p) (λ x l. unfold entries in omega arith))
      ]
