-- `remove` and the taking out of entries, by the two first entries: what a call asks, and what follows from what the calls have left.
use Prim.Native.Nat.{ℕ, zero, suc, ◌+◌, ◌*◌, ◌<◌, ◌≤◌}
use native.Mathlib.Omega.{arith}
use mathlib.Core.Path.{◌≡◌, refl, sym, ap, subst, ◌∙◌}
use mathlib.Core.Bool.{false}
use mathlib.Core.List.{List}
use mathlib.Core.Option.{Option, some, none as nothing}
use Rattle.part.specs.PartReq.{PartReq, all, exist, none, more, is_all, is_exist, entries, width}
use Rattle.part.specs.StoreLimits.{store_words}
use Rattle.part.specs.Store.{top, part, Good, Kept, Room, Made, Seen}
use Rattle.part.proofs.Pieces.{part-0, part-1, part-2, not_all, not_exist}
use Rattle.part.proofs.Equations.{never}
use Rattle.part.proofs.Making.{kept_trans, RemakeAsked}
use Rattle.part.proofs.Write.{kept_self, holds_on}
use Rattle.module.specs.Module.{TypeHandle, TypeInner, Member}
use Rattle.module.specs.declared.handles.TypeHandle.{TypeHandle as Handle}
use Rattle.context.specs.Remove.{Removed, left, panic, ◌>>=◌, member_at, at_member, at_subtype, split, subtypes_of, take_out, take_entry, take_entries, remove}
use Rattle.context.specs.Types.{AllSized, split_most}
use Rattle.context.specs.Reduced.{typed, member_type, subtype_at, subtyped, reduced, Stored, Took, entries_room, remove_room}
use Rattle.std.specs.Prelude.{Option as Maybe, Some, None}
use Rattle.context.proofs.Removal.{entry_lt, entry_gt, entry_eq, Splits}
use Rattle.context.proofs.Types.{sized_splits}
use Rattle.context.proofs.Taking.{made_as}

-- the definition, by the two first entries
module _ (types : List TypeInner) (ms : Option (List Member)) (i j : ℕ) (p q r s : PartReq) where
  take_lt : i < j → take_entries types (more j q s) ms (more i p r) ≡ (take_entries types (more j q s) ms r >>= λ x. left (more i p x))
  unfolding take_entries
  take_lt h = entry_lt j _ _ ms i p r h

  take_gt : j < i → take_entries types (more j q s) ms (more i p r) ≡ take_entries types s ms (more i p r)
  unfolding take_entries
  take_gt h = entry_gt j _ _ ms i p r h

  take_eq : i ≡ j → take_entries types (more j q s) ms (more i p r)
      ≡ (at_subtype ms i (λ t. remove types p q t) >>= λ x. take_entries types s ms r >>= λ y. left (more i x y))
  unfolding take_entries remove
  take_eq e = entry_eq j _ _ ms i p r e

-- the type of the subpart, as it was found
at-member : (m t : Option TypeHandle) (f : Option TypeHandle → Removed) → member_type m ≡ some t → at_member m f ≡ f t
unfolding at_member
at-member nothing t f e = let z : ◌≡◌ {A = ℕ} 0 1 = cc in absurd (omega arith)
at-member (some h) t f e = let z : some h ≡ t = cc in ap f z

at-subtype : (ms : Option (List Member)) (i : ℕ) (t : Option TypeHandle) (f : Option TypeHandle → Removed) → some t ≡ subtype_at ms i → at_subtype ms i f ≡ f t
unfolding at_subtype
at-subtype nothing i t f e = let z : nothing ≡ t = cc in ap f z
at-subtype (some members) i t f e = at-member (member_at members i) t f (sym e)

no_member : (m : Option TypeHandle) (f : Option TypeHandle → Removed) → member_type m ≡ nothing → at_member m f ≡ panic
unfolding at_member
no_member nothing f e = refl
no_member (some h) f e = let z : ◌≡◌ {A = ℕ} 0 1 = cc in absurd (omega arith)

no_subtype : (ms : Option (List Member)) (i : ℕ) (f : Option TypeHandle → Removed) → nothing ≡ subtype_at ms i → at_subtype ms i f ≡ panic
unfolding at_subtype
no_subtype nothing i f e = let z : ◌≡◌ {A = ℕ} 0 1 = cc in absurd (omega arith)
no_subtype (some members) i f e = no_member (member_at members i) f (sym e)

-- an answer, by its case
pub took_left : {s t : List ℕ} {d : Removed} {k n : ℕ} {r : Maybe ℕ} → Took s t d k r → r ≡ Some n → (n < top t) × (left (part t n) ≡ d)
took_left {s} {t} {d} m e = (subst (Stored t) e m.piece, subst (λ z. reduced t z ≡ d) e m.is)

pub took_panic : {s t : List ℕ} {d : Removed} {k : ℕ} {r : Maybe ℕ} → Took s t d k r → r ≡ None → panic ≡ d
took_panic {s} {t} {d} m e = subst (λ z. reduced t z ≡ d) e m.is

-- the piece was there
pub took_stays : {s : List ℕ} {d : Removed} {k n : ℕ} → Good s → n < top s → left (part s n) ≡ d → Took s s d k (Some n)
took_stays g h e = record { kept = kept_self g; piece = h; is = e; cost = omega arith }

-- `whole` goes on from d: a panic stays, and of what was left its own is made
pub panics_on : {s t : List ℕ} {d whole : Removed} (f : PartReq → Removed) {k l : ℕ} {r : Maybe ℕ} → Took s t d k r → r ≡ None → whole ≡ (d >>= f) → k ≤ l
    → Took s t whole l None
panics_on f m e w h = record { kept = m.kept; piece = tt; is = sym (w ∙ rw (← took_panic m e)); cost = omega (arith, m.cost) }

pub goes_on : {s t u : List ℕ} {d whole : Removed} (f : PartReq → PartReq) {k l j n x : ℕ} {r : Maybe ℕ} → Took s t d k r → r ≡ Some n
    → whole ≡ (d >>= λ z. left (f z)) → Made t u (f (part t n)) j x → k + j ≤ l → Took s u whole l (Some x)
goes_on f m e w o h = record {
  kept = kept_trans m.kept o.kept;
  piece = o.piece;
  is = ap left o.is ∙ sym (w ∙ rw (← (took_left m e).1));
  cost = omega (arith, m.cost, o.cost);
}

-- what taking q out of p, and the entries of q out of those of p, asks
abbrev pub Asked : List ℕ → ℕ → ℕ → Type 0
Asked s p q = Good s × (((p < top s) × (q < top s)) × Room s (entries_room (part s p) (part s q)))

abbrev pub RemoveAsked : List ℕ → ℕ → ℕ → Type 0
RemoveAsked s p q = Good s × (((p < top s) × (q < top s)) × Room s (remove_room (part s p) (part s q)))

-- the numbers that fall: q first, then whether p is still to be split, then p
abbrev pub entries_measure : ℕ → ℕ → ℕ
entries_measure p q = 2 * store_words * q + p

abbrev pub remove_measure : ℕ → ℕ
remove_measure q = 2 * store_words * q + store_words

pub entries-kept : {s t : List ℕ} → Kept s t → (n : ℕ) → n < top s → entries (part t n) ≡ entries (part s n)
entries-kept k n h = ap entries (k.same n h)

-- what the next call asks: where q's first entry is not in p, where p's is not in q, and where both have it
module _ {s : List ℕ} {p q i j c d a b : ℕ} (P : Asked s p q) (x : Seen s p i c a) (y : Seen s q j d b) where
  pub call_gt : {z : ℕ} → entries_measure p q ≡ z → (entries_measure p b < z) × Asked s p b
  call_gt e = (omega arith, (P.0, ((omega arith, omega arith), omega arith)))

  pub call_lt : {z : ℕ} → entries_measure p q ≡ z → (entries_measure a q < z) × Asked s a q
  call_lt e = (omega arith, (P.0, ((omega arith, omega arith), omega arith)))

  pub call_eq : i ≡ j → {z : ℕ} → entries_measure p q ≡ z → (remove_measure d < z) × RemoveAsked s c d
  call_eq h e = (omega arith, (P.0, ((omega arith, omega arith), omega arith)))

module _ {s : List ℕ} (types : List TypeInner) (owner : Maybe Handle) {p q i j c d a b : ℕ} (P : Asked s p q) (x : Seen s p i c a) (y : Seen s q j d b) where
  abbrev members : Option (List Member)
  members = subtypes_of types (typed owner)

  abbrev whole : Removed
  whole = take_entries types (part s q) members (part s p)

  abbrev room : ℕ
  room = entries_room (part s p) (part s q)

  -- q's first entry is not in p
  pub done_gt : {t : List ℕ} {r : Maybe ℕ} → j < i → Took s t (take_entries types (part s b) members (part s p)) (entries_room (part s p) (part s b)) r → Took s t whole room r
  done_gt h m = record {
    kept = m.kept;
    piece = m.piece;
    is = m.is ∙ rw (x.is, y.is) (sym (take_gt types members i j _ _ _ _ h));
    cost = omega (arith, m.cost);
  }

  -- p's first entry is not in q
  module _ {t : List ℕ} {r : Maybe ℕ} (h : i < j) (m : Took s t (take_entries types (part s q) members (part s a)) (entries_room (part s a) (part s q)) r) where
    whole-lt : whole ≡ (take_entries types (part s q) members (part s a) >>= λ z. left (more i (part s c) z))
    whole-lt = rw (x.is, y.is) (take_lt types members i j _ _ _ _ h)

    pub panic_lt : r ≡ None → Took s t whole room None
    panic_lt e = panics_on (λ z. left (more i (part s c) z)) m e whole-lt (omega arith)

    pub make_lt : {n : ℕ} → r ≡ Some n → RemakeAsked t p i c a c n
    make_lt e = (m.kept.good, (omega (arith, m.cost, m.kept.long), ((omega arith, (took_left m e).0), holds_on x P.1.0.0 m.kept)))

    pub done_lt : {u : List ℕ} {n l : ℕ} → r ≡ Some n → Made t u (more i (part t c) (part t n)) 1 l → Took s u whole room (Some l)
    done_lt e o = goes_on (λ z. more i (part s c) z) m e whole-lt (made_as {l = 1} o (rw (m.kept.same c (omega arith))) (omega arith)) (omega arith)

  -- both have the entry
  module _ (h : i ≡ j) where
    whole-eq : whole ≡ (at_subtype members i (λ z. remove types (part s c) (part s d) z) >>= λ v. take_entries types (part s b) members (part s a) >>= λ w. left (more i v w))
    whole-eq = rw (x.is, y.is) (take_eq types members i j _ _ _ _ h)

    pub gone_eq : {f : Maybe (Maybe Handle)} → f ≡ None → subtyped f ≡ subtype_at members i → Took s s whole room None
    gone_eq {f} e g = record {
      kept = kept_self P.0;
      piece = tt;
      is = sym (whole-eq ∙ rw (no_subtype members i (λ z. remove types (part s c) (part s d) z) (rw e at g)));
      cost = omega arith;
    }

    module _ {f : Maybe (Maybe Handle)} {u : Maybe Handle} (e : f ≡ Some u) (g : subtyped f ≡ subtype_at members i) {t : List ℕ} {r : Maybe ℕ}
        (m : Took s t (remove types (part s c) (part s d) (typed u)) (remove_room (part s c) (part s d)) r) where
      whole-child : whole ≡ (remove types (part s c) (part s d) (typed u) >>= λ v. take_entries types (part s b) members (part s a) >>= λ w. left (more i v w))
      whole-child = whole-eq ∙ rw (at-subtype members i (typed u) (λ z. remove types (part s c) (part s d) z) (rw e at g))

      pub panic_child : r ≡ None → Took s t whole room None
      panic_child o = panics_on (λ v. take_entries types (part s b) members (part s a) >>= λ w. left (more i v w)) m o whole-child (omega arith)

      pub call_rest : {z : ℕ} → entries_measure p q ≡ z → (entries_measure a b < z) × Asked t a b
      call_rest o =
          let k = entries-kept m.kept a (omega arith) in
          let l = entries-kept m.kept b (omega arith) in
          (omega arith, (m.kept.good, ((omega arith, omega arith), omega (arith, m.cost, m.kept.long))))

      module _ {n : ℕ} (w : r ≡ Some n) {v : List ℕ} {o : Maybe ℕ}
          (l : Took t v (take_entries types (part t b) members (part t a)) (entries_room (part t a) (part t b)) o) where
        whole-rest : whole ≡ (take_entries types (part t b) members (part t a) >>= λ z. left (more i (part t n) z))
        whole-rest = whole-child ∙ rw (← (took_left m w).1, m.kept.same a (omega arith), m.kept.same b (omega arith))

        spent : top v + 1 ≤ top s + room
        spent =
            let k = entries-kept m.kept a (omega arith) in
            let f = entries-kept m.kept b (omega arith) in
            omega (arith, m.cost, l.cost)

        pub panic_rest : o ≡ None → Took s v whole room None
        panic_rest z = record { kept = kept_trans m.kept l.kept; piece = tt; is = sym (whole-rest ∙ rw (← took_panic l z)); cost = omega (arith, spent) }

        pub make_rest : {k : ℕ} → o ≡ Some k → RemakeAsked v p i c a n k
        make_rest f =
            let kept = kept_trans m.kept l.kept in (
              l.kept.good,
              (
                omega (arith, spent, kept.long),
                ((omega (arith, (took_left m w).0, l.kept.tops), (took_left l f).0), holds_on x P.1.0.0 kept),
              ),
            )

        pub done_rest : {k g : ℕ} {z : List ℕ} → o ≡ Some k → Made v z (more i (part v n) (part v k)) 1 g → Took s z whole room (Some g)
        done_rest {k} {g} {z} f made =
            let now : part z g ≡ more i (part t n) (part v k) = made.is ∙ rw (l.kept.same n (took_left m w).0) in
            record {
              kept = kept_trans m.kept (kept_trans l.kept made.kept);
              piece = made.piece;
              is = ap left now ∙ sym (whole-rest ∙ rw (← (took_left l f).1));
              cost = omega (arith, spent, made.cost);
            }

-- what is no list is left as it is, and by what is no list nothing is taken out
by_low : (types : List TypeInner) (ms : Option (List Member)) (s : List ℕ) (q : ℕ) (p : PartReq) → q < 3 → left p ≡ take_entries types (part s q) ms p
by_low types ms s zero p h = rw part-0 (unfold take_entries in refl)
by_low types ms s (suc zero) p h = rw part-1 (unfold take_entries in refl)
by_low types ms s (suc (suc zero)) p h = rw part-2 (unfold take_entries in refl)
by_low types ms s (suc (suc (suc q))) p h = absurd (omega arith)

of_plain : (types : List TypeInner) (ms : Option (List Member)) (q p : PartReq) → width p ≡ 0 → left p ≡ take_entries types q ms p
unfolding take_entries take_entry width
of_plain types ms all p h = refl
of_plain types ms exist p h = refl
of_plain types ms none p h = refl
of_plain types ms (more j q s) all h = refl
of_plain types ms (more j q s) exist h = refl
of_plain types ms (more j q s) none h = refl
of_plain types ms (more j q s) (more i p r) h = absurd (omega arith)

pub low_width : (s : List ℕ) (p : ℕ) → p < 3 → width (part s p) ≡ 0
unfolding width
low_width s zero h = rw part-0 refl
low_width s (suc zero) h = rw part-1 refl
low_width s (suc (suc zero)) h = rw part-2 refl
low_width s (suc (suc (suc p))) h = absurd (omega arith)

module _ {s : List ℕ} (types : List TypeInner) (owner : Maybe Handle) {p q : ℕ} (P : Asked s p q) where
  pub done_by_low : q < 3 → Took s s (take_entries types (part s q) (subtypes_of types (typed owner)) (part s p)) (entries_room (part s p) (part s q)) (Some p)
  done_by_low h = took_stays P.0 P.1.0.0 (by_low types _ s q (part s p) h)

  pub done_of_low : p < 3 → Took s s (take_entries types (part s q) (subtypes_of types (typed owner)) (part s p)) (entries_room (part s p) (part s q)) (Some p)
  done_of_low h = took_stays P.0 P.1.0.0 (of_plain types _ (part s q) (part s p) (low_width s p h))

-- `remove` itself
part_out : (types : List TypeInner) (q p : PartReq) (t : Option TypeHandle) → is_all q ≡ false → is_exist q ≡ false
    → remove types p q t ≡ take_entries types q (subtypes_of types t) (split types t p)
unfolding remove take_out
part_out types all p t a e = never (sym a)
part_out types exist p t a e = never (sym e)
part_out types none p t a e = refl
part_out types (more j q s) p t a e = refl

split-grows : (types : List TypeInner) (k : ℕ) → Splits types k → (t : Option TypeHandle) (p : PartReq) → entries (split types t p) ≤ entries p + k
unfolding split
split-grows types k f nothing p = omega arith
split-grows types k f (some t) all = omega (arith, f t)
split-grows types k f (some t) exist = omega arith
split-grows types k f (some t) none = omega arith
split-grows types k f (some t) (more i p r) = omega arith

pub split_asks : {s : List ℕ} {p q : ℕ} → RemoveAsked s p q → Good s × (Room s split_most × (p < top s))
split_asks P = (P.0, (omega arith, P.1.0.0))

module _ {s : List ℕ} (types : List TypeInner) (u : Maybe Handle) {p q : ℕ} (P : RemoveAsked s p q) where
  pub done_all : q ≡ 0 → Took s s (remove types (part s p) (part s q) (typed u)) (remove_room (part s p) (part s q)) (Some 1)
  done_all e = took_stays P.0 (omega (arith, P.0.base)) (rw (e, part-0, part-1) (unfold remove take_out in refl))

  pub done_exist : q ≡ 1 → Took s s (remove types (part s p) (part s q) (typed u)) (remove_room (part s p) (part s q)) (Some p)
  done_exist e = took_stays P.0 P.1.0.0 (rw (e, part-1) (unfold remove take_out in refl))

  module _ (S : AllSized types) {t : List ℕ} {n : ℕ} (m : Made s t (split types (typed u) (part s p)) split_most n) where
    grown : entries (part t n) ≤ entries (part s p) + split_most
    grown = rw m.is (split-grows types split_most (sized_splits S) (typed u) (part s p))

    pub entries_asks : {z : ℕ} → remove_measure q ≡ z → (entries_measure n q < z) × Asked t n q
    entries_asks e =
        let k = entries-kept m.kept q (omega arith) in
        let g = m.kept.good in (
          omega (arith, m.piece, g.room, g.fits),
          (g, ((m.piece, omega arith), omega (arith, grown, m.cost, m.kept.long))),
        )

    pub done_part : (q ≡ 0 → ⊥) → (q ≡ 1 → ⊥) → {v : List ℕ} {r : Maybe ℕ}
        → Took t v (take_entries types (part t q) (subtypes_of types (typed u)) (part t n)) (entries_room (part t n) (part t q)) r
        → Took s v (remove types (part s p) (part s q) (typed u)) (remove_room (part s p) (part s q)) r
    done_part a e {v} {r} l = record {
      kept = kept_trans m.kept l.kept;
      piece = l.piece;
      is = l.is ∙ rw (m.is, m.kept.same q (omega arith)) (sym (part_out types (part s q) (part s p) (typed u) (not_all s q a) (not_exist s q e)));
      cost = let k = entries-kept m.kept q (omega arith) in omega (arith, grown, m.cost, l.cost);
    }
