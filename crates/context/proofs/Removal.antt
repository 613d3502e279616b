-- What holds of each taking out: `removed` is the one induction along `remove`, and each law below is made by it from what holds at its steps.
use Prim.Native.Nat.{ℕ, zero, suc, ◌+◌, ◌*◌, ◌<◌, ◌≤◌, max}
use native.Mathlib.Omega.{arith}
use native.Mathlib.Nat.{mul-add}
use mathlib.Core.Path.{◌≡◌, refl, subst}
use mathlib.Core.Bool.{true}
use mathlib.Core.List.{List}
use mathlib.Core.Option.{Option, some, none as nothing}
use lib.ListN.{length, get_or}
use borrow.Author.Tests.{lt-ltb, le-ltb}
use Rattle.part.specs.PartReq.{PartReq, all, exist, none, more, contains, entries, depth}
use Rattle.part.specs.Ascending.{Ascending, From}
use Rattle.part.proofs.Equations.{way, before, after, at, here, fitted}
use Rattle.part.proofs.Order.{exist-lowest, all-highest, reflexive}
use Rattle.part.proofs.Ascending.{from_ascending}
use Rattle.module.specs.Module.{TypeHandle, TypeInner, Scalar, Vector, Matrix, Atomic, Pointer, Array, Struct, BindingArray, Opaque, Member}
use Rattle.context.specs.Remove.{Removed, left, panic, ◌>>=◌, member_at, at_member, at_subtype, each, type_to_parts, split, subtypes_of, take_out, take_entry, take_entries, remove}

-- what is left has P, where something is
abbrev pub Left : (PartReq → Type 0) → Removed → Type 0
Left P (left p) = P p
Left P panic = Unit {0}

pub left_then : (P Q : PartReq → Type 0) (m : Removed) (k : PartReq → Removed) → Left P m → ((p : PartReq) → P p → Left Q (k p)) → Left Q (m >>= k)
left_then P Q (left p) k h f = f p h
left_then P Q panic k h f = tt

left_map : (P Q : PartReq → Type 0) (m : Removed) → ((p : PartReq) → P p → Q p) → Left P m → Left Q m
left_map P Q (left p) f h = f p h
left_map P Q panic f h = tt

pub left-of : (P : PartReq → Type 0) (m : Removed) → ((p : PartReq) → m ≡ left p → P p) → Left P m
left-of P (left p) f = f p refl
left-of P panic f = tt

-- the three ways of two entries
module _ (j : ℕ) (on_q : Option TypeHandle → PartReq → Removed) (on_s : Option (List Member) → PartReq → Removed) (ms : Option (List Member)) (i : ℕ) (p r : PartReq) where
  pub entry_lt : i < j → take_entry j on_q on_s ms (more i p r) ≡ (take_entry j on_q on_s ms r >>= λ rest. left (more i p rest))
  unfolding take_entry
  entry_lt h = simp (lt-ltb i j h)

  pub entry_gt : j < i → take_entry j on_q on_s ms (more i p r) ≡ on_s ms (more i p r)
  unfolding take_entry
  entry_gt h = let z : j ≤ i = omega arith in simp (le-ltb i j z, lt-ltb j i h)

  pub entry_eq : i ≡ j
      → take_entry j on_q on_s ms (more i p r) ≡ (at_subtype ms i (λ t. on_q t p) >>= λ reduced. on_s ms r >>= λ rest. left (more i reduced rest))
  unfolding take_entry
  entry_eq e =
      let h : j ≤ i = omega arith in
      let l : i ≤ j = omega arith in
      simp (le-ltb i j h, le-ltb j i l)

-- the steps of a taking out: `Out q p r` is of a requirement, and `In q p r` of the entries of one
pub record Steps (types : List TypeInner) (Out In : PartReq → PartReq → PartReq → Type 0) : Type 0 where
  pub out_all : (p : PartReq) → Out all p exist
  pub out_exist : (p : PartReq) → Out exist p p
  pub out_none : (p r : PartReq) → In none p r → Out none p r
  pub out_more : (j : ℕ) (q s p r : PartReq) → In (more j q s) p r → Out (more j q s) p r
  pub out_split : (t : TypeHandle) (r : PartReq) → In none (type_to_parts (get_or types t Opaque)) r → Out none all r
  pub out_split_more : (t j : ℕ) (q s r : PartReq) → In (more j q s) (type_to_parts (get_or types t Opaque)) r → Out (more j q s) all r
  pub in_same : (q p : PartReq) → In q p p
  pub in_lt : (i j : ℕ) (p r q s x : PartReq) → i < j → In (more j q s) r x → In (more j q s) (more i p r) (more i p x)
  pub in_gt : (i j : ℕ) (p r q s x : PartReq) → j < i → In s (more i p r) x → In (more j q s) (more i p r) x
  pub in_eq : (i j : ℕ) (p r q s x y : PartReq) → i ≡ j → Out q p x → In s r y → In (more j q s) (more i p r) (more i x y)

at-member : (P : PartReq → Type 0) (m : Option TypeHandle) (f : Option TypeHandle → Removed) → ((t : Option TypeHandle) → Left P (f t)) → Left P (at_member m f)
unfolding at_member
at-member P nothing f h = tt
at-member P (some t) f h = h (some t)

at-subtype : (P : PartReq → Type 0) (ms : Option (List Member)) (i : ℕ) (f : Option TypeHandle → Removed) → ((t : Option TypeHandle) → Left P (f t)) → Left P (at_subtype ms i f)
unfolding at_subtype
at-subtype P nothing i f h = h nothing
at-subtype P (some members) i f h = at-member P (member_at members i) f h

module _ (types : List TypeInner) (Out In : PartReq → PartReq → PartReq → Type 0) (S : Steps types Out In) where
  -- the entry j with what is below it, and the entries after it
  entry : (j : ℕ) (q s : PartReq) (on_q : Option TypeHandle → PartReq → Removed) (on_s : Option (List Member) → PartReq → Removed)
      → ((t : Option TypeHandle) (p : PartReq) → Left (Out q p) (on_q t p)) → ((ms : Option (List Member)) (p : PartReq) → Left (In s p) (on_s ms p))
      → (ms : Option (List Member)) (p : PartReq) → Left (In (more j q s) p) (take_entry j on_q on_s ms p)
  entry j q s on_q on_s hq hs ms all = unfold take_entry in S.in_same (more j q s) all
  entry j q s on_q on_s hq hs ms exist = unfold take_entry in S.in_same (more j q s) exist
  entry j q s on_q on_s hq hs ms none = unfold take_entry in S.in_same (more j q s) none
  entry j q s on_q on_s hq hs ms (more i p r) =
      let ih = entry j q s on_q on_s hq hs ms r in
      elim (way i j) [
        | before h ↦
            rw (entry_lt j on_q on_s ms i p r h)
            (left_then (In (more j q s) r) _ (take_entry j on_q on_s ms r) _ ih (λ x l. S.in_lt i j p r q s x h l))
        | after h ↦
            rw (entry_gt j on_q on_s ms i p r h)
            (left_map (In s (more i p r)) _ (on_s ms (more i p r)) (λ x. S.in_gt i j p r q s x h) (hs ms (more i p r)))
        | at e ↦
            rw (entry_eq j on_q on_s ms i p r e)
            (left_then (Out q p) _ (at_subtype ms i (λ t. on_q t p)) _ (at-subtype (Out q p) ms i (λ t. on_q t p) (λ t. hq t p))
            (λ x k. left_then (In s r) _ (on_s ms r) _ (hs ms r) (λ y m. S.in_eq i j p r q s x y e k m)))
      ]

  -- a part taken out, where p is split by its type
  parted : (q : PartReq) → ((p r : PartReq) → In q p r → Out q p r) → ((t : TypeHandle) (r : PartReq) → In q (type_to_parts (get_or types t Opaque)) r → Out q all r)
      → (t : Option TypeHandle) (p r : PartReq) → In q (split types t p) r → Out q p r
  unfolding split
  parted q f g nothing p r h = f p r h
  parted q f g (some t) all r h = g t r h
  parted q f g (some t) exist r h = f exist r h
  parted q f g (some t) none r h = f none r h
  parted q f g (some t) (more i c e) r h = f (more i c e) r h

  both : (q : PartReq) → ((t : Option TypeHandle) (p : PartReq) → Left (Out q p) (take_out types q (take_entries types q) t p))
      × ((ms : Option (List Member)) (p : PartReq) → Left (In q p) (take_entries types q ms p))
  unfolding take_out take_entries
  both all = (λ t p. S.out_all p, λ ms p. S.in_same all p)
  both exist = (λ t p. S.out_exist p, λ ms p. S.in_same exist p)
  both none = (λ t p. parted none S.out_none S.out_split t p (split types t p) (S.in_same none (split types t p)), λ ms p. S.in_same none p)
  both (more j q s) =
      let es = entry j q s (take_out types q (take_entries types q)) (take_entries types s) (both q).0 (both s).1 in (
        λ t p. left_map (In (more j q s) (split types t p)) (Out (more j q s) p)
            (take_entry j (take_out types q (take_entries types q)) (take_entries types s) (subtypes_of types t) (split types t p))
            (parted (more j q s) (S.out_more j q s) (λ u. S.out_split_more u j q s) t p) (es (subtypes_of types t) (split types t p)),
        es,
      )

  pub removed : (p q : PartReq) (t : Option TypeHandle) → Left (Out q p) (remove types p q t)
  unfolding remove
  removed p q t = (both q).0 t p

-- what is left, where it is known
pub left_is : (P : PartReq → Type 0) {m : Removed} {r : PartReq} → m ≡ left r → Left P m → P r
left_is P e h = subst (Left P) e h

-- Taking out never yields more than there was.
more-more : (i : ℕ) (p r q s : PartReq) → contains p q ≡ true → contains r s ≡ true → contains (more i p r) (more i q s) ≡ true
more-more i p r q s h l = fitted (here refl h l)

Has : PartReq → PartReq → PartReq → Type 0
Has q p r = contains p r ≡ true

has_steps : (types : List TypeInner) → Steps types Has Has
unfolding Has
has_steps types = record {
  out_all = exist-lowest;
  out_exist = reflexive;
  out_none = λ p r h. h;
  out_more = λ j q s p r h. h;
  out_split = λ t r h. all-highest r;
  out_split_more = λ t j q s r h. all-highest r;
  in_same = λ q p. reflexive p;
  in_lt = λ i j p r q s x l h. more-more i p r p x (reflexive p) h;
  in_gt = λ i j p r q s x l h. h;
  in_eq = λ i j p r q s x y e h l. more-more i p r x y h l;
}

pub contains-removed : (types : List TypeInner) (p q : PartReq) (t : Option TypeHandle) {r : PartReq} → remove types p q t ≡ left r → contains p r ≡ true
unfolding Has
contains-removed types p q t e = left_is (λ r. contains p r ≡ true) e (removed types Has Has (has_steps types) p q t)

-- The entries of what is left: those that were there, and the parts of one type, at most k, for each part that is taken out.
Fits : ℕ → PartReq → PartReq → PartReq → Type 0
Fits k q p r = entries r ≤ entries p + k * entries q

FitsOut : ℕ → PartReq → PartReq → PartReq → Type 0
FitsOut k q p r = entries r ≤ entries p + k * (1 + entries q)

-- each type is split into at most k entries
abbrev pub Splits : List TypeInner → ℕ → Type 0
Splits types k = (t : TypeHandle) → entries (type_to_parts (get_or types t Opaque)) ≤ k

fits_steps : (types : List TypeInner) (k : ℕ) → Splits types k → Steps types (FitsOut k) (Fits k)
unfolding Fits FitsOut entries
fits_steps types k f = record {
  out_all = λ p. omega arith;
  out_exist = λ p. omega arith;
  out_none = λ p r h. omega (arith, mul-add k 1 0);
  out_more = λ j q s p r h. omega (arith, mul-add k 1 (entries (more j q s)));
  out_split = λ t r h. omega (arith, f t, mul-add k 1 0);
  out_split_more = λ t j q s r h. omega (arith, f t, mul-add k 1 (entries (more j q s)));
  in_same = λ q p. omega arith;
  in_lt = λ i j p r q s x l h. omega arith;
  in_gt = λ i j p r q s x l h. omega (arith, mul-add k (1 + entries q) (entries s));
  in_eq = λ i j p r q s x y e h l. omega (arith, mul-add k (1 + entries q) (entries s));
}

pub entries-removed : (types : List TypeInner) (k : ℕ) → Splits types k → (p q : PartReq) (t : Option TypeHandle) {r : PartReq} → remove types p q t ≡ left r
    → entries r ≤ entries p + k * (1 + entries q)
unfolding FitsOut
entries-removed types k f p q t e = left_is (λ r. entries r ≤ entries p + k * (1 + entries q)) e (removed types (FitsOut k) (Fits k) (fits_steps types k f) p q t)

-- The depth of what is left: a type's parts go two deep, and stand where a part is taken out.
Deep : PartReq → PartReq → PartReq → Type 0
Deep q p r = depth r ≤ max (depth p) (depth q + 1)

-- What ascends still ascends: the indexes stay, or are a type's own.
Climbs : PartReq → PartReq → PartReq → Type 0
Climbs q p r = Ascending p → Ascending r

ClimbsIn : PartReq → PartReq → PartReq → Type 0
ClimbsIn q p r = ((k : ℕ) → From k p → From k r) × (Ascending p → Ascending r)

each_from : (k l n : ℕ) (p : PartReq) → k ≤ l → Ascending p → From k (each l n p)
unfolding each
each_from k l zero p h a = tt
each_from k l (suc n) p h a = (h, (a, each_from (suc l) (suc l) n p (omega arith) a))

each-ascends : (n : ℕ) (p : PartReq) → Ascending p → Ascending (each 0 n p)
each-ascends n p a = from_ascending 0 (each 0 n p) (each_from 0 0 n p (omega arith) a)

parts_ascend : (t : TypeInner) → Ascending (type_to_parts t)
unfolding type_to_parts
parts_ascend Scalar = tt
parts_ascend (Vector size) = each-ascends size all tt
parts_ascend (Matrix columns rows) = each-ascends columns (each 0 rows all) (each-ascends rows all tt)
parts_ascend Atomic = tt
parts_ascend (Pointer base) = tt
parts_ascend (Array base count) = tt
parts_ascend (Struct members) = each-ascends (length members) all tt
parts_ascend (BindingArray base) = tt
parts_ascend Opaque = tt

climb_steps : (types : List TypeInner) → Steps types Climbs ClimbsIn
unfolding Climbs ClimbsIn
climb_steps types = record {
  out_all = λ p a. tt;
  out_exist = λ p a. a;
  out_none = λ p r h. h.1;
  out_more = λ j q s p r h. h.1;
  out_split = λ t r h a. h.1 (parts_ascend (get_or types t Opaque));
  out_split_more = λ t j q s r h a. h.1 (parts_ascend (get_or types t Opaque));
  in_same = λ q p. (λ k f. f, λ a. a);
  in_lt = λ i j p r q s x l h. (λ k f. (f.0, (f.1.0, h.0 (suc i) f.1.1)), λ a. (a.0, h.0 (suc i) a.1));
  in_gt = λ i j p r q s x l h. h;
  in_eq = λ i j p r q s x y e h l. (λ k f. (f.0, (h f.1.0, l.0 (suc i) f.1.1)), λ a. (h a.0, l.0 (suc i) a.1));
}

pub ascending_removed : (types : List TypeInner) (p q : PartReq) (t : Option TypeHandle) {r : PartReq} → remove types p q t ≡ left r → Ascending p → Ascending r
unfolding Climbs
ascending_removed types p q t e = left_is (λ r. Ascending p → Ascending r) e (removed types Climbs ClimbsIn (climb_steps types) p q t)
