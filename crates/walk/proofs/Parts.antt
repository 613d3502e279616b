-- Fine parts and entries of variables stay fine under what the walk does to them: joined, put in, looked up and taken out.
use mathlib.Core.Path.{◌≡◌, refl, sym, subst}
use mathlib.Core.Bool.{Bool, true, false, cond, ◌||◌, ◌&&◌}
use mathlib.Core.List.{List}
use mathlib.Core.Option.{Option}
use Prim.Native.Nat.{ℕ, suc, ◌<◌, ◌≤◌}
use native.Mathlib.Omega.{arith}
use lib.Dec.{ltb}
use lib.ListN.{get_or}
use borrow.Author.Tests.{lt-ltb, le-ltb}
use Rattle.field.specs.Limits.{absent}
use Rattle.part.specs.PartReq.{PartReq, all, exist, none, more, Subpart, gone, there, get_subpart, add, over, spine}
use Rattle.part.specs.Insert.{insert}
use Rattle.part.specs.Ascending.{Ascending, From}
use Rattle.part.specs.Limited.{Plain}
use Rattle.part.proofs.Equations.{before, after, at, way, never, get_subpart-all, get_subpart-exist, get_subpart-none, get_subpart_before, get_subpart-at, get_subpart-after, insert-none, insert_before, insert_at, insert-after, Sums, all_left, all_right, exist_left, exist_right, none_left, none_right, lower, higher, equal, sums}
use Rattle.part.proofs.Ascending.{from_ascending, from_insert, add-ascending}
use Rattle.module.specs.Module.{TypeHandle, TypeInner, Opaque}
use Rattle.context.specs.RequiredContext.{variable, alter}
use Rattle.context.specs.Remove.{Removed, left, panic, ◌>>=◌, type_to_parts, remove}
use Rattle.context.specs.Swizzle.{Swizzled, asks, panics, is_flat, collected, swizzled}
use Rattle.context.proofs.Removal.{Left, Steps, removed, left_is, ascending_removed}
use Rattle.walk.specs.Resolve.{needed, needed_at, check_part}
use Rattle.walk.specs.Proper.{Fine, VariablesFrom, Variables}
use Rattle.walk.proofs.Keeps.{EachEntry, Needs}

neither : (x y : Bool) → (x || y) ≡ false → (x ≡ false) × (y ≡ false)
neither true y h = never (sym h)
neither false y h = (refl, h)

-- what is within the limits, is so below and behind
pub over-parts : (i : ℕ) (p r : PartReq) → over (more i p r) ≡ false → (over p ≡ false) × (over r ≡ false)
unfolding over
over-parts i p r h = let both = neither (over p) _ h in (both.0, (neither (over r) _ both.1).0)

pub fine_all : Fine all
unfolding over
fine_all = record { ascends = tt; plain = tt; within = refl }

pub fine_exist : Fine exist
unfolding over
fine_exist = record { ascends = tt; plain = tt; within = refl }

fine_below : (i : ℕ) (p r : PartReq) → Fine (more i p r) → Fine p
fine_below i p r h = record { ascends = h.ascends.0; plain = h.plain.1.0; within = (over-parts i p r h.within).0 }

fine_behind : (i : ℕ) (p r : PartReq) → Fine (more i p r) → Fine r
fine_behind i p r h =
    record { ascends = from_ascending (suc i) r h.ascends.1; plain = h.plain.1.1; within = (over-parts i p r h.within).1 }

pub fine_entries : (p : PartReq) → Fine p → EachEntry Fine p
fine_entries all h = tt
fine_entries exist h = tt
fine_entries none h = tt
fine_entries (more i p r) h = (fine_below i p r h, fine_entries r (fine_behind i p r h))

pub fine_subpart : (p : PartReq) (j : ℕ) → Fine p → Needs Fine (get_subpart p j)
fine_subpart all j h = rw get_subpart-all fine_all
fine_subpart exist j h = rw get_subpart-exist tt
fine_subpart none j h = rw get_subpart-none tt
fine_subpart (more i p r) j h =
    let ih = fine_subpart r j (fine_behind i p r h) in
    elim (way i j) [
      | before l ↦ rw (get_subpart-after i j p r l) ih
      | after l ↦ rw (get_subpart_before i j p r l) tt
      | at e ↦ rw (get_subpart-at i j p r e) (fine_below i p r h)
    ]

pub fine_index : (i : ℕ) (p : PartReq) → i < absent → Fine p → over (more i p none) ≡ false → Fine (more i p none)
fine_index i p l h o = record { ascends = (h.ascends, tt); plain = (l, (h.plain, tt)); within = o }

-- what is needed of a store's target
needed-fine : (s : Subpart) → Needs Fine s → Needs Fine (needed s)
unfolding needed
needed-fine gone h = tt
needed-fine (there all) h = h
needed-fine (there exist) h = tt
needed-fine (there none) h = h
needed-fine (there (more i p r)) h = h

at_fine : (j : ℕ) (sub : Subpart → Subpart) → ((s : Subpart) → Needs Fine s → Needs Fine (sub s)) → (s : Subpart) → Needs Fine s → Needs Fine (needed_at j sub s)
unfolding needed_at
at_fine j sub hs gone h = tt
at_fine j sub hs (there all) h = h
at_fine j sub hs (there exist) h = tt
at_fine j sub hs (there none) h = hs gone tt
at_fine j sub hs (there (more i p r)) h = hs (get_subpart (more i p r) j) (fine_subpart (more i p r) j h)

pub check_fine : (t : PartReq) (s : Subpart) → Needs Fine s → Needs Fine (check_part t s)
unfolding check_part
check_fine all s h = needed-fine s h
check_fine exist s h = tt
check_fine none s h = tt
check_fine (more j q r) s h = at_fine j (check_part q) (check_fine q) s h

-- sums
plain_sum : {a b c : PartReq} → Sums a b c → Plain a → Plain b → Plain c
plain_sum all_left f g = tt
plain_sum all_right f g = tt
plain_sum exist_left f g = g
plain_sum exist_right f g = f
plain_sum (none_left e) f g = g
plain_sum (none_right e) f g = f
plain_sum (lower l x) f g = (f.0, (f.1.0, plain_sum x f.1.1 g))
plain_sum (higher l x) f g = (g.0, (g.1.0, plain_sum x f g.1.1))
plain_sum (equal e x y) f g = (f.0, (plain_sum x f.1.0 g.1.0, plain_sum y f.1.1 g.1.1))

fine_add : (p q : PartReq) → Fine p → Fine q → over (add p q) ≡ false → Fine (add p q)
fine_add p q f g o =
    record { ascends = add-ascending p q f.ascends g.ascends; plain = plain_sum (sums p q) f.plain g.plain; within = o }

variables_lower : (n k l : ℕ) (q : PartReq) → k ≤ l → VariablesFrom n l q → VariablesFrom n k q
variables_lower n k l all h f = f
variables_lower n k l exist h f = f
variables_lower n k l none h f = f
variables_lower n k l (more i p r) h f = (omega (arith, f.0), f.1, f.2, f.3)

variables_sum : {a b c : PartReq} (n k : ℕ) → Sums a b c → VariablesFrom n k a → VariablesFrom n k b → over c ≡ false → VariablesFrom n k c
variables_sum n k all_left f g o = absurd f
variables_sum n k all_right f g o = absurd g
variables_sum n k exist_left f g o = absurd f
variables_sum n k exist_right f g o = absurd g
variables_sum n k (none_left e) f g o = g
variables_sum n k (none_right e) f g o = f
variables_sum n k (lower {i} {p = p} {c = c} l x) f g o =
    (f.0, f.1, f.2, variables_sum n (suc i) x f.3 (l, g.1, g.2, g.3) (over-parts i p c o).1)
variables_sum n k (higher {j = j} {q = q} {c = c} l x) f g o =
    (g.0, g.1, g.2, variables_sum n (suc j) x (l, f.1, f.2, f.3) g.3 (over-parts j q c o).1)
variables_sum n k (equal {i} {j} {p} {q} {s = s} {c = c} e x y) f g o =
    let both = over-parts i (add p q) c o in
    (f.0, f.1, fine_add p q f.2 g.2 both.0, variables_sum n (suc i) y f.3 (variables_lower n (suc i) (suc j) s (omega arith) g.3) both.1)

pub variables_add : (n : ℕ) (a b : PartReq) → Variables n a → Variables n b → over (add a b) ≡ false → Variables n (add a b)
variables_add n a b f g o = variables_sum n spine (sums a b) f g o

pub variables_one : (n v : ℕ) (p : PartReq) → v < n → Fine p → Variables n (more (variable v) p none)
variables_one n v p l h = (omega arith, omega arith, h, tt)

-- lookups
pub variables_subpart : (n k j : ℕ) (q : PartReq) → VariablesFrom n k q → Needs Fine (get_subpart q j)
variables_subpart n k j all f = absurd f
variables_subpart n k j exist f = absurd f
variables_subpart n k j none f = rw get_subpart-none tt
variables_subpart n k j (more i p r) f =
    let ih = variables_subpart n (suc i) j r f.3 in
    elim (way i j) [
      | before l ↦ rw (get_subpart-after i j p r l) ih
      | after l ↦ rw (get_subpart_before i j p r l) tt
      | at e ↦ rw (get_subpart-at i j p r e) f.2
    ]

-- an entry put in
pub variables_insert : (n k v : ℕ) (p q : PartReq) → VariablesFrom n k q → k ≤ variable v → v < n → Fine p → VariablesFrom n k (insert q (variable v) p)
variables_insert n k v p all f l b h = absurd f
variables_insert n k v p exist f l b h = absurd f
variables_insert n k v p none f l b h = rw (insert-none (variable v) p) (l, omega arith, h, tt)
variables_insert n k v p (more i x r) f l b h =
    elim (way i (variable v)) [
      | before a ↦
          let ih = variables_insert n (suc i) v p r f.3 a b h in
          rw (insert-after (variable v) i p x r a) (f.0, f.1, f.2, ih)
      | after a ↦ rw (insert_before (variable v) i p x r a) (l, omega arith, h, (a, f.1, f.2, f.3))
      | at e ↦ rw (insert_at (variable v) i p x r (sym e)) (l, omega arith, h, variables_lower n (suc (variable v)) (suc i) r (omega arith) f.3)
    ]

plain_insert : (c : ℕ) (q m : PartReq) → Plain m → c < absent → Plain q → Plain (insert m c q)
plain_insert c q all f l h = unfold insert in (l, (h, tt))
plain_insert c q exist f l h = unfold insert in (l, (h, tt))
plain_insert c q none f l h = rw (insert-none c q) (l, (h, tt))
plain_insert c q (more i x r) f l h =
    elim (way i c) [
      | before a ↦ let ih = plain_insert c q r f.1.1 l h in rw (insert-after c i q x r a) (f.0, (f.1.0, ih))
      | after a ↦ rw (insert_before c i q x r a) (l, (h, f))
      | at e ↦ rw (insert_at c i q x r (sym e)) (l, (h, f.1.1))
    ]

-- a swizzle
abbrev Picks : (PartReq → Type 0) → Swizzled → Type 0
Picks P (asks p) = P p
Picks P panics = Unit {0}

abbrev Map : PartReq → Type 0
Map p = From 0 p × Plain p

pick : (pattern : List ℕ) (b : Bool) (r picked : PartReq) → Picks Map (collected pattern r picked) → Picks Map (cond b (collected pattern r picked) panics)
pick pattern true r picked h = h
pick pattern false r picked h = tt

collected-map : (pattern : List ℕ) (p picked : PartReq) → ((k : ℕ) → get_or pattern k 0 < absent) → Fine p → Map picked → Picks Map (collected pattern p picked)
unfolding collected
collected-map pattern all picked l h f = f
collected-map pattern exist picked l h f = f
collected-map pattern none picked l h f = f
collected-map pattern (more i q r) picked l h f =
    let below = fine_below i q r h in
    let letter = get_or pattern i 0 in
    pick pattern (ltb i 4 && is_flat q) r (insert picked letter q)
    (collected-map pattern r (insert picked letter q) l (fine_behind i q r h)
    (from_insert 0 letter q picked f.0 (omega arith) below.ascends, plain_insert letter q picked f.1 (l i) below.plain))

abbrev Both : PartReq → Type 0
Both p = Ascending p × Plain p

both_map : (s : Swizzled) → Picks Map s → Picks Both s
both_map (asks p) h = (from_ascending 0 p h.0, h.1)
both_map panics h = tt

swizzled-both : (pattern : List ℕ) (p : PartReq) → ((k : ℕ) → get_or pattern k 0 < absent) → Fine p → Picks Both (swizzled pattern p)
unfolding swizzled
swizzled-both pattern all l h = (tt, tt)
swizzled-both pattern exist l h = (tt, tt)
swizzled-both pattern none l h = (tt, tt)
swizzled-both pattern (more i q r) l h = both_map (collected pattern (more i q r) none) (collected-map pattern (more i q r) none l h (tt, tt))

pub fine_swizzled : (pattern : List ℕ) (p q : PartReq) → ((k : ℕ) → get_or pattern k 0 < absent) → Fine p → swizzled pattern p ≡ asks q → over q ≡ false → Fine q
fine_swizzled pattern p q l h e o =
    let both : Picks Both (asks q) = subst (Picks Both) e (swizzled-both pattern p l h) in
    record { ascends = both.0; plain = both.1; within = o }

-- taking out
plain_steps : (types : List TypeInner) → ((t : TypeHandle) → Plain (type_to_parts (get_or types t Opaque))) → Steps types (λ q p r. Plain p → Plain r) (λ q p r. Plain p → Plain r)
plain_steps types parts = record {
  out_all = λ p a. tt;
  out_exist = λ p a. a;
  out_none = λ p r h. h;
  out_more = λ j q s p r h. h;
  out_split = λ t r h a. h (parts t);
  out_split_more = λ t j q s r h a. h (parts t);
  in_same = λ q p a. a;
  in_lt = λ i j p r q s x l h a. (a.0, (a.1.0, h a.1.1));
  in_gt = λ i j p r q s x l h. h;
  in_eq = λ i j p r q s x y e h l a. (a.0, (h a.1.0, l a.1.1));
}

plain_removed : (types : List TypeInner) → ((t : TypeHandle) → Plain (type_to_parts (get_or types t Opaque))) → (p q : PartReq) (t : Option TypeHandle) {r : PartReq} → remove types p q t ≡ left r → Plain p → Plain r
plain_removed types parts p q t e = left_is (λ r. Plain p → Plain r) e (removed types _ _ (plain_steps types parts) p q t)

pub fine_removed : (types : List TypeInner) → ((t : TypeHandle) → Plain (type_to_parts (get_or types t Opaque))) → (p q : PartReq) (t : Option TypeHandle) (r : PartReq) → remove types p q t ≡ left r → Fine p → over r ≡ false → Fine r
fine_removed types parts p q t r e h o =
    record { ascends = ascending_removed types p q t e h.ascends; plain = plain_removed types parts p q t e h.plain; within = o }

-- `alter`, by which index is lower
module _ (i j : ℕ) (g : PartReq → Removed) (p r : PartReq) where
  alter-behind : j < i → alter i g (more j p r) ≡ (alter i g r >>= λ rest. left (more j p rest))
  unfolding alter
  alter-behind h = simp (lt-ltb j i h)

  alter_passed : i < j → alter i g (more j p r) ≡ left (more j p r)
  unfolding alter
  alter_passed h = let z : i ≤ j = omega arith in simp (le-ltb j i z, lt-ltb i j h)

  alter_at : j ≡ i → alter i g (more j p r) ≡ (g p >>= λ reduced. left (more j reduced r))
  unfolding alter
  alter_at e =
      let h : i ≤ j = omega arith in
      let l : j ≤ i = omega arith in
      simp (le-ltb j i h, le-ltb i j l)

-- what is left, where something is, of the variables' entries
abbrev LeftVariables : (n k : ℕ) → PartReq → Type 0
LeftVariables n k q = over q ≡ false → VariablesFrom n k q

behind_left : (n k j : ℕ) (p : PartReq) (x : Removed) → k ≤ j → j < variable n → Fine p → Left (LeftVariables n (suc j)) x → Left (LeftVariables n k) (x >>= λ rest. left (more j p rest))
behind_left n k j p (left rest) l b h f = λ o. (l, b, h, f (over-parts j p rest o).1)
behind_left n k j p panic l b h f = tt

at_left : (n k j : ℕ) (r : PartReq) (x : Removed) → k ≤ j → j < variable n → VariablesFrom n (suc j) r → ((p : PartReq) → x ≡ left p → over p ≡ false → Fine p) → Left (LeftVariables n k) (x >>= λ reduced. left (more j reduced r))
at_left n k j r (left p) l b h f = λ o. (l, b, f p refl (over-parts j p r o).0, h)
at_left n k j r panic l b h f = tt

pub variables_alter : (n k i : ℕ) (g : PartReq → Removed) (q : PartReq) → ((p p' : PartReq) → Fine p → g p ≡ left p' → over p' ≡ false → Fine p') → VariablesFrom n k q → Left (LeftVariables n k) (alter i g q)
variables_alter n k i g all hg f = absurd f
variables_alter n k i g exist hg f = absurd f
variables_alter n k i g none hg f = unfold alter in λ o. tt
variables_alter n k i g (more j p r) hg f =
    elim (way j i) [
      | before l ↦ rw (alter-behind i j g p r l) (behind_left n k j p (alter i g r) f.0 f.1 f.2 (variables_alter n (suc j) i g r hg f.3))
      | after l ↦ rw (alter_passed i j g p r l) (λ o. f)
      | at e ↦ rw (alter_at i j g p r e) (at_left n k j r (g p) f.0 f.1 f.3 (λ p'. hg p p' f.2))
    ]
