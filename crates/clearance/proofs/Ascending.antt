-- Requirements whose indexes ascend, and needs: those that are trimmed to their type as well. Every operation on needs keeps them so.
use Prim.Native.Nat.{ℕ, zero, suc, ◌<◌, ◌≤◌}
use native.Mathlib.Omega.{arith}
use mathlib.Core.Path.{◌≡◌, refl, ap}
use mathlib.Core.Bool.{Bool, true, false, cond}
use mathlib.Core.List.{List, [], ◌∷◌}
use borrow.Author.Tests.{lt-ltb, le-ltb}
use Rattle.part.specs.PartReq.{PartReq, Subpart, gone, all, exist, none, more, there, get_subpart, is_all, is_exist, add, merge, on_none}
use Rattle.part.specs.Ascending.{Ascending, From}
use Rattle.part.proofs.Equations.{before as less, after as greater, at as level, way, add-lt, add_gt, add-eq, never}
use Rattle.part.proofs.Ascending.{from_ascending, add-ascending, AscendingSubpart, get_subpart-ascending}
use Rattle.clearance.specs.Shape.{Shape, number, void, struct, array, member, is_whole, is_void, cov, or_none, below, under, some, keep, trim, members, split, alter, take_out}
use Rattle.clearance.specs.IsNeed.{Tidy, IsNeed}
use Rattle.clearance.proofs.Cov.{cov-none, cov-before}

from_weak : (k l : ℕ) (p : PartReq) → k ≤ l → From l p → From k p
from_weak k l all h f = f
from_weak k l exist h f = f
from_weak k l none h f = f
from_weak k l (more i p r) h f = (omega (arith, f.0), f.1)

pub from_top : (k : ℕ) (p : PartReq) → From k p → is_all p ≡ false
from_top k all f = absurd f
from_top k exist f = refl
from_top k none f = refl
from_top k (more i p r) f = refl

pub from_low : (k j : ℕ) (p : PartReq) (q : List ℕ) → From k p → j < k → cov p (j ∷ q) ≡ false
from_low k j all q f h = absurd f
from_low k j exist q f h = absurd f
from_low k j none q f h = cov-none (j ∷ q)
from_low k j (more i p r) q f h = cov-before i j p r q (omega (arith, f.0))

-- trimming
pub keep-from : (k i : ℕ) (p r : PartReq) → k ≤ i → Ascending p → From (suc i) r → From k (keep i p r)
unfolding keep
keep-from k i all r h f g = (h, (tt, g))
keep-from k i exist r h f g = from_weak k (suc i) r (omega arith) g
keep-from k i none r h f g = from_weak k (suc i) r (omega arith) g
keep-from k i (more j p s) r h f g = (h, (f, g))

all-ok : (b : Bool) → Ascending (cond b none all)
all-ok true = tt
all-ok false = tt

trim-both : (p : PartReq) (t : Shape) → (Ascending p → Ascending (trim p t)) × ((k : ℕ) → From k p → From k (trim p t))
unfolding trim
trim-both all t = ((λ f. all-ok (is_void t)), (λ k f. absurd f))
trim-both exist t = ((λ f. tt), (λ k f. absurd f))
trim-both none t = ((λ f. tt), (λ k f. f))
trim-both (more i p r) t =
    let a = trim-both p (member t i) in
    let b = trim-both r t in (
      (λ f. from_ascending 0 (keep i (trim p (member t i)) (trim r t)) (keep-from 0 i (trim p (member t i)) (trim r t) (omega arith) (a.0 f.0) (b.1 (suc i) f.1))),
      (λ k f. keep-from k i (trim p (member t i)) (trim r t) f.0 (a.0 f.1.0) (b.1 (suc i) f.1.1)),
    )

pub trim-ok : (p : PartReq) (t : Shape) → Ascending p → Ascending (trim p t)
trim-ok p t f = (trim-both p t).0 f

pub trim-from : (k : ℕ) (p : PartReq) (t : Shape) → From k p → From k (trim p t)
trim-from k p t f = (trim-both p t).1 k f

pub under-ok : (q : List ℕ) (p : PartReq) → Ascending p → Ascending (under q p)
unfolding under
under-ok [] p f = f
under-ok (i ∷ q) p f = (under-ok q p f, tt)

-- parts of a part
or_ascending : (x : Subpart) → AscendingSubpart x → Ascending (or_none x)
or_ascending gone f = tt
or_ascending (there p) f = f

pub sub_ok : (p : PartReq) (j : ℕ) → Ascending p → Ascending (or_none (get_subpart p j))
sub_ok p j f = or_ascending (get_subpart p j) (get_subpart-ascending p j f)

pub there-ok : (p c : PartReq) (j : ℕ) → Ascending p → get_subpart p j ≡ there c → Ascending c
there-ok p c j f e = rw e at (sub_ok p j f)

pub below-ok : (p : PartReq) (q : List ℕ) → Ascending p → Ascending (below p q)
unfolding below
below-ok p [] f = f
below-ok p (i ∷ q) f = below-ok (or_none (get_subpart p i)) q (sub_ok p i f)

-- taking out
members-from : (k m : ℕ) → From k (members k m)
unfolding members
members-from k zero = tt
members-from k (suc m) = (omega arith, (tt, members-from (suc k) m))

pub spread_ok : (t : Shape) (p : PartReq) → Ascending p → Ascending (split t p)
unfolding split
spread_ok number p f = f
spread_ok void p f = f
spread_ok (struct b n m) all f = from_ascending b (members b n) (members-from b n)
spread_ok (struct b n m) exist f = f
spread_ok (struct b n m) none f = f
spread_ok (struct b n m) (more i p r) f = f
spread_ok (array n t) p f = f

alter-from : (i : ℕ) (f : PartReq → PartReq) → ((c : PartReq) → Ascending c → Ascending (f c)) → (k : ℕ) (p : PartReq) → From k p → From k (alter i f p)
unfolding alter
alter-from i f h k all g = g
alter-from i f h k exist g = g
alter-from i f h k none g = g
alter-from i f h k (more j p r) g =
    let ih = alter-from i f h (suc j) r g.1.1 in
    elim (way j i) [
      | less l ↦ rw (lt-ltb j i l) (g.0, (g.1.0, ih))
      | greater l ↦ let z : i ≤ j = omega arith in rw (le-ltb j i z, lt-ltb i j l) g
      | level eq ↦ let l : i ≤ j = omega arith in let m : j ≤ i = omega arith in rw (le-ltb j i l, le-ltb i j m) (g.0, (h p g.1.0, g.1.1))
    ]

alter-ok : (i : ℕ) (f : PartReq → PartReq) → ((c : PartReq) → Ascending c → Ascending (f c)) → (p : PartReq) → Ascending p → Ascending (alter i f p)
alter-ok i f h all g = unfold alter in tt
alter-ok i f h exist g = unfold alter in tt
alter-ok i f h none g = unfold alter in tt
alter-ok i f h (more j p r) g = from_ascending 0 (alter i f (more j p r)) (alter-from i f h 0 (more j p r) (omega arith, g))

either_ok : (b : Bool) (p q : PartReq) → Ascending p → Ascending q → Ascending (cond b p q)
either_ok true p q f g = f
either_ok false p q f g = g

pub out_ok : (q : List ℕ) (t : Shape) (p : PartReq) → Ascending p → Ascending (take_out t p q)
unfolding take_out
out_ok [] t p f = tt
out_ok (i ∷ q) t p f = either_ok (is_whole t) p (alter i (λ c. take_out (member t i) c q) (split t p)) f
    (alter-ok i (λ c. take_out (member t i) c q) (λ c g. out_ok q (member t i) c g) (split t p) (spread_ok t p f))

-- Needs: never exist, nothing emptied, nothing outside the type

pub tidy_plain : (p : PartReq) (t : Shape) → Tidy p t → is_exist p ≡ false
tidy_plain all t h = refl
tidy_plain exist t h = absurd h
tidy_plain none t h = refl
tidy_plain (more i p r) t h = refl

keep-tidy : (i : ℕ) (p r : PartReq) (t : Shape) → Tidy p (member t i) → Tidy r t → Tidy (keep i p r) t
unfolding keep
keep-tidy i all r t h g = (refl, (h, g))
keep-tidy i exist r t h g = g
keep-tidy i none r t h g = g
keep-tidy i (more j p s) r t h g = (refl, (h, g))

trim_all_tidy : (t : Shape) → Tidy (cond (is_void t) none all) t
trim_all_tidy number = refl
trim_all_tidy void = tt
trim_all_tidy (struct b n f) = refl
trim_all_tidy (array n t) = refl

pub trim-tidy : (p : PartReq) (t : Shape) → Tidy (trim p t) t
unfolding trim
trim-tidy all t = trim_all_tidy t
trim-tidy exist t = tt
trim-tidy none t = tt
trim-tidy (more i p r) t = keep-tidy i _ _ t (trim-tidy p (member t i)) (trim-tidy r t)

some-add : (p q : PartReq) → some p ≡ true → some (add p q) ≡ true
unfolding add merge
some-add all q h = refl
some-add exist q h = never h
some-add none q h = never h
some-add (more i p r) all h = refl
some-add (more i p r) exist h = refl
some-add (more i p r) none h = refl
some-add (more i p r) (more j q s) h =
    elim (way i j) [
      | less l ↦ ap some (add-lt i j p q r s l)
      | greater l ↦ ap some (add_gt i j p q r s l)
      | level eq ↦ let l : j ≤ i = omega arith in let m : i ≤ j = omega arith in ap some (add-eq i j p q r s (omega arith))
    ]

AddTidy : PartReq → PartReq → Type 0
AddTidy p q = (t : Shape) → Tidy p t → Tidy q t → Tidy (add p q) t

tidy_cell : (i : ℕ) (p r : PartReq) → ((q : PartReq) → AddTidy p q) → ((q : PartReq) → AddTidy r q) → (q : PartReq) → AddTidy (more i p r) q
unfolding AddTidy
tidy_cell i p r hp hr all t f g = unfold add merge in g
tidy_cell i p r hp hr exist t f g = absurd g
tidy_cell i p r hp hr none t f g = unfold add merge in f
tidy_cell i p r hp hr (more j q s) t f g =
    let ih = tidy_cell i p r hp hr s t f g.1.1 in
    elim (way i j) [
      | less h ↦ rw (add-lt i j p q r s h) (f.0, (f.1.0, hr (more j q s) t f.1.1 g))
      | greater h ↦ rw (add_gt i j p q r s h) (g.0, (g.1.0, ih))
      | level eq ↦ let h : j ≤ i = omega arith in let l : i ≤ j = omega arith in
          let z : j ≡ i = omega arith in
          rw (add-eq i j p q r s (omega arith)) (some-add p q f.0, (hp q (member t i) f.1.0 (rw z at g.1.0), hr s t f.1.1 g.1.1))
    ]

tidy_none : (q : PartReq) (t : Shape) → Tidy q t → Tidy (on_none q) t
unfolding on_none
tidy_none all t g = g
tidy_none exist t g = absurd g
tidy_none none t g = g
tidy_none (more j q s) t g = g

add_tidy_all : (p q : PartReq) → AddTidy p q
unfolding AddTidy
add_tidy_all all q t f g = unfold add in f
add_tidy_all exist q t f g = absurd f
add_tidy_all none q t f g = unfold add in tidy_none q t g
add_tidy_all (more i p r) q t f g = tidy_cell i p r (add_tidy_all p) (add_tidy_all r) q t f g

pub add-tidy : (p q : PartReq) (t : Shape) → Tidy p t → Tidy q t → Tidy (add p q) t
unfolding AddTidy
add-tidy p q t f g = add_tidy_all p q t f g

pub add-need : (t : Shape) (m n : PartReq) → IsNeed t m → IsNeed t n → IsNeed t (add m n)
add-need t m n f g = record { ascends = add-ascending m n f.ascends g.ascends; tidy = add-tidy m n t f.tidy g.tidy }

pub trim-need : (t : Shape) (n : PartReq) → Ascending n → IsNeed t (trim n t)
trim-need t n f = record { ascends = trim-ok n t f; tidy = trim-tidy n t }

pub none-need : (t : Shape) → IsNeed t none
none-need t = record { ascends = tt; tidy = tt }
