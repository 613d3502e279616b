-- The operations on needs never make a need of all of the frame or of one of its maps: by recursion along the need, as each is defined.
use Prim.Native.Nat.{ℕ, suc, ◌<◌}
use native.Mathlib.Omega.{arith}
use mathlib.Core.Path.{◌≡◌, refl, sym, ap}
use mathlib.Core.Bool.{Bool, true, false, cond}
use mathlib.Core.List.{List, [], ◌∷◌}
use lib.Dec.{ltb}
use borrow.Author.Tests.{lt-ltb}
use Rattle.part.specs.PartReq.{PartReq, all, exist, none, more, is_all, merge, on_none, add, spine}
use Rattle.part.specs.Ascending.{Ascending}
use Rattle.part.proofs.Equations.{before as less, after as greater, at as level, way, add-lt, add_gt, add-eq, never}
use Rattle.part.proofs.Ascending.{from_ascending}
use Rattle.clearance.specs.Shape.{Shape, number, void, struct, array, member, is_whole, under, keep, trim, split, alter, take_out}
use Rattle.clearance.specs.Scope.{Scope, Place, slots, frame}
use Rattle.clearance.specs.Needs.{without}
use Rattle.clearance.proofs.Ascending.{from_top, trim-from, out_ok}
use Rattle.needs.specs.Framed.{Framed}
use Rattle.framed.specs.Kept.{Deep}
use Rattle.framed.proofs.Takes.{frame-split, frame-opens}

-- sums

add-not_all : (p q : PartReq) → is_all p ≡ false → is_all q ≡ false → is_all (add p q) ≡ false
unfolding add merge on_none
add-not_all all q h g = never (sym h)
add-not_all exist q h g = g
add-not_all none all h g = never (sym g)
add-not_all none exist h g = refl
add-not_all none none h g = refl
add-not_all none (more j q s) h g = refl
add-not_all (more i p r) all h g = never (sym g)
add-not_all (more i p r) exist h g = refl
add-not_all (more i p r) none h g = refl
add-not_all (more i p r) (more j q s) h g =
    elim (way i j) [
      | less l ↦ ap is_all (add-lt i j p q r s l)
      | greater l ↦ ap is_all (add_gt i j p q r s l)
      | level e ↦ ap is_all (add-eq i j p q r s e)
    ]

framed_cell : (i : ℕ) (p r : PartReq) → ((q : PartReq) → Framed r → Framed q → Framed (add r q)) → (q : PartReq) → Framed (more i p r) → Framed q → Framed (add (more i p r) q)
framed_cell i p r hr all f g = absurd g
framed_cell i p r hr exist f g = unfold add merge in f
framed_cell i p r hr none f g = unfold add merge in f
framed_cell i p r hr (more j q s) f g =
    let ih = framed_cell i p r hr s f g.1 in
    elim (way i j) [
      | less l ↦ rw (add-lt i j p q r s l) (f.0, hr (more j q s) f.1 g)
      | greater l ↦ rw (add_gt i j p q r s l) (g.0, ih)
      | level e ↦ rw (add-eq i j p q r s e) (add-not_all p q f.0 g.0, hr s f.1 g.1)
    ]

none_framed : (q : PartReq) → Framed q → Framed (on_none q)
unfolding on_none
none_framed all g = absurd g
none_framed exist g = tt
none_framed none g = tt
none_framed (more j q s) g = g

pub add-framed : (p q : PartReq) → Framed p → Framed q → Framed (add p q)
add-framed all q f g = absurd f
add-framed exist q f g = unfold add in g
add-framed none q f g = unfold add in none_framed q g
add-framed (more i p r) q f g = framed_cell i p r (λ s. add-framed r s) q f g

-- what is trimmed

keep-framed : (i : ℕ) (p r : PartReq) → is_all p ≡ false → Framed r → Framed (keep i p r)
unfolding keep
keep-framed i all r h g = never (sym h)
keep-framed i exist r h g = g
keep-framed i none r h g = g
keep-framed i (more j p s) r h g = (refl, g)

trim-not_all : (p : PartReq) (t : Shape) → is_all p ≡ false → Ascending p → is_all (trim p t) ≡ false
trim-not_all all t h f = never (sym h)
trim-not_all exist t h f = unfold trim in refl
trim-not_all none t h f = unfold trim in refl
trim-not_all (more i p r) t h f = from_top 0 (trim (more i p r) t) (trim-from 0 (more i p r) t (omega arith, f))

pub trim-framed : (p : PartReq) (t : Shape) → Ascending p → Framed p → Framed (trim p t)
unfolding trim
trim-framed all t a f = absurd f
trim-framed exist t a f = tt
trim-framed none t a f = tt
trim-framed (more i p r) t a f =
    keep-framed i _ _ (trim-not_all p (member t i) f.0 a.0) (trim-framed r t (from_ascending (suc i) r a.1) f.1)

-- a part at a place

keep-none : (j : ℕ) (p : PartReq) → is_all (keep j p none) ≡ false
unfolding keep
keep-none j all = refl
keep-none j exist = refl
keep-none j none = refl
keep-none j (more i p r) = refl

void-step : (j : ℕ) → member void j ≡ void
unfolding member
void-step j = refl

trim-void : (p : PartReq) → trim p void ≡ none
unfolding trim keep
trim-void all = refl
trim-void exist = refl
trim-void none = refl
trim-void (more i p r) = rw (void-step i, trim-void p) (trim-void r)

low_void : (S : Scope) (i : ℕ) → i < spine → member (frame S) i ≡ void
unfolding frame slots member
low_void S i l = rw (lt-ltb i spine l)

pub under-framed : (S : Scope) (q : Place) (a : PartReq) → Deep q → Framed (trim (under q a) (frame S))
unfolding under trim
under-framed S [] a d = absurd d
under-framed S (i ∷ []) a d = rw (low_void S i d, trim-void a) (keep-framed i none none refl tt)
under-framed S (i ∷ j ∷ q) a d = keep-framed i _ none (keep-none j _) tt

-- what is left without a part

either_not_all : (b : Bool) (p q : PartReq) → is_all p ≡ false → is_all q ≡ false → is_all (cond b p q) ≡ false
either_not_all true p q h g = h
either_not_all false p q h g = g

alter-not_all : (i : ℕ) (f : PartReq → PartReq) (p : PartReq) → is_all p ≡ false → is_all (alter i f p) ≡ false
unfolding alter
alter-not_all i f all h = never (sym h)
alter-not_all i f exist h = refl
alter-not_all i f none h = refl
alter-not_all i f (more j p r) h = either_not_all (ltb j i) _ _ refl (either_not_all (ltb i j) (more j p r) (more j (f p) r) refl refl)

split-not_all : (t : Shape) (p : PartReq) → is_all p ≡ false → is_all (split t p) ≡ false
unfolding split
split-not_all number p h = h
split-not_all void p h = h
split-not_all (struct b n f) all h = never (sym h)
split-not_all (struct b n f) exist h = refl
split-not_all (struct b n f) none h = refl
split-not_all (struct b n f) (more i p r) h = refl
split-not_all (array n t) p h = h

out_not_all : (q : List ℕ) (t : Shape) (p : PartReq) → is_all p ≡ false → is_all (take_out t p q) ≡ false
unfolding take_out
out_not_all [] t p h = refl
out_not_all (i ∷ q) t p h = either_not_all (is_whole t) p _ h (alter-not_all i (λ c. take_out (member t i) c q) (split t p) (split-not_all t p h))

alter-framed : (i : ℕ) (f : PartReq → PartReq) → ((c : PartReq) → is_all c ≡ false → is_all (f c) ≡ false) → (p : PartReq) → Framed p → Framed (alter i f p)
unfolding alter
alter-framed i f h all g = absurd g
alter-framed i f h exist g = tt
alter-framed i f h none g = tt
alter-framed i f h (more j p r) g = go (ltb j i) (ltb i j) (alter-framed i f h r g.1)
  where
    go : (b c : Bool) → Framed (alter i f r) → Framed (cond b (more j p (alter i f r)) (cond c (more j p r) (more j (f p) r)))
    go true c z = (g.0, z)
    go false true z = g
    go false false z = (h p g.0, g.1)

out_framed : (S : Scope) (q : Place) (n : PartReq) → Framed n → Framed (take_out (frame S) n q)
unfolding take_out
out_framed S [] n f = tt
out_framed S (i ∷ q) n f =
    rw (frame-opens S, frame-split S n f)
    (alter-framed i (λ c. take_out (member (frame S) i) c q) (λ c h. out_not_all q (member (frame S) i) c h) n f)

pub without-framed : (S : Scope) (q : Place) (n : PartReq) → Ascending n → Framed n → Framed (without S q n)
unfolding without
without-framed S q n a f = trim-framed (take_out (frame S) n q) (frame S) (out_ok q (frame S) n a) (out_framed S q n f)
