-- The order of needs: what one covers within the type, the other covers. Every operation on needs keeps it.
use Prim.Native.Nat.{ℕ, zero, suc, ◌≤◌}
use native.Mathlib.Omega.{arith}
use native.Mathlib.Decide.{ℕ_discrete}
use mathlib.Core.Path.{◌≡◌, refl, sym, ap, ◌∙◌}
use mathlib.Core.Bool.{Bool, true, false, cond}
use mathlib.Core.List.{List, [], ◌∷◌, ◌++◌, map}
use mathlib.Core.Option.{Option, some as present, none as nothing}
use lib.Dec.{ltb}
use borrow.Author.Tests.{lt-ltb, le-ltb, eq-eqb, not-true}
use Rattle.part.specs.PartReq.{PartReq, all, exist, none, more, there, get_subpart, is_all, add}
use Rattle.part.specs.Ascending.{Ascending, From}
use Rattle.part.proofs.Equations.{before as less, after as greater, at as level, way, get_subpart-at, get_subpart-after, never}
use Rattle.module.specs.Module.{ExpressionHandle}
use Rattle.clearance.specs.Shape.{Shape, number, void, struct, array, member, is_whole, is_void, shape_at, inside, cov, or_none, below, under, some, keep, trim, hit}
use Rattle.clearance.specs.Shape.{members, split, alter, take_out, begins, after}
use Rattle.clearance.specs.Scope.{Scope, Place, slot, evaluated, frame, Operand, whole, same, Arm, fixed, argued, pointing, operator, access_index, access}
use Rattle.clearance.specs.Scope.{swizzle, compose, joined, load, unjudged, arm, Source, given, from, source, Path, path_of, target}
use Rattle.clearance.specs.Tree.{Act, emit, store}
use Rattle.clearance.specs.Needs.{Ask, of_value, of_place, ask_operand, ask_whole, ask_picked, ask_components, ask_steps, asks, gives, need_at, need_from, need, needs}
use Rattle.clearance.specs.Needs.{overlap, without, storing, giving, before, idle, wholly, turning, valued}
use Rattle.clearance.specs.IsNeed.{IsNeed}
use Rattle.clearance.proofs.Small.{cases}
use Rattle.clearance.proofs.Cov.{cov-all, cov-none, cov-exist, cov-below, cov-under, cov-add, cov-add-left, cov-add-right, cov-after, cov-before, cov-here}
use Rattle.clearance.proofs.Cov.{with_map, cov-is_all, cov-extend, keep-after, within_void, within_at, cov-trim, cov-hit, alter-off, alter_at, spread_sub, either_cov, cov-there}
use Rattle.clearance.proofs.Cov.{starts_rest, cov-some, cov-or_none, under-starts}
use Rattle.clearance.proofs.Ascending.{from_top, from_low, keep-from, trim-ok, trim-from, under-ok, sub_ok, there-ok, below-ok, spread_ok, out_ok}
use Rattle.clearance.proofs.Ascending.{add-need, trim-need, none-need}

-- wherever a covers, b covers; the same inside a type
abbrev pub Full : PartReq → PartReq → Type 0
Full a b = (q : List ℕ) → cov a q ≡ true → cov b q ≡ true

abbrev pub In : Shape → PartReq → PartReq → Type 0
In t a b = (q : List ℕ) → inside t q ≡ true → cov a q ≡ true → cov b q ≡ true

add-cases : {A : Type 0} (a b : PartReq) (q : List ℕ) → cov (add a b) q ≡ true → (cov a q ≡ true → A) → (cov b q ≡ true → A) → A
add-cases a b q h f g =
    let z = sym (cov-add a b q) ∙ h in
    cases (cov a q) f (λ e. g (rw e at z))

-- what a trimmed part covers, it covers from a path inside the type on
abbrev pub Reach : PartReq → Shape → List ℕ → Type 0
Reach a t q = (o : List ℕ) × (inside t o ≡ true) × (cov a o ≡ true) × ((b : PartReq) → cov b o ≡ true → cov b q ≡ true)

keep-less : (i j : ℕ) (p r : PartReq) (q : List ℕ) → From (suc i) r → j ≤ i → i ≤ j → cov (keep i p r) (j ∷ q) ≡ true → cov p q ≡ true
unfolding keep
keep-less i j all r q f h l c = cov-all q
keep-less i j exist r q f h l c = never (sym (from_low (suc i) j r q f (omega arith)) ∙ c)
keep-less i j none r q f h l c = never (sym (from_low (suc i) j r q f (omega arith)) ∙ c)
keep-less i j (more k p s) r q f h l c = sym (cov-here i j (more k p s) r q h l) ∙ c

trim-sub : (k : ℕ) (a : PartReq) (t : Shape) (j : ℕ) (q : List ℕ) → From k a → cov (trim a t) (j ∷ q) ≡ true →
    (c : PartReq) × (get_subpart a j ≡ there c) × (cov (trim c (member t j)) q ≡ true)
unfolding trim
trim-sub k all t j q f h = absurd f
trim-sub k exist t j q f h = absurd f
trim-sub k none t j q f h = never (sym (cov-none (j ∷ q)) ∙ h)
trim-sub k (more i p r) t j q f h =
    let ih = trim-sub (suc i) r t j q f.1.1 in
    let fr = trim-from (suc i) r t f.1.1 in
    elim (way i j) [
      | less l ↦ let z = ih (sym (keep-after i j _ _ q l) ∙ h) in (z.0, get_subpart-after i j p r l ∙ z.1, z.2)
      | greater l ↦
          never (sym (from_low i j _ q (keep-from i i (trim p (member t i)) (trim r t) (omega arith) (trim-ok p (member t i) f.1.0) fr) l) ∙ h)
      | level eq ↦ let l : j ≤ i = omega arith in let m : i ≤ j = omega arith in
          let z : i ≡ j = omega arith in
          (p, get_subpart-at i j p r (omega arith), rw (← z) (keep-less i j (trim p (member t i)) (trim r t) q fr l m h))
    ]

reach_all : (t : Shape) (q : List ℕ) → cov (trim all t) q ≡ true → Reach all t q
unfolding trim inside cov
reach_all number q c = ([], refl, refl, λ b h. cov-is_all b q h)
reach_all void q c = never (sym (cov-none q) ∙ c)
reach_all (struct b n f) q c = ([], refl, refl, λ b h. cov-is_all b q h)
reach_all (array n t) q c = ([], refl, refl, λ b h. cov-is_all b q h)

reach_top : (a : PartReq) (t : Shape) → Ascending a → cov (trim a t) [] ≡ true → Reach a t []
reach_top all t f c = reach_all t [] c
reach_top exist t f c = never (sym (cov-none []) ∙ (unfold trim in c))
reach_top none t f c = never (sym (cov-none []) ∙ (unfold trim in c))
reach_top (more i p r) t f c = never (sym (from_top 0 (trim (more i p r) t) (trim-from 0 (more i p r) t (omega arith, f))) ∙ (unfold cov in c))

reach_down : (a : PartReq) (t : Shape) (j : ℕ) (q : List ℕ) → Ascending a → cov (trim a t) (j ∷ q) ≡ true →
    ((d : PartReq) → Ascending d → cov (trim d (member t j)) q ≡ true → Reach d (member t j) q) → Reach a t (j ∷ q)
unfolding inside cov
reach_down all t j q f c ih = reach_all t (j ∷ q) c
reach_down exist t j q f c ih = never (sym (cov-none (j ∷ q)) ∙ (unfold trim in c))
reach_down none t j q f c ih = never (sym (cov-none (j ∷ q)) ∙ (unfold trim in c))
reach_down (more i p r) t j q f c ih =
    let z = trim-sub 0 (more i p r) t j q (omega arith, f) c in
    let y = ih z.0 (there-ok (more i p r) z.0 j f z.1) z.2 in
    (j ∷ y.0, y.1, rw z.1 y.2, λ b h. with_map (get_subpart b j) _ _ (λ d. y.3 d) h)

pub reach : (q : List ℕ) (a : PartReq) (t : Shape) → Ascending a → cov (trim a t) q ≡ true → Reach a t q
reach [] a t f c = reach_top a t f c
reach (j ∷ q) a t f c = reach_down a t j q f c (λ d g x. reach q d (member t j) g x)

trim-less : (a : PartReq) (t : Shape) → Ascending a → Full (trim a t) a
trim-less a t f q c = let z = reach q a t f c in z.3 a z.2

trim-full : (a b : PartReq) (t : Shape) → Ascending a → In t a b → Full (trim a t) (trim b t)
trim-full a b t f h q c = let z = reach q a t f c in z.3 (trim b t) (cov-trim b t z.0 z.1 (h z.0 z.1 z.2))

-- something is asked where something is covered
abbrev pub Seen : PartReq → Type 0
Seen a = (q : List ℕ) × (cov a q ≡ true)

keep-seen : (i : ℕ) (p r : PartReq) → (some p ≡ true → Seen p) → (some r ≡ true → Seen r) → some (keep i p r) ≡ true → Seen (keep i p r)
unfolding keep
keep-seen i all r f g h = (i ∷ [], cov-here i i all r [] (omega arith) (omega arith) ∙ cov-all [])
keep-seen i exist r f g h = g h
keep-seen i none r f g h = g h
keep-seen i (more j p s) r f g h = let z = f refl in (i ∷ z.0, cov-here i i (more j p s) r z.0 (omega arith) (omega arith) ∙ z.1)

seen_all : (b : Bool) → some (cond b none all) ≡ true → Seen (cond b none all)
seen_all true h = never h
seen_all false h = ([], cov-all [])

pub seen : (a : PartReq) (t : Shape) → some (trim a t) ≡ true → Seen (trim a t)
unfolding trim
seen all t h = seen_all (is_void t) h
seen exist t h = never h
seen none t h = never h
seen (more i p r) t h = keep-seen i _ _ (seen p (member t i)) (seen r t) h

-- what is asked of a place
below_in : (t : Shape) (m n : PartReq) (p : Place) → In t m n → In (shape_at t p) (below m p) (below n p)
below_in t m n p h q w c = cov-below n p q ∙ h (p ++ q) (sym (within_at t p q) ∙ w) (sym (cov-below m p q) ∙ c)

hit-full : (t : Shape) (m n : PartReq) (p : Place) → Ascending m → In t m n → Full (hit t m p) (hit t n p)
unfolding hit
hit-full t m n p f h = trim-full (below m p) (below n p) (shape_at t p) (below-ok m p f) (below_in t m n p h)

hit-some : (t : Shape) (m n : PartReq) (p : Place) → Ascending m → In t m n → some (hit t m p) ≡ true → some (hit t n p) ≡ true
hit-some t m n p f h s =
    let z : Seen (hit t m p) = unfold hit in seen (below m p) (shape_at t p) (unfold hit in s) in
    cov-some _ z.0 (hit-full t m n p f h z.0 z.1)

-- taking out
alter-less : (i : ℕ) (f : PartReq → PartReq) (k : ℕ) (a : PartReq) (q : List ℕ) → From k a → cov (alter i f a) (i ∷ q) ≡ true →
    (c : PartReq) × (get_subpart a i ≡ there c) × (cov (f c) q ≡ true)
unfolding alter
alter-less i f k all q g h = absurd g
alter-less i f k exist q g h = absurd g
alter-less i f k none q g h = never (sym (cov-none (i ∷ q)) ∙ h)
alter-less i f k (more j p r) q g h =
    let ih = alter-less i f (suc j) r q g.1.1 in
    elim (way j i) [
      | less l ↦ let z = ih (sym (cov-after j i p (alter i f r) q l) ∙ (rw (lt-ltb j i l) at h)) in (z.0, get_subpart-after j i p r l ∙ z.1, z.2)
      | greater l ↦ let y : i ≤ j = omega arith in never (sym (cov-before j i p r q l) ∙ (rw (le-ltb j i y, lt-ltb i j l) at h))
      | level eq ↦ let l : i ≤ j = omega arith in let m : j ≤ i = omega arith in (p, get_subpart-at j i p r (omega arith), sym (cov-here j i (f p) r q l m) ∙ (rw (le-ltb j i l, le-ltb i j m) at h))
    ]

alter-under : (i : ℕ) (f : PartReq → PartReq) (a : PartReq) (q : List ℕ) → Ascending a → is_all a ≡ false → cov (alter i f a) (i ∷ q) ≡ true →
    (c : PartReq) × (get_subpart a i ≡ there c) × (cov (f c) q ≡ true)
alter-under i f all q g e h = never (sym e)
alter-under i f exist q g e h = never (sym (cov-exist (i ∷ q)) ∙ (unfold alter in h))
alter-under i f none q g e h = never (sym (cov-none (i ∷ q)) ∙ (unfold alter in h))
alter-under i f (more j p r) q g e h = alter-less i f 0 (more j p r) q (omega arith, g) h

spread_struct : (b n : ℕ) (m : ℕ → Shape) (a : PartReq) → is_all (split (struct b n m) a) ≡ false
unfolding split members
spread_struct b zero m all = refl
spread_struct b (suc n) m all = refl
spread_struct b n m exist = refl
spread_struct b n m none = refl
spread_struct b n m (more i p r) = refl

-- below a path, what is split is no all
spread_open : (t : Shape) (a : PartReq) (i : ℕ) (q : List ℕ) → inside t (i ∷ q) ≡ true → is_whole t ≡ false → is_all (split t a) ≡ false
unfolding inside member
spread_open number a i q w e = never (sym (within_void q) ∙ w)
spread_open void a i q w e = never (sym (within_void q) ∙ w)
spread_open (struct b n m) a i q w e = spread_struct b n m a
spread_open (array n t) a i q w e = never (sym e)

alter-top : (i : ℕ) (f : PartReq → PartReq) (a : PartReq) → is_all (alter i f a) ≡ is_all a
unfolding alter
alter-top i f all = refl
alter-top i f exist = refl
alter-top i f none = refl
alter-top i f (more j p r) = cases (ltb j i) (λ e. rw e) (λ e. rw e (cases (ltb i j) (λ g. rw g) (λ g. rw g)))

spread_top : (t : Shape) (a b : PartReq) → is_all (split t a) ≡ true → (is_all a ≡ true → is_all b ≡ true) → (is_all a ≡ true) × (is_all (split t b) ≡ true)
unfolding split
spread_top number a b h g = (h, g h)
spread_top void a b h g = (h, g h)
spread_top (struct i n m) a b h g = never (sym (spread_struct i n m a) ∙ h)
spread_top (array n t) a b h g = (h, g h)

sub_cov : (a c : PartReq) (j : ℕ) (q : List ℕ) → get_subpart a j ≡ there c → cov a (j ∷ q) ≡ cov c q
unfolding cov
sub_cov a c j q e = rw e

abbrev OutLess : List ℕ → Type 0
OutLess p = (t : Shape) (a : PartReq) (q : List ℕ) → Ascending a → inside t q ≡ true → cov (take_out t a p) q ≡ true → cov a q ≡ true

out_less_down : (i : ℕ) (p : List ℕ) → OutLess p → (t : Shape) (a : PartReq) (q : List ℕ) → Ascending a → is_whole t ≡ false → inside t q ≡ true →
    cov (alter i (λ c. take_out (member t i) c p) (split t a)) q ≡ true → cov a q ≡ true
unfolding cov inside
out_less_down i p ih t a [] f e w c = (spread_top t a a (sym (alter-top i _ (split t a)) ∙ c) (λ h. h)).0
out_less_down i p ih t a (j ∷ q) f e w c =
    elim (ℕ_discrete i j) [
      | yes z ↦
          let d = rw z at c in
          let y = alter-under j (λ c. take_out (member t j) c p) (split t a) q (spread_ok t a f) (spread_open t a j q w e) d in
          let x = sym (spread_sub t a j q w) ∙ y.1 in
          sub_cov a y.0 j q x ∙ ih (member t j) y.0 q (there-ok a y.0 j f x) w y.2
      | no z ↦ rw (alter-off i j _ (split t a) z, spread_sub t a j q w) at c
    ]

out_less : (p : List ℕ) → OutLess p
unfolding take_out
out_less [] t a q f w c = never (sym (cov-none q) ∙ c)
out_less (i ∷ p) t a q f w c =
    cases (is_whole t) (λ e. rw e at c) (λ e. out_less_down i p (out_less p) t a q f e w (rw e at c))

abbrev OutMono : List ℕ → Type 0
OutMono p = (t : Shape) (a b : PartReq) (q : List ℕ) → Ascending a → In t a b → inside t q ≡ true → cov (take_out t a p) q ≡ true → cov (take_out t b p) q ≡ true

out_mono_down : (i : ℕ) (p : List ℕ) → OutMono p → (t : Shape) (a b : PartReq) (q : List ℕ) → Ascending a → In t a b → is_whole t ≡ false → inside t q ≡ true →
    cov (alter i (λ c. take_out (member t i) c p) (split t a)) q ≡ true → cov (alter i (λ c. take_out (member t i) c p) (split t b)) q ≡ true
unfolding cov inside
out_mono_down i p ih t a b [] f h e w c =
    alter-top i _ (split t b) ∙ (spread_top t a b (sym (alter-top i _ (split t a)) ∙ c) (λ g. h [] w g)).1
out_mono_down i p ih t a b (j ∷ q) f h e w c =
    elim (ℕ_discrete i j) [
      | yes z ↦
          let d = rw z at c in
          let y = alter-under j (λ c. take_out (member t j) c p) (split t a) q (spread_ok t a f) (spread_open t a j q w e) d in
          let x = sym (spread_sub t a j q w) ∙ y.1 in
          let g = there-ok a y.0 j f x in
          let l = out_less p (member t j) y.0 q g w y.2 in
          let o = cov-there b j q (h (j ∷ q) w (sub_cov a y.0 j q x ∙ l)) in
          let n : In (member t j) y.0 o.0 = λ r v s. sym (sub_cov b o.0 j r o.1) ∙ h (j ∷ r) v (sub_cov a y.0 j r x ∙ s) in
          rw z (alter_at j (λ c. take_out (member t j) c p) (split t b) o.0 q (spread_sub t b j q w ∙ o.1) (ih (member t j) y.0 o.0 q g n w y.2))
      | no z ↦
          let l : cov a (j ∷ q) ≡ true = rw (alter-off i j _ (split t a) z, spread_sub t a j q w) at c in
          rw (alter-off i j _ (split t b) z, spread_sub t b j q w) (h (j ∷ q) w l)
    ]

out_mono : (p : List ℕ) → OutMono p
unfolding take_out
out_mono [] t a b q f h w c = never (sym (cov-none q) ∙ c)
out_mono (i ∷ p) t a b q f h w c =
    cases (is_whole t) (λ e. rw e (h q w (rw e at c))) (λ e. rw e (out_mono_down i p (out_mono p) t a b q f h e w (rw e at c)))

out_apart : (p : List ℕ) (t : Shape) (a : PartReq) (q : List ℕ) →
    begins p q ≡ false → begins q p ≡ false → inside t q ≡ true → cov a q ≡ true → cov (take_out t a p) q ≡ true
unfolding take_out begins inside
out_apart [] t a q h g w c = never (sym h)
out_apart (i ∷ p) t a [] h g w c = never (sym g)
out_apart (i ∷ p) t a (j ∷ q) h g w c =
    either_cov (is_whole t) _ _ (j ∷ q) c
    (elim (ℕ_discrete i j) [
      | yes e ↦
          let z = cov-there a j q c in
          let ih = out_apart p (member t j) z.0 q (rw (eq-eqb i j e) at h) (rw (eq-eqb j i (sym e)) at g) w z.2 in
          rw e (alter_at j _ (split t a) z.0 q (spread_sub t a j q w ∙ z.1) ih)
      | no e ↦ unfold cov in rw (alter-off i j _ (split t a) e, spread_sub t a j q w) (unfold cov in c)
    ])

-- the order of needs: what one covers within the type, the other covers
pub record Le (t : Shape) (m n : PartReq) : Type 0 where
  pub low : IsNeed t m
  pub high : IsNeed t n
  pub covered : In t m n

module _ (t : Shape) where
  -- what an action that gives something of n, and nothing of m, leaves of n has all of m
  out_spared : (m n : PartReq) (p : Place) → Ascending n → some (hit t m p) ≡ false → some (hit t n p) ≡ true → In t m n → In t m (take_out t n p)
  out_spared m n p f e s h q w c = out_apart p t n q (cases (begins p q) above (λ g. g)) (cases (begins q p) (λ g. never (sym e ∙ beneath g)) (λ g. g)) w (h q w c)
    where
      above : begins p q ≡ true → begins p q ≡ false
      above g =
          let z = starts_rest p q g in
          never (sym e ∙ cov-some (hit t m p) (after p q) (cov-hit t m p (after p q) (ap (inside t) z ∙ w) (ap (cov m) z ∙ c)))

      beneath : begins q p ≡ true → some (hit t m p) ≡ true
      beneath g =
          let z = starts_rest q p g in
          let y : Seen (hit t n p) = unfold hit in seen (below n p) (shape_at t p) (unfold hit in s) in
          let x = reach y.0 (below n p) (shape_at t p) (below-ok n p f) (unfold hit in y.1) in
          let v : cov m p ≡ true = rw z at (cov-extend m q (after q p) c) in
          cov-some (hit t m p) x.0 (cov-hit t m p x.0 (sym (within_at t p x.0) ∙ x.1) (cov-extend m p x.0 v))

  pub le_self : (n : PartReq) → IsNeed t n → Le t n n
  le_self n f = record { low = f; high = f; covered = λ q w c. c }

  pub le_chain : (m n o : PartReq) → Le t m n → Le t n o → Le t m o
  le_chain m n o h g = record { low = h.low; high = g.high; covered = λ q w c. g.covered q w (h.covered q w c) }

  pub none-le : (n : PartReq) → IsNeed t n → Le t none n
  none-le n f = record { low = none-need t; high = f; covered = λ q w c. never (sym (cov-none q) ∙ c) }

  pub add_left : (m n o : PartReq) → Le t m n → IsNeed t o → Le t m (add n o)
  add_left m n o h f = record { low = h.low; high = add-need t n o h.high f; covered = λ q w c. cov-add-left n o q (h.covered q w c) }

  pub add_right : (m n o : PartReq) → Le t m n → IsNeed t o → Le t m (add o n)
  add_right m n o h f = record { low = h.low; high = add-need t o n f h.high; covered = λ q w c. cov-add-right o n q (h.covered q w c) }

  pub add-least : (m n o : PartReq) → Le t m o → Le t n o → Le t (add m n) o
  add-least m n o h g = record {
    low = add-need t m n h.low g.low;
    high = h.high;
    covered = λ q w c. add-cases m n q c (h.covered q w) (g.covered q w);
  }

  pub add-mono : (m n o p : PartReq) → Le t m o → Le t n p → Le t (add m n) (add o p)
  add-mono m n o p h g = add-least m n (add o p) (add_left m o p h g.high) (add_right n p o g h.high)

  under-full : (p : Place) (a b : PartReq) → Full a b → Full (under p a) (under p b)
  under-full p a b h q c =
      let z = starts_rest p q (under-starts p a q c) in
      sym (ap (cov (under p b)) z) ∙ cov-under b p (after p q) ∙ h (after p q) (sym (cov-under a p (after p q)) ∙ ap (cov (under p a)) z ∙ c)

  trim-under : (p : Place) (a b : PartReq) → Ascending a → Ascending b → Full a b → Le t (trim (under p a) t) (trim (under p b) t)
  trim-under p a b f g h = record {
    low = trim-need t _ (under-ok p a f);
    high = trim-need t _ (under-ok p b g);
    covered = λ q w c. cov-trim (under p b) t q w (under-full p a b h q (trim-less (under p a) t (under-ok p a f) q c));
  }

  out_le : (p : Place) (m n : PartReq) → Le t m n → Le t (trim (take_out t m p) t) (trim (take_out t n p) t)
  out_le p m n h =
      let f = out_ok p t m h.low.ascends in
      record {
        low = trim-need t _ f;
        high = trim-need t _ (out_ok p t n h.high.ascends);
        covered = λ q w c.
            cov-trim (take_out t n p) t q w (out_mono p t m n q h.low.ascends h.covered w (trim-less (take_out t m p) t f q c));
      }

  out_more : (p : Place) (m n : PartReq) → Le t m n → some (hit t m p) ≡ false → some (hit t n p) ≡ true → Le t m (trim (take_out t n p) t)
  out_more p m n h e s = record {
    low = h.low;
    high = trim-need t _ (out_ok p t n h.high.ascends);
    covered = λ q w c. cov-trim (take_out t n p) t q w (out_spared m n p h.high.ascends e s h.covered q w c);
  }

  hit-ok : (m : PartReq) (p : Place) → Ascending m → Ascending (hit t m p)
  unfolding hit
  hit-ok m p f = trim-ok _ _ (below-ok m p f)

-- parts of which the second has all that the first has
pub record Wider (a b : PartReq) : Type 0 where
  pub first : Ascending a
  pub second : Ascending b
  pub full : Full a b

-- asks of the same things, the second for wider parts
data Asks : List Ask → List Ask → Type 0 where
  none' : Asks [] []
  value : {e : ExpressionHandle} {a b : PartReq} {xs ys : List Ask} → Wider a b → Asks xs ys → Asks (of_value e a ∷ xs) (of_value e b ∷ ys)
  place : {p : Place} {a b : PartReq} {xs ys : List Ask} → Wider a b → Asks xs ys → Asks (of_place p a ∷ xs) (of_place p b ∷ ys)

all-wider : Wider all all
all-wider = record { first = tt; second = tt; full = λ q c. c }

sub_wider : (a b : PartReq) (j : ℕ) → Wider a b → Wider (or_none (get_subpart a j)) (or_none (get_subpart b j))
sub_wider a b j w = record {
  first = sub_ok a j w.first;
  second = sub_ok b j w.second;
  full = λ q c. cov-or_none (get_subpart b j) q ∙ (unfold cov in w.full (j ∷ q) (sym (cov-or_none (get_subpart a j) q) ∙ c));
}

index_full : (i : ℕ) (a b : PartReq) → Full a b → Full (more i a none) (more i b none)
unfolding cov
index_full i a b h [] c = never c
index_full i a b h (j ∷ q) c =
    elim (way i j) [
      | less l ↦ never (sym (cov-none (j ∷ q)) ∙ sym (cov-after i j a none q l) ∙ c)
      | greater l ↦ never (sym (cov-before i j a none q l) ∙ c)
      | level eq ↦ let l : j ≤ i = omega arith in let m : i ≤ j = omega arith in cov-here i j b none q l m ∙ h q (sym (cov-here i j a none q l m) ∙ c)
    ]

index_wider : (i : ℕ) (a b : PartReq) → Wider a b → Wider (more i a none) (more i b none)
index_wider i a b w = record { first = (w.first, tt); second = (w.second, tt); full = index_full i a b w.full }

whole_asks : (xs : List ExpressionHandle) → Asks (map ask_whole xs) (map ask_whole xs)
whole_asks [] = none'
whole_asks (x ∷ xs) = value all-wider (whole_asks xs)

operand_asks : (a b : PartReq) → Wider a b → (xs : List Operand) → Asks (map (ask_operand a) xs) (map (ask_operand b) xs)
unfolding ask_operand
operand_asks a b w [] = none'
operand_asks a b w (whole x ∷ xs) = value all-wider (operand_asks a b w xs)
operand_asks a b w (same x ∷ xs) = value w (operand_asks a b w xs)

picked_asks : (a b : PartReq) → Wider a b → (v : ExpressionHandle) (is : List ℕ) (k : ℕ) → Asks (ask_picked v is k a) (ask_picked v is k b)
unfolding ask_picked
picked_asks a b w v [] k = none'
picked_asks a b w v (i ∷ is) k = value (index_wider i _ _ (sub_wider a b k w)) (picked_asks a b w v is (suc k))

component_asks : (a b : PartReq) → Wider a b → (cs : List ExpressionHandle) (k : ℕ) → Asks (ask_components cs k a) (ask_components cs k b)
unfolding ask_components
component_asks a b w [] k = none'
component_asks a b w (c ∷ cs) k = value (sub_wider a b k w) (component_asks a b w cs (suc k))

step_asks : (a b : PartReq) → Wider a b → (p : Path) (is : List ExpressionHandle) → Asks (ask_steps p is a) (ask_steps p is b)
unfolding ask_steps
step_asks a b w p [] = place w none'
step_asks a b w p (i ∷ is) = place all-wider (value all-wider (whole_asks is))

asks-wider : (S : Scope) (x : Arm) (a b : PartReq) → Wider a b → Asks (asks S x a) (asks S x b)
unfolding asks
asks-wider S fixed a b w = none'
asks-wider S (argued i) a b w = none'
asks-wider S pointing a b w = none'
asks-wider S (operator xs) a b w = operand_asks a b w xs
asks-wider S (access_index base i) a b w = value (index_wider i a b w) none'
asks-wider S (access base index) a b w = value all-wider (value all-wider none')
asks-wider S (swizzle v pattern) a b w = picked_asks a b w v pattern 0
asks-wider S (compose cs) a b w = component_asks a b w cs 0
asks-wider S (joined cs) a b w = whole_asks cs
asks-wider S (load p) a b w = step_asks a b w (path_of S p) _
asks-wider S unjudged a b w = none'

module _ (S : Scope) where
  at_mono : (p : Place) (a b m n : PartReq) → Wider a b → Le (frame S) m n → Le (frame S) (need_at S p a m) (need_at S p b n)
  unfolding need_at
  at_mono p a b m n w h = add-mono (frame S) _ m _ n (trim-under (frame S) p a b w.first w.second w.full) h

  from_mono : (x : Source) (a b m n : PartReq) → Wider a b → Le (frame S) m n → Le (frame S) (need_from S x a m) (need_from S x b n)
  unfolding need_from
  from_mono given a b m n w h = h
  from_mono (from p) a b m n w h = at_mono p a b m n w h

  at_more : (p : Place) (a m n : PartReq) → Ascending a → Le (frame S) m n → Le (frame S) m (need_at S p a n)
  unfolding need_at
  at_more p a m n f h = add_right (frame S) m n _ h (trim-need (frame S) _ (under-ok p a f))

  from_more : (x : Source) (a m n : PartReq) → Ascending a → Le (frame S) m n → Le (frame S) m (need_from S x a n)
  unfolding need_from
  from_more given a m n f h = h
  from_more (from p) a m n f h = at_more p a m n f h

  needs-mono : (xs ys : List Ask) (m n : PartReq) → Asks xs ys → Le (frame S) m n → Le (frame S) (needs S xs m) (needs S ys n)
  unfolding needs need
  needs-mono xs ys m n none' h = h
  needs-mono xs ys m n (value {e = e} w z) h = from_mono (source S e) _ _ _ _ w (needs-mono _ _ m n z h)
  needs-mono xs ys m n (place {p = p} w z) h = at_mono p _ _ _ _ w (needs-mono _ _ m n z h)

  needs-more : (xs ys : List Ask) (m n : PartReq) → Asks xs ys → Le (frame S) m n → Le (frame S) m (needs S ys n)
  unfolding needs need
  needs-more xs ys m n none' h = h
  needs-more xs ys m n (value {e = e} w z) h = from_more (source S e) _ m _ w.second (needs-more _ _ m n z h)
  needs-more xs ys m n (place {p = p} w z) h = at_more p _ m _ w.second (needs-more _ _ m n z h)

  whole_one : (e : ExpressionHandle) → Asks (ask_whole e ∷ []) (ask_whole e ∷ [])
  whole_one e = value all-wider none'

  pub wholly-mono : (e : ExpressionHandle) (m n : PartReq) → Le (frame S) m n → Le (frame S) (wholly S e m) (wholly S e n)
  unfolding wholly
  wholly-mono e m n h = needs-mono _ _ m n (whole_one e) h

  hit-wider : (m n : PartReq) (p : Place) → Le (frame S) m n → Wider (hit (frame S) m p) (hit (frame S) n p)
  hit-wider m n p h = record {
    first = hit-ok (frame S) m p h.low.ascends;
    second = hit-ok (frame S) n p h.high.ascends;
    full = hit-full (frame S) m n p h.low.ascends h.covered;
  }

  overlap-some : (x : Act) (m n : PartReq) → Le (frame S) m n → some (overlap S x m) ≡ true → some (overlap S x n) ≡ true
  unfolding overlap
  overlap-some (emit e) m n h s =
      cases (gives (arm S e))
      (λ g. rw g (hit-some (frame S) m n _ h.low.ascends h.covered (rw g at s)))
      (λ g. never (rw g at s))
  overlap-some (store p v) m n h s = hit-some (frame S) m n _ h.low.ascends h.covered s

  without-mono : (p : Place) (m n : PartReq) → Le (frame S) m n → Le (frame S) (without S p m) (without S p n)
  unfolding without
  without-mono p m n h = out_le (frame S) p m n h

  storing-mono : (p : Path) (is : List ExpressionHandle) (v : ExpressionHandle) (a b m n : PartReq) → Wider a b → Le (frame S) m n →
      Le (frame S) (storing S p is v a m) (storing S p is v b n)
  unfolding storing
  storing-mono p [] v a b m n w h = needs-mono _ _ _ _ (value w none') (without-mono (target p) m n h)
  storing-mono p (i ∷ is) v a b m n w h = needs-mono _ _ m n (value all-wider (value all-wider (whole_asks is))) h

  giving-mono : (x : Act) (m n : PartReq) → some (overlap S x m) ≡ true → Le (frame S) m n → Le (frame S) (giving S x (overlap S x m) m) (giving S x (overlap S x n) n)
  unfolding giving overlap
  giving-mono (emit e) m n s h =
      cases (gives (arm S e))
      (λ g. rw g (needs-mono _ _ _ _ (asks-wider S (arm S e) _ _ (hit-wider m n (slot (evaluated e)) h)) (without-mono (slot (evaluated e)) m n h)))
      (λ g. never (rw g at s))
  giving-mono (store p v) m n s h = storing-mono (path_of S p) _ v _ _ m n (hit-wider m n (target (path_of S p)) h) h

  storing-more : (p : Path) (is : List ExpressionHandle) (v : ExpressionHandle) (m n : PartReq) → Le (frame S) m n →
      some (hit (frame S) m (target p)) ≡ false → some (hit (frame S) n (target p)) ≡ true → Le (frame S) m (storing S p is v (hit (frame S) n (target p)) n)
  unfolding storing without
  storing-more p [] v m n h e s =
      needs-more _ _ m _ (value (hit-wider n n (target p) (le_self (frame S) n h.high)) none') (out_more (frame S) (target p) m n h e s)
  storing-more p (i ∷ is) v m n h e s = needs-more _ _ m n (value all-wider (value all-wider (whole_asks is))) h

  -- what an act that gives something of n, and nothing of m, leaves needed has all of m
  giving-more : (x : Act) (m n : PartReq) → Le (frame S) m n → some (overlap S x m) ≡ false → some (overlap S x n) ≡ true → Le (frame S) m (giving S x (overlap S x n) n)
  unfolding giving overlap without
  giving-more (emit e) m n h i s =
      cases (gives (arm S e))
      (λ g.
      rw g
      (needs-more _ _ m _ (asks-wider S (arm S e) _ _ (hit-wider n n (slot (evaluated e)) (le_self (frame S) n h.high)))
      (out_more (frame S) (slot (evaluated e)) m n h (rw g at i) (rw g at s))))
      (λ g. never (rw g at s))
  giving-more (store p v) m n h i s = storing-more (path_of S p) _ v m n h i s

  pub before-mono : (x : Act) (m n : PartReq) → Le (frame S) m n → Le (frame S) (before S x m) (before S x n)
  unfolding before
  before-mono x m n h =
      cases (some (overlap S x m))
      (λ e. rw (e, overlap-some x m n h e) (giving-mono x m n e h))
      (λ e. cases (some (overlap S x n)) (λ g. rw (e, g) (giving-more x m n h e g)) (λ g. rw (e, g) h))

  pub idle-less : (x : Act) (m n : PartReq) → Le (frame S) m n → idle S x n ≡ true → idle S x m ≡ true
  unfolding idle
  idle-less x m n h i =
      cases (some (overlap S x m))
      (λ e. never (sym (not-true (some (overlap S x n)) i) ∙ overlap-some x m n h e))
      (λ e. rw e)

  pub before-idle : (x : Act) (m : PartReq) → IsNeed (frame S) m → idle S x m ≡ true → Le (frame S) m (before S x m)
  unfolding idle before
  before-idle x m f i = rw (not-true (some (overlap S x m)) i) (le_self (frame S) m f)

  pub turning-mono : (c : Option ExpressionHandle) (i j m n : PartReq) → Le (frame S) i j → Le (frame S) m n → Le (frame S) (turning S i c m) (turning S j c n)
  unfolding turning
  turning-mono nothing i j m n h g = h
  turning-mono (present c) i j m n h g = wholly-mono c _ _ (add-mono (frame S) m i n j g h)

  pub valued-mono : (a : PartReq) → Ascending a → (v : Option ExpressionHandle) (m n : PartReq) → Le (frame S) m n → Le (frame S) (valued S a v m) (valued S a v n)
  unfolding valued
  valued-mono a f nothing m n h = h
  valued-mono a f (present v) m n h = needs-mono _ _ m n (value (record { first = f; second = f; full = λ q c. c }) none') h
