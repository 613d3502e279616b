-- Requirements as sets of paths: the laws that the needs rest on.
use Prim.Native.Nat.{ℕ, zero, suc, ◌+◌, ◌-◌, ◌<◌, ◌≤◌}
use native.Mathlib.Omega.{arith}
use native.Mathlib.Decide.{ℕ_discrete, dec_lt}
use mathlib.Core.Path.{◌≡◌, refl, sym, ap, ◌∙◌}
use mathlib.Core.Bool.{Bool, true, false, cond, ◌||◌, or-true, or-false}
use mathlib.Core.List.{List, [], ◌∷◌, ◌++◌}
use lib.Dec.{eqb}
use borrow.Author.Tests.{lt-ltb, le-ltb, eq-eqb, eqb-true}
use Rattle.part.specs.PartReq.{PartReq, all, exist, none, more, Subpart, gone, there, get_subpart, is_all, add, merge, on_none, contains}
use Rattle.part.proofs.Equations.{before as less, after as greater, at as level, way, get_subpart_before, get_subpart-at, get_subpart-after, add-lt, add_gt, add-eq, never}
use Rattle.part.proofs.Subparts.{add_subpart, get_subpart-add, Has, contains-covers}
use Rattle.clearance.specs.Shape.{Shape, number, void, struct, array, member, is_number, is_whole, leaf, shape_at, inside, hit, cov, or_none, with_part, below, under, some, keep, trim}
use Rattle.clearance.specs.Shape.{members, split, alter, take_out, begins, after}
use Rattle.clearance.proofs.Small.{both_true}

pub cov-all : (q : List ℕ) → cov all q ≡ true
unfolding cov get_subpart
cov-all [] = refl
cov-all (j ∷ q) = cov-all q

pub cov-none : (q : List ℕ) → cov none q ≡ false
unfolding cov get_subpart
cov-none [] = refl
cov-none (j ∷ q) = refl

pub cov-exist : (q : List ℕ) → cov exist q ≡ false
unfolding cov get_subpart
cov-exist [] = refl
cov-exist (j ∷ q) = refl

pub cov-or_none : (x : Subpart) (q : List ℕ) → cov (or_none x) q ≡ with_part x (λ c. cov c q)
cov-or_none gone q = cov-none q
cov-or_none (there c) q = refl

pub cov-below : (p : PartReq) (q r : List ℕ) → cov (below p q) r ≡ cov p (q ++ r)
unfolding below cov
cov-below p [] r = refl
cov-below p (i ∷ q) r = cov-below (or_none (get_subpart p i)) q r ∙ cov-or_none (get_subpart p i) (q ++ r)

pub cov-under : (p : PartReq) (q r : List ℕ) → cov (under q p) (q ++ r) ≡ cov p r
unfolding under cov
cov-under p [] r = refl
cov-under p (i ∷ q) r = rw (get_subpart-at i i (under q p) none (omega arith)) (cov-under p q r)

-- a join covers what either covers
all_add : (p q : PartReq) → is_all (add p q) ≡ is_all p || is_all q
unfolding add merge on_none
all_add all q = refl
all_add exist q = refl
all_add none all = refl
all_add none exist = refl
all_add none none = refl
all_add none (more j q s) = refl
all_add (more i p r) all = refl
all_add (more i p r) exist = refl
all_add (more i p r) none = refl
all_add (more i p r) (more j q s) =
    elim (way i j) [
      | less h ↦ ap is_all (add-lt i j p q r s h)
      | greater h ↦ ap is_all (add_gt i j p q r s h)
      | level eq ↦ let h : j ≤ i = omega arith in let l : i ≤ j = omega arith in ap is_all (add-eq i j p q r s (omega arith))
    ]

with_both : (f : PartReq → Bool) → ((a b : PartReq) → f (add a b) ≡ f a || f b) → (x y : Subpart) → with_part (add_subpart x y) f ≡ with_part x f || with_part y f
unfolding add_subpart
with_both f h gone y = refl
with_both f h (there a) gone = sym (or-false (f a))
with_both f h (there a) (there b) = h a b

pub cov-add : (p q : PartReq) (r : List ℕ) → cov (add p q) r ≡ cov p r || cov q r
unfolding cov
cov-add p q [] = all_add p q
cov-add p q (j ∷ r) = rw (get_subpart-add p q j) (with_both (λ c. cov c r) (λ a b. cov-add a b r) (get_subpart p j) (get_subpart q j))

pub cov-add-left : (p q : PartReq) (r : List ℕ) → cov p r ≡ true → cov (add p q) r ≡ true
cov-add-left p q r h = cov-add p q r ∙ rw h

pub cov-add-right : (p q : PartReq) (r : List ℕ) → cov q r ≡ true → cov (add p q) r ≡ true
cov-add-right p q r h = cov-add p q r ∙ rw h (or-true (cov p r))

module _ (i j : ℕ) (p r : PartReq) (q : List ℕ) where
  pub cov-after : i < j → cov (more i p r) (j ∷ q) ≡ cov r (j ∷ q)
  unfolding cov
  cov-after h = rw (get_subpart-after i j p r h)

  pub cov-before : j < i → cov (more i p r) (j ∷ q) ≡ false
  unfolding cov
  cov-before h = rw (get_subpart_before i j p r h)

  pub cov-here : j ≤ i → i ≤ j → cov (more i p r) (j ∷ q) ≡ cov p q
  unfolding cov
  cov-here h l = rw (get_subpart-at i j p r (omega arith))

-- containing is inclusion
pub with_map : (x : Subpart) (f g : PartReq → Bool) → ((c : PartReq) → f c ≡ true → g c ≡ true) → with_part x f ≡ true → with_part x g ≡ true
with_map gone f g h e = e
with_map (there c) f g h e = h c e

pub cov-is_all : (a : PartReq) (q : List ℕ) → is_all a ≡ true → cov a q ≡ true
cov-is_all all q h = cov-all q
cov-is_all exist q h = never h
cov-is_all none q h = never h
cov-is_all (more i p r) q h = never h

all-is : (b : PartReq) → is_all b ≡ true → b ≡ all
all-is all h = refl
all-is exist h = never h
all-is none h = never h
all-is (more i p r) h = never h

cov-has : (q : List ℕ) → ((a b : PartReq) → contains a b ≡ true → cov b q ≡ true → cov a q ≡ true) → (x y : Subpart) → Has x y →
    with_part y (λ c. cov c q) ≡ true → with_part x (λ c. cov c q) ≡ true
cov-has q f x gone h c = never c
cov-has q f gone (there b) h c = absurd h
cov-has q f (there a) (there b) h c = f a b h c

pub cov-contains : (a b : PartReq) (q : List ℕ) → contains a b ≡ true → cov b q ≡ true → cov a q ≡ true
unfolding cov
cov-contains a b [] h c = ap is_all ((contains-covers a b h).whole (all-is b c))
cov-contains a b (j ∷ q) h c = cov-has q (λ x y. cov-contains x y q) (get_subpart a j) (get_subpart b j) ((contains-covers a b h).each j) c

-- trimming keeps what is inside the type
pub keep-after : (i j : ℕ) (p r : PartReq) (q : List ℕ) → i < j → cov (keep i p r) (j ∷ q) ≡ cov r (j ∷ q)
unfolding keep cov
keep-after i j all r q h = rw (get_subpart-after i j all r h)
keep-after i j exist r q h = refl
keep-after i j none r q h = refl
keep-after i j (more k p s) r q h = rw (get_subpart-after i j (more k p s) r h)

keep_at : (i j : ℕ) (p r : PartReq) (q : List ℕ) → j ≤ i → i ≤ j → cov p q ≡ true → cov (keep i p r) (j ∷ q) ≡ true
unfolding keep cov
keep_at i j all r q h l c = rw (get_subpart-at i j all r (omega arith)) c
keep_at i j exist r q h l c = never (sym (cov-exist q) ∙ c)
keep_at i j none r q h l c = never (sym (cov-none q) ∙ c)
keep_at i j (more k p s) r q h l c = rw (get_subpart-at i j (more k p s) r (omega arith)) c

pub within_void : (q : List ℕ) → inside void q ≡ false
unfolding inside member
within_void [] = refl
within_void (j ∷ q) = within_void q

pub within_leaf : (t : Shape) (q : List ℕ) → leaf t q ≡ true → inside t q ≡ true
unfolding inside leaf
within_leaf number [] h = refl
within_leaf void [] h = never h
within_leaf (struct b n f) [] h = refl
within_leaf (array n t) [] h = refl
within_leaf t (j ∷ q) h = within_leaf (member t j) q h

pub within_at : (t : Shape) (p q : List ℕ) → inside (shape_at t p) q ≡ inside t (p ++ q)
unfolding inside shape_at
within_at t [] q = refl
within_at t (i ∷ p) q = within_at (member t i) p q

trim-all : (t : Shape) (q : List ℕ) → inside t q ≡ true → cov (trim all t) q ≡ true
unfolding trim
trim-all number q h = cov-all q
trim-all void q h = never (sym (within_void q) ∙ h)
trim-all (struct b n f) q h = cov-all q
trim-all (array n t) q h = cov-all q

pub cov-trim : (p : PartReq) (t : Shape) (q : List ℕ) → inside t q ≡ true → cov p q ≡ true → cov (trim p t) q ≡ true
unfolding trim cov inside
cov-trim all t q h c = trim-all t q h
cov-trim exist t q h c = never (sym (cov-exist q) ∙ c)
cov-trim none t q h c = never (sym (cov-none q) ∙ c)
cov-trim (more i p r) t [] h c = never c
cov-trim (more i p r) t (j ∷ q) h c =
    elim (way i j) [
      | less l ↦ keep-after i j _ _ q l ∙ cov-trim r t (j ∷ q) h (sym (cov-after i j p r q l) ∙ c)
      | greater l ↦ never (sym (cov-before i j p r q l) ∙ c)
      | level eq ↦ let l : j ≤ i = omega arith in let m : i ≤ j = omega arith in
          let z : j ≡ i = omega arith in
          let g : inside (member t i) q ≡ true = rw z at h in
          keep_at i j _ _ q l m (cov-trim p (member t i) q g (sym (cov-here i j p r q l m) ∙ c))
    ]

pub cov-hit : (t : Shape) (n : PartReq) (p q : List ℕ) → inside t (p ++ q) ≡ true → cov n (p ++ q) ≡ true → cov (hit t n p) q ≡ true
unfolding hit
cov-hit t n p q h c = cov-trim (below n p) (shape_at t p) q (within_at t p q ∙ h) (cov-below n p q ∙ c)

-- taking out leaves what lies outside the path
pub alter-off : (i j : ℕ) (f : PartReq → PartReq) (a : PartReq) → (i ≡ j → ⊥) → get_subpart (alter i f a) j ≡ get_subpart a j
unfolding alter
alter-off i j f all h = refl
alter-off i j f exist h = refl
alter-off i j f none h = refl
alter-off i j f (more k p r) h =
    let ih = alter-off i j f r h in
    elim (way k i) [
      | less l ↦
          rw (lt-ltb k i l)
          (elim (way k j) [
            | less m ↦ get_subpart-after k j _ _ m ∙ ih ∙ sym (get_subpart-after k j _ _ m)
            | greater m ↦ get_subpart_before k j _ _ m ∙ sym (get_subpart_before k j _ _ m)
            | level eq ↦ let m : j ≤ k = omega arith in let o : k ≤ j = omega arith in get_subpart-at k j _ _ (omega arith) ∙ sym (get_subpart-at k j _ _ (omega arith))
          ])
      | greater l ↦ let z : i ≤ k = omega arith in rw (le-ltb k i z, lt-ltb i k l)
      | level eq ↦ let l : i ≤ k = omega arith in let x : k ≤ i = omega arith in
          rw (le-ltb k i l, le-ltb i k x)
          (elim (way k j) [
            | less m ↦ get_subpart-after k j _ _ m ∙ sym (get_subpart-after k j _ _ m)
            | greater m ↦ get_subpart_before k j _ _ m ∙ sym (get_subpart_before k j _ _ m)
            | level eq ↦ let m : j ≤ k = omega arith in let o : k ≤ j = omega arith in absurd (h (omega arith))
          ])
    ]

pub alter_at : (i : ℕ) (f : PartReq → PartReq) (a c : PartReq) (q : List ℕ) → get_subpart a i ≡ there c → cov (f c) q ≡ true → cov (alter i f a) (i ∷ q) ≡ true
unfolding alter get_subpart
alter_at i f all c q h g = cov-all (i ∷ q)
alter_at i f exist c q h g = cc
alter_at i f none c q h g = cc
alter_at i f (more k p r) c q h g =
    elim (way k i) [
      | less l ↦ rw (lt-ltb k i l) (cov-after k i _ _ q l ∙ alter_at i f r c q (sym (get_subpart-after k i p r l) ∙ h) g)
      | greater l ↦ let z = sym (get_subpart_before k i p r l) ∙ h in cc
      | level eq ↦ let l : i ≤ k = omega arith in let x : k ≤ i = omega arith in rw (le-ltb k i l, le-ltb i k x) (cov-here k i _ _ q l x ∙ (let z : p ≡ c = cc (get_subpart-at k i p r (omega arith)) in rw z g))
    ]

members_at : (k m j : ℕ) → j < m → get_subpart (members k m) (k + j) ≡ there all
unfolding members
members_at k zero j h = absurd (omega arith)
members_at k (suc m) zero h = get_subpart-at k (k + zero) _ _ (omega arith)
members_at k (suc m) (suc j) h =
    let l : k < k + suc j = omega arith in
    let z : k + suc j ≡ suc k + j = omega arith in
    get_subpart-after k (k + suc j) _ _ l ∙ rw z (members_at (suc k) m j (omega arith))

struct-in : (b n : ℕ) (f : ℕ → Shape) (j : ℕ) (q : List ℕ) → inside (struct b n f) (j ∷ q) ≡ true → (b ≤ j) × (j < b + n)
unfolding inside member
struct-in b n f j q h =
    elim (dec_lt j b) [
      | yes l ↦ never (sym (within_void q) ∙ (rw (lt-ltb j b l) at h))
      | no l ↦
          let z : b ≤ j = omega arith in
          elim (dec_lt j (b + n)) [
            | yes m ↦ (z, m)
            | no m ↦ let y : b + n ≤ j = omega arith in never (sym (within_void q) ∙ (rw (le-ltb j b z, le-ltb j (b + n) y) at h))
          ]
    ]

pub spread_sub : (t : Shape) (a : PartReq) (j : ℕ) (q : List ℕ) → inside t (j ∷ q) ≡ true → get_subpart (split t a) j ≡ get_subpart a j
unfolding split get_subpart
spread_sub number a j q h = refl
spread_sub void a j q h = refl
spread_sub (struct b n f) all j q h =
    let z = struct-in b n f j q h in
    let y : b + (j - b) ≡ j = omega (arith, z.0) in
    rw y at (members_at b n (j - b) (omega (arith, z.0, z.1)))
spread_sub (struct b n f) exist j q h = refl
spread_sub (struct b n f) none j q h = refl
spread_sub (struct b n f) (more i p r) j q h = refl
spread_sub (array n t) a j q h = refl

pub either_cov : (b : Bool) (x y : PartReq) (q : List ℕ) → cov x q ≡ true → cov y q ≡ true → cov (cond b x y) q ≡ true
either_cov true x y q h g = h
either_cov false x y q h g = g

out_top : (t : Shape) (a : PartReq) (i : ℕ) (f : PartReq → PartReq) → is_number t ≡ true → is_all a ≡ true → is_all (alter i f (split t a)) ≡ true
unfolding split alter
out_top number all i f h g = refl
out_top number exist i f h g = g
out_top number none i f h g = g
out_top number (more j p r) i f h g = never g
out_top void a i f h g = never h
out_top (struct b n m) a i f h g = never h
out_top (array n t) a i f h g = never h

pub cov-there : (a : PartReq) (j : ℕ) (q : List ℕ) → cov a (j ∷ q) ≡ true → (c : PartReq) × (get_subpart a j ≡ there c) × (cov c q ≡ true)
cov-there a j q h = go (get_subpart a j) refl (unfold cov in h)
  where
    go : (x : Subpart) → get_subpart a j ≡ x → with_part x (λ c. cov c q) ≡ true → (c : PartReq) × (get_subpart a j ≡ there c) × (cov c q ≡ true)
    go gone e k = never k
    go (there c) e k = (c, e, k)

pub cov-out : (p : List ℕ) (t : Shape) (a : PartReq) (q : List ℕ) →
    begins p q ≡ false → leaf t q ≡ true → cov a q ≡ true → cov (take_out t a p) q ≡ true
unfolding take_out begins leaf inside cov
cov-out [] t a q h l c = never (sym h)
cov-out (i ∷ p) t a [] h l c = either_cov (is_whole t) _ _ [] c (out_top t a i _ l c)
cov-out (i ∷ p) t a (j ∷ q) h l c =
    either_cov (is_whole t) _ _ (j ∷ q) c
    (elim (ℕ_discrete i j) [
      | yes e ↦
          let z = cov-there a j q c in
          let ih = cov-out p (member t j) z.0 q (rw (eq-eqb i j e) at h) l z.2 in
          rw e (alter_at j _ (split t a) z.0 q (spread_sub t a j q (within_leaf (member t j) q l) ∙ z.1) ih)
      | no e ↦ rw (alter-off i j _ (split t a) e, spread_sub t a j q (within_leaf (member t j) q l)) c
    ])

pub starts_rest : (p q : List ℕ) → begins p q ≡ true → p ++ after p q ≡ q
unfolding begins after
starts_rest [] q h = refl
starts_rest (i ∷ p) [] h = never h
starts_rest (i ∷ p) (j ∷ q) h =
    let e = both_true (eqb i j) (begins p q) h in
    rw (eqb-true i j e.0, starts_rest p q e.1)

pub cov-some : (p : PartReq) (q : List ℕ) → cov p q ≡ true → some p ≡ true
cov-some all q h = refl
cov-some exist q h = never (sym (cov-exist q) ∙ h)
cov-some none q h = never (sym (cov-none q) ∙ h)
cov-some (more i p r) q h = refl

-- what is asked below a path covers nothing elsewhere
pub under-starts : (p : List ℕ) (a : PartReq) (q : List ℕ) → cov (under p a) q ≡ true → begins p q ≡ true
unfolding under begins cov
under-starts [] a q h = refl
under-starts (i ∷ p) a [] h = never h
under-starts (i ∷ p) a (j ∷ q) h =
    elim (way i j) [
      | less l ↦ never (sym (cov-none (j ∷ q)) ∙ sym (cov-after i j (under p a) none q l) ∙ h)
      | greater l ↦ never (sym (cov-before i j (under p a) none q l) ∙ h)
      | level eq ↦ let l : j ≤ i = omega arith in let m : i ≤ j = omega arith in rw (eq-eqb i j (omega arith)) (under-starts p a q (sym (cov-here i j (under p a) none q l m) ∙ h))
    ]

-- what lies below a covered path is covered
pub cov-extend : (p : PartReq) (q r : List ℕ) → cov p q ≡ true → cov p (q ++ r) ≡ true
unfolding cov
cov-extend p [] r h = cov-is_all p r h
cov-extend p (j ∷ q) r h = with_map (get_subpart p j) _ _ (λ c. cov-extend c q r) h
