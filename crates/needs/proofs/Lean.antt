-- Of needs that are trimmed, the clearance's `trim` changes nothing: so its `hit` is the part as it stands, a part at a path is trimmed if it is there, and what it leaves
-- without a part is what `leaves` has. Each by recursion along the need or the path.
use Prim.Native.Nat.{ℕ, zero, suc, ◌+◌, ◌<◌, ◌≤◌}
use native.Mathlib.Omega.{arith}
use native.Mathlib.Decide.{dec_lt}
use mathlib.Core.Path.{◌≡◌, refl, sym, ap, ◌∙◌}
use mathlib.Core.Bool.{Bool, true, false, cond}
use mathlib.Core.List.{List, [], ◌∷◌}
use borrow.Author.Tests.{lt-ltb, le-ltb}
use Rattle.part.specs.PartReq.{PartReq, all, exist, none, more, get_subpart}
use Rattle.part.proofs.Equations.{never}
use Rattle.clearance.specs.Shape.{Shape, number, void, struct, array, member, is_void, is_whole, shape_at, or_none, below, some, keep, trim, hit, members, split, alter, take_out}
use Rattle.clearance.specs.IsNeed.{Tidy, IsNeed}
use Rattle.clearance.proofs.Ascending.{below-ok}
use Rattle.needs.specs.Lean.{change, leaves, Solid}

-- what is kept of an entry that needs something
pub keep_some : (i : ℕ) (p r : PartReq) → some p ≡ true → keep i p r ≡ more i p r
unfolding keep
keep_some i all r e = refl
keep_some i exist r e = never e
keep_some i none r e = never e
keep_some i (more j p s) r e = refl

pub trim_same : (p : PartReq) (t : Shape) → Tidy p t → trim p t ≡ p
unfolding trim
trim_same all t h = rw h
trim_same exist t h = absurd h
trim_same none t h = refl
trim_same (more i p r) t h = rw (trim_same p (member t i) h.1.0, trim_same r t h.1.1) (keep_some i p r h.0)

-- nothing lies below what is void
void-member : (j : ℕ) → member void j ≡ void
unfolding member
void-member j = refl

void-at : (q : List ℕ) → shape_at void q ≡ void
unfolding shape_at
void-at [] = refl
void-at (j ∷ q) = rw (void-member j) (void-at q)

pub not_void : (t : Shape) (q : List ℕ) → is_void (shape_at t q) ≡ false → is_void t ≡ false
not_void number q h = refl
not_void void q h = never (sym (rw (void-at q) at h))
not_void (struct b n f) q h = refl
not_void (array n t) q h = refl

tidy_sub : (p : PartReq) (t : Shape) (j : ℕ) → Tidy p t → is_void (member t j) ≡ false → Tidy (or_none (get_subpart p j)) (member t j)
unfolding get_subpart
tidy_sub all t j h v = v
tidy_sub exist t j h v = absurd h
tidy_sub none t j h v = tt
tidy_sub (more i p r) t j h v =
    elim (dec_lt i j) [
      | yes l ↦ rw (lt-ltb i j l) (tidy_sub r t j h.1.1 v)
      | no l ↦
          let a : j ≤ i = omega arith in
          elim (dec_lt j i) [
            | yes b ↦ rw (le-ltb i j a, lt-ltb j i b) tt
            | no b ↦ let e : i ≡ j = omega arith in let c : i ≤ j = omega arith in rw (le-ltb i j a, le-ltb j i c) (rw e at h.1.0)
          ]
    ]

pub below-tidy : (q : List ℕ) (p : PartReq) (t : Shape) → Tidy p t → is_void (shape_at t q) ≡ false → Tidy (below p q) (shape_at t q)
unfolding below shape_at
below-tidy [] p t h v = h
below-tidy (j ∷ q) p t h v = below-tidy q (or_none (get_subpart p j)) (member t j) (tidy_sub p t j h (not_void (member t j) q v)) v

-- a need of a part is one of its type
pub need_below : (q : List ℕ) (t : Shape) (n : PartReq) → IsNeed t n → is_void (shape_at t q) ≡ false → IsNeed (shape_at t q) (below n q)
need_below q t n f v = record { ascends = below-ok n q f.ascends; tidy = below-tidy q n t f.tidy v }

-- what is needed of a part that lies in the type
pub hit-below : (t : Shape) (p : PartReq) (q : List ℕ) → Tidy p t → is_void (shape_at t q) ≡ false → hit t p q ≡ below p q
unfolding hit
hit-below t p q h v = trim_same (below p q) (shape_at t q) (below-tidy q p t h v)

-- a part that is taken out
pub solid_void : (t : Shape) → Solid t → is_void t ≡ false
solid_void number h = refl
solid_void void h = absurd h
solid_void (struct b n f) h = refl
solid_void (array n t) h = refl

pub solid_member : (t : Shape) (j : ℕ) → Solid t → is_void (member t j) ≡ false → Solid (member t j)
unfolding member
solid_member number j h v = never (sym v)
solid_member void j h v = absurd h
solid_member (struct b n f) j h v =
    elim (dec_lt j b) [
      | yes l ↦ never (sym (rw (lt-ltb j b l) at v))
      | no l ↦
          let a : b ≤ j = omega arith in
          elim (dec_lt j (b + n)) [
            | yes m ↦ rw (le-ltb j b a, lt-ltb j (b + n) m) (h j a m)
            | no m ↦ let c : b + n ≤ j = omega arith in never (sym (rw (le-ltb j b a, le-ltb j (b + n) c) at v))
          ]
    ]
solid_member (array n t) j h v =
    elim (dec_lt j n) [
      | yes m ↦ rw (lt-ltb j n m) h
      | no m ↦ let c : n ≤ j = omega arith in never (sym (rw (le-ltb j n c) at v))
    ]

members-tidy : (b n : ℕ) (f : ℕ → Shape) (k m : ℕ) → ((j : ℕ) → b ≤ j → j < b + n → Solid (f j)) → b ≤ k → k + m ≤ b + n → Tidy (members k m) (struct b n f)
unfolding members member
members-tidy b n f k zero h l g = tt
members-tidy b n f k (suc m) h l g =
    let a : k < b + n = omega arith in
    (refl, (rw (le-ltb k b l, lt-ltb k (b + n) a) (solid_void (f k) (h k l a)), members-tidy b n f (suc k) m h (omega arith) (omega arith)))

pub split-tidy : (t : Shape) (p : PartReq) → Solid t → Tidy p t → Tidy (split t p) t
unfolding split
split-tidy number p s h = h
split-tidy void p s h = absurd s
split-tidy (struct b n f) all s h = members-tidy b n f b n s (omega arith) (omega arith)
split-tidy (struct b n f) exist s h = absurd h
split-tidy (struct b n f) none s h = tt
split-tidy (struct b n f) (more i p r) s h = h
split-tidy (array n t) p s h = h

-- an entry that a function leaves as another does, once that is trimmed
pub change-is : (i : ℕ) (f g : PartReq → PartReq) (t : Shape) → ((c : PartReq) → Tidy c (member t i) → trim (f c) (member t i) ≡ g c) → (p : PartReq) → Tidy p t →
    trim (alter i f p) t ≡ change i g p
unfolding alter change trim
change-is i f g t k all h = trim_same all t h
change-is i f g t k exist h = absurd h
change-is i f g t k none h = refl
change-is i f g t k (more j p r) h =
    elim (dec_lt j i) [
      | yes l ↦
          rw (lt-ltb j i l)
          (ap (λ (x : PartReq). keep j x (trim (alter i f r) t)) (trim_same p (member t j) h.1.0)
          ∙ keep_some j p _ h.0
          ∙ ap (more j p) (change-is i f g t k r h.1.1))
      | no l ↦
          let a : i ≤ j = omega arith in
          elim (dec_lt i j) [
            | yes m ↦ rw (le-ltb j i a, lt-ltb i j m) (trim_same (more j p r) t h)
            | no m ↦
                let e : j ≡ i = omega arith in
                let c : j ≤ i = omega arith in
                rw (le-ltb j i a, le-ltb i j c)
                (ap (λ (x : PartReq). keep j (trim (f p) (member t j)) x) (trim_same r t h.1.1)
                ∙ ap (λ (x : PartReq). keep j x r) (ap (λ (z : ℕ). trim (f p) (member t z)) e ∙ k p (rw e at h.1.0)))
          ]
    ]

-- what is left without the part at a path, trimmed
pub leaves-is : (q : List ℕ) (t : Shape) (p : PartReq) → Solid t → is_void (shape_at t q) ≡ false → Tidy p t → trim (take_out t p q) t ≡ leaves t p q
unfolding take_out leaves shape_at
leaves-is [] t p s v h = unfold trim in refl
leaves-is (i ∷ q) t p s v h =
    go (is_whole t)
    (change-is i (λ c. take_out (member t i) c q) (λ c. leaves (member t i) c q) t
    (λ c d. leaves-is q (member t i) c (solid_member t i s (not_void (member t i) q v)) v d) (split t p) (split-tidy t p s h))
  where
    go : (b : Bool) → trim (alter i (λ c. take_out (member t i) c q) (split t p)) t ≡ change i (λ c. leaves (member t i) c q) (split t p) →
        trim (cond b p (alter i (λ c. take_out (member t i) c q) (split t p))) t ≡ cond b p (change i (λ c. leaves (member t i) c q) (split t p))
    go true e = trim_same p t h
    go false e = e
