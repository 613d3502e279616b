-- Taking out, one level at a time: what `change` does by the order of two indexes, that it looks at one entry alone, what `leaves` is by what stands at the
-- first index, and that a need has no more entries than its shape has parts. Each by recursion along the entries.
use Prim.Native.Nat.{ℕ, zero, suc, ◌+◌, ◌<◌, ◌≤◌}
use native.Mathlib.Omega.{arith}
use native.Mathlib.Decide.{dec_lt}
use mathlib.Core.Path.{◌≡◌, refl, sym, ap, ◌∙◌}
use mathlib.Core.Bool.{Bool, true, false, cond}
use mathlib.Core.List.{List, [], ◌∷◌}
use lib.Dec.{eqb}
use lib.ListN.{get_or}
use borrow.Author.Tests.{lt-ltb, le-ltb, eq-eqb, ne_eqb}
use Rattle.part.specs.PartReq.{PartReq, all, exist, none, more, gone, there, get_subpart, is_all, width}
use Rattle.part.specs.Ascending.{From}
use Rattle.part.proofs.Ascending.{from_ascending}
use Rattle.part.proofs.Equations.{never, Way, before, after, at, way, get_subpart-none, get_subpart_before, get_subpart-at, get_subpart-after}
use Rattle.module.specs.Module.{TypeInner, Scalar, Vector, Matrix, Atomic, Pointer, Array, Struct, BindingArray, Opaque}
use Rattle.module.proofs.Knot.{knot-all}
use Rattle.context.specs.Types.{types_of, Sized, AllSized}
use Rattle.clearance.specs.Shape.{Shape, number, void, struct, array, member, is_whole, some, keep, members, split}
use Rattle.clearance.specs.Scope.{member_types, vector_shape, unfold_type}
use Rattle.clearance.specs.IsNeed.{Tidy, IsNeed}
use Rattle.needs.specs.Lean.{change, leaves}
use Rattle.needs.proofs.Lean.{keep_some}
use Rattle.forms.specs.ShapeBy.{shape_in, Members}
use Rattle.forms.specs.Narrow.{level_cells, Narrow, or_all}
use Rattle.forms.proofs.Shapes.{struct_out}

-- one entry
module _ (i j : ℕ) (f : PartReq → PartReq) (c r : PartReq) where
  pub change_before : i < j → change i f (more j c r) ≡ more j c r
  unfolding change
  change_before h = let z : i ≤ j = omega arith in rw (le-ltb j i z, lt-ltb i j h)

  pub change-at : i ≡ j → change i f (more j c r) ≡ keep j (f c) r
  unfolding change
  change-at e =
      let h : i ≤ j = omega arith in
      let l : j ≤ i = omega arith in
      rw (le-ltb j i h, le-ltb i j l)

  pub change-after : j < i → change i f (more j c r) ≡ more j c (change i f r)
  unfolding change
  change-after h = rw (lt-ltb j i h)

-- it looks at the entry i alone
pub change-gone : (i : ℕ) (f : PartReq → PartReq) (p : PartReq) → get_subpart p i ≡ gone → change i f p ≡ p
unfolding change
change-gone i f all e = refl
change-gone i f exist e = refl
change-gone i f none e = refl
change-gone i f (more j c r) e =
    elim (way i j) [
      | before h ↦ change_before i j f c r h
      | after h ↦ change-after i j f c r h ∙ ap (more j c) (change-gone i f r (sym (get_subpart-after j i c r h) ∙ e))
      | at h ↦ let z : there c ≡ gone = sym (get_subpart-at j i c r (sym h)) ∙ e in let y : ◌≡◌ {A = ℕ} 0 1 = cc in absurd (omega arith)
    ]

pub change-there : (i : ℕ) (f : PartReq → PartReq) (p d : PartReq) → get_subpart p i ≡ there d → change i f p ≡ change i (λ c. f d) p
unfolding change
change-there i f all d e = refl
change-there i f exist d e = refl
change-there i f none d e = refl
change-there i f (more j c r) d e =
    elim (way i j) [
      | before h ↦ change_before i j f c r h ∙ sym (change_before i j (λ x. f d) c r h)
      | after h ↦
          change-after i j f c r h
          ∙ ap (more j c) (change-there i f r d (sym (get_subpart-after j i c r h) ∙ e))
          ∙ sym (change-after i j (λ x. f d) c r h)
      | at h ↦
          let z : there c ≡ there d = sym (get_subpart-at j i c r (sym h)) ∙ e in
          let y : c ≡ d = cc in
          change-at i j f c r h ∙ ap (λ x. keep j (f x) r) y ∙ sym (change-at i j (λ x. f d) c r h)
    ]

-- members, of which one changes
members-past : (i k n : ℕ) (f : PartReq → PartReq) → i < k → change i f (members k n) ≡ members k n
unfolding members
members-past i k zero f h = unfold change in refl
members-past i k (suc n) f h = change_before i k f all (members (suc k) n) h

pub members-put : (i k n : ℕ) (d : PartReq) → change i (λ c. d) (members k (suc n)) ≡ or_all k i d (change i (λ c. d) (members (suc k) n))
unfolding members or_all
members-put i k n d = go (way i k)
  where
    go : Way i k → change i (λ c. d) (more k all (members (suc k) n)) ≡ cond (eqb k i) (keep k d (change i (λ c. d) (members (suc k) n))) (more k all (change i (λ c. d) (members (suc k) n)))
    go (before h) =
        let ne : k ≡ i → ⊥ = omega arith in
        rw (ne_eqb k i ne, members-past i (suc k) n (λ c. d) (omega arith)) (change_before i k (λ c. d) all (members (suc k) n) h)
    go (after h) = let ne : k ≡ i → ⊥ = omega arith in rw (ne_eqb k i ne) (change-after i k (λ c. d) all (members (suc k) n) h)
    go (at h) =
        rw (eq-eqb k i (sym h), members-past i (suc k) n (λ c. d) (omega arith)) (change-at i k (λ c. d) all (members (suc k) n) h)

members_all : (i k n : ℕ) (f : PartReq → PartReq) → change i f (members k n) ≡ change i (λ c. f all) (members k n)
unfolding members change
members_all i k zero f = refl
members_all i k (suc n) f =
    elim (way i k) [
      | before h ↦ change_before i k f all (members (suc k) n) h ∙ sym (change_before i k (λ c. f all) all (members (suc k) n) h)
      | after h ↦ change-after i k f all (members (suc k) n) h ∙ ap (more k all) (members_all i (suc k) n f) ∙ sym (change-after i k (λ c. f all) all (members (suc k) n) h)
      | at h ↦ change-at i k f all (members (suc k) n) h ∙ sym (change-at i k (λ c. f all) all (members (suc k) n) h)
    ]

-- one level
split-other : (t : Shape) (p : PartReq) → is_all p ≡ false → split t p ≡ p
unfolding split
split-other number p e = refl
split-other void p e = refl
split-other (struct b n f) all e = never (sym e)
split-other (struct b n f) exist e = refl
split-other (struct b n f) none e = refl
split-other (struct b n f) (more k c r) e = refl
split-other (array n t) p e = refl

pub leaves_none : (t : Shape) (p : PartReq) → leaves t p [] ≡ none
unfolding leaves
leaves_none t p = refl

module _ (t : Shape) (i : ℕ) (q : List ℕ) where
  pub leaves-whole : (p : PartReq) → is_whole t ≡ true → leaves t p (i ∷ q) ≡ p
  unfolding leaves
  leaves-whole p w = rw w

  pub leaves-one : split t all ≡ all → leaves t all (i ∷ q) ≡ all
  unfolding leaves change
  leaves-one e = rw e (go (is_whole t))
    where
      go : (b : Bool) → cond b all (change i (λ c. leaves (member t i) c q) all) ≡ all
      go true = refl
      go false = refl

  module _ (p : PartReq) (w : is_whole t ≡ false) (a : is_all p ≡ false) where
    pub leaves-gone : get_subpart p i ≡ gone → leaves t p (i ∷ q) ≡ p
    unfolding leaves
    leaves-gone e = rw (w, split-other t p a) (change-gone i (λ c. leaves (member t i) c q) p e)

    pub leaves-there : (d : PartReq) → get_subpart p i ≡ there d → leaves t p (i ∷ q) ≡ change i (λ c. leaves (member t i) d q) p
    unfolding leaves
    leaves-there d e = rw (w, split-other t p a) (change-there i (λ c. leaves (member t i) c q) p d e)

pub leaves-members : (t : Shape) (i n : ℕ) (q : List ℕ) → Members t n → leaves t all (i ∷ q) ≡ change i (λ c. leaves (member t i) all q) (members 0 n)
unfolding leaves split
leaves-members t i n q m = rw m.is (members_all i 0 n (λ c. leaves (member (struct 0 n m.part) i) c q))

-- shapes are narrow, and needs no wider
pub narrow_member : (t : Shape) (i : ℕ) → Narrow t → Narrow (member t i)
unfolding member
narrow_member number i h = tt
narrow_member void i h = tt
narrow_member (struct b n f) i h =
    elim (dec_lt i b) [
      | yes l ↦ rw (lt-ltb i b l) tt
      | no l ↦
          let a : b ≤ i = omega arith in
          elim (dec_lt i (b + n)) [
            | yes m ↦ rw (le-ltb i b a, lt-ltb i (b + n) m) (h.1 i)
            | no m ↦ let c : b + n ≤ i = omega arith in rw (le-ltb i b a, le-ltb i (b + n) c) tt
          ]
    ]
narrow_member (array n t) i h =
    elim (dec_lt i n) [
      | yes m ↦ rw (lt-ltb i n m) h
      | no m ↦ let c : n ≤ i = omega arith in rw (le-ltb i n c) tt
    ]

pub narrow_members : {t : Shape} {n : ℕ} → Members t n → Narrow t → n ≤ level_cells
narrow_members m h = (rw m.is at h).0

narrow_step : (w : ℕ → Shape) (x : TypeInner) → Sized x → ((a : ℕ) → Narrow (w a)) → Narrow (unfold_type w x)
unfolding unfold_type vector_shape
narrow_step w Scalar h n = tt
narrow_step w (Vector k) h n = (omega arith, λ j. tt)
narrow_step w (Matrix columns rows) h n = (omega arith, λ j. (omega arith, λ k. tt))
narrow_step w Atomic h n = tt
narrow_step w (Pointer base) h n = tt
narrow_step w (Array base k) h n = n base
narrow_step w (Struct ms) h n = (h, λ j. n (member_types ms j))
narrow_step w (BindingArray base) h n = n base
narrow_step w Opaque h n = tt

pub narrow_type : (types : List ℕ) → AllSized (types_of types) → (t : ℕ) → Narrow (shape_in (types_of types) t)
unfolding shape_in
narrow_type types A t =
    knot-all (λ e u. Narrow u) (λ shape h. unfold_type shape (get_or (types_of types) h Opaque)) number (λ e. tt)
    (λ w e h. narrow_step w (get_or (types_of types) e Opaque) (A.each e) h) t

tidy_void : (p : PartReq) → some p ≡ true → Tidy p void → ⊥
unfolding member
tidy_void all s h = never (sym h)
tidy_void exist s h = never s
tidy_void none s h = never s
tidy_void (more i p r) s h = tidy_void p h.0 h.1.0

-- an entry of a struct lies in it
pub inside : (b n : ℕ) (f : ℕ → Shape) (i : ℕ) (p : PartReq) → some p ≡ true → Tidy p (member (struct b n f) i) → (b ≤ i) × (i < b + n)
unfolding member
inside b n f i p s h =
    elim (dec_lt i b) [
      | yes l ↦ absurd (tidy_void p s (rw (lt-ltb i b l) at h))
      | no l ↦
          let a : b ≤ i = omega arith in
          elim (dec_lt i (b + n)) [
            | yes m ↦ (a, m)
            | no m ↦ let c : b + n ≤ i = omega arith in absurd (tidy_void p s (rw (struct_out b n i f c) at h))
          ]
    ]

from_width : (b n : ℕ) (f : ℕ → Shape) (k : ℕ) (p : PartReq) → k ≤ b + n → From k p → Tidy p (struct b n f) → k + width p ≤ b + n
unfolding width
from_width b n f k all l h t = absurd h
from_width b n f k exist l h t = absurd h
from_width b n f k none l h t = omega arith
from_width b n f k (more i p r) l h t =
    let z = inside b n f i p t.0 t.1.0 in
    let y = from_width b n f (suc i) r (omega arith) h.1.1 t.1.1 in
    omega (arith, h.0)

pub struct-width : (b n : ℕ) (f : ℕ → Shape) (p : PartReq) → IsNeed (struct b n f) p → width p ≤ n
unfolding width
struct-width b n f all N = omega arith
struct-width b n f exist N = omega arith
struct-width b n f none N = omega arith
struct-width b n f (more i p r) N =
    let t = N.tidy in
    let z = inside b n f i p t.0 t.1.0 in
    let y = from_width b n f (suc i) r (omega arith) N.ascends.1 t.1.1 in
    omega arith

no_entry : (p : PartReq) (t : Shape) → ((j : ℕ) → member t j ≡ void) → Tidy p t → width p ≤ 0
unfolding width
no_entry all t v h = omega arith
no_entry exist t v h = omega arith
no_entry none t v h = omega arith
no_entry (more i p r) t v h = absurd (tidy_void p h.0 (rw (v i) at h.1.0))

pub need_width : (t : Shape) (p : PartReq) → IsNeed t p → Narrow t → is_whole t ≡ false → width p ≤ level_cells
need_width number p N h w = let z = no_entry p number (λ j. unfold member in refl) N.tidy in omega arith
need_width void p N h w = let z = no_entry p void (λ j. unfold member in refl) N.tidy in omega arith
need_width (struct b n f) p N h w = let z = struct-width b n f p N in omega (arith, h.0)
need_width (array n t) p N h w = never (sym w)

-- the need of a part
no_all : (k : ℕ) (p : PartReq) → From k p → is_all p ≡ false
no_all k all h = absurd h
no_all k exist h = absurd h
no_all k none h = refl
no_all k (more j c r) h = refl

pub gone_there : {A : Type 0} {d : PartReq} → gone ≡ there d → A
gone_there e = let z : ◌≡◌ {A = ℕ} 0 1 = cc in absurd (omega arith)

pub need_entry : (t : Shape) (p : PartReq) (i : ℕ) (d : PartReq) → IsNeed t p → is_all p ≡ false → get_subpart p i ≡ there d → (some d ≡ true) × IsNeed (member t i) d
need_entry t all i d N a e = never (sym a)
need_entry t exist i d N a e = absurd N.tidy
need_entry t none i d N a e = gone_there (sym (get_subpart-none i) ∙ e)
need_entry t (more j c r) i d N a e =
    elim (way i j) [
      | before h ↦ gone_there (sym (get_subpart_before j i c r h) ∙ e)
      | after h ↦
          need_entry t r i d (record { ascends = from_ascending (suc j) r N.ascends.1; tidy = N.tidy.1.1 })
          (no_all (suc j) r N.ascends.1) (sym (get_subpart-after j i c r h) ∙ e)
      | at h ↦
          let z : there c ≡ there d = sym (get_subpart-at j i c r (sym h)) ∙ e in
          let y : c ≡ d = cc in
          rw (← y, h) (N.tidy.0, record { ascends = N.ascends.0; tidy = N.tidy.1.0 })
    ]

-- an entry that stays as it is
pub change-same : (i : ℕ) (p d : PartReq) → get_subpart p i ≡ there d → some d ≡ true → change i (λ c. d) p ≡ p
unfolding change
change-same i all d e s = refl
change-same i exist d e s = refl
change-same i none d e s = refl
change-same i (more j c r) d e s =
    elim (way i j) [
      | before h ↦ change_before i j (λ x. d) c r h
      | after h ↦ change-after i j (λ x. d) c r h ∙ ap (more j c) (change-same i r d (sym (get_subpart-after j i c r h) ∙ e) s)
      | at h ↦
          let z : there c ≡ there d = sym (get_subpart-at j i c r (sym h)) ∙ e in
          let y : c ≡ d = cc in
          change-at i j (λ x. d) c r h ∙ (keep_some j d r s ∙ ap (λ x. more j x r) (sym y))
    ]
