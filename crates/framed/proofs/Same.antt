-- Types that fit have the same shape at every path, and a need that is trimmed to one shape is trimmed to another that is the same: by recursion along the path, and
-- along the need. One step down, a type's shape has the shapes of the types that it is made of, since these are lower.
use Prim.Native.Nat.{ℕ, zero, suc, ◌+◌, ◌<◌, ◌≤◌}
use native.Mathlib.Omega.{arith}
use native.Mathlib.Decide.{dec_lt}
use mathlib.Core.Path.{◌≡◌, refl, sym, ap, ◌∙◌, fun_ext}
use mathlib.Core.Bool.{Bool, true, false, cond}
use mathlib.Core.List.{List, [], ◌∷◌}
use lib.Dec.{ltb}
use lib.ListN.{length, get_or}
use borrow.Author.Tests.{ne_eqb, lt-ltb, le-ltb}
use Rattle.part.specs.PartReq.{PartReq, all, exist, none, more, spine}
use Rattle.module.specs.Module.{TypeHandle, TypeInner, Scalar, Vector, Matrix, Atomic, Pointer, Array, Struct, BindingArray, Opaque}
use Rattle.module.specs.Knot.{below}
use Rattle.module.proofs.Knot.{knot-is, below-lt}
use Rattle.clearance.specs.Shape.{Shape, number, void, struct, array, member, is_void, shape_at, trim}
use Rattle.clearance.specs.Scope.{Scope, inner, member_types, vector_shape, elements, unfold_type, shape_of, kind, bases, alike}
use Rattle.clearance.specs.Judged.{same}
use Rattle.clearance.specs.IsNeed.{Tidy}
use Rattle.judge.specs.Alike.{Lower}
use Rattle.judge.proofs.Pairwise.{pairwise-long, pairwise-at, equal_lists}
use Rattle.judge.proofs.Equivalence.{inner_parts}
use Rattle.judge.proofs.ShapeRows.{alike_same, member_base, length_types}
use Rattle.framed.specs.Same.{Head, number_head, void_head, struct_head, array_head, head, SameShape}

-- Shapes that are the same

pub same_refl : (s : Shape) → SameShape s s
same_refl s = record { each = λ q. refl }

pub same_is : (s t : Shape) → s ≡ t → SameShape s t
same_is s t e = rw e (same_refl t)

pub same_sym : {s t : Shape} → SameShape s t → SameShape t s
same_sym h = record { each = λ q. sym (h.each q) }

pub same_trans : {s t u : Shape} → SameShape s t → SameShape t u → SameShape s u
same_trans h k = record { each = λ q. h.each q ∙ k.each q }

pub same_member : {s t : Shape} (j : ℕ) → SameShape s t → SameShape (member s j) (member t j)
unfolding shape_at
same_member j h = record { each = λ q. h.each (j ∷ q) }

-- the same at the top, and one step down
pub same_step : (s t : Shape) → head s ≡ head t → ((j : ℕ) → SameShape (member s j) (member t j)) → SameShape s t
unfolding shape_at
same_step s t h k = record { each = go }
  where
    go : (q : List ℕ) → head (shape_at s q) ≡ head (shape_at t q)
    go [] = h
    go (j ∷ q) = (k j).each q

abbrev is_void_head : Head → Bool
is_void_head number_head = false
is_void_head void_head = true
is_void_head (struct_head b n) = false
is_void_head (array_head n) = false

void-head : (s : Shape) → is_void s ≡ is_void_head (head s)
void-head number = refl
void-head void = refl
void-head (struct b n f) = refl
void-head (array n t) = refl

pub same_void : {s t : Shape} → SameShape s t → is_void s ≡ is_void t
unfolding shape_at
same_void {s} {t} h = void-head s ∙ ap is_void_head (h.each []) ∙ sym (void-head t)

-- needs of the one are needs of the other
pub same_tidy : (p : PartReq) {s t : Shape} → SameShape s t → Tidy p s → Tidy p t
same_tidy all e h = sym (same_void e) ∙ h
same_tidy exist e h = absurd h
same_tidy none e h = tt
same_tidy (more i p r) e h = (h.0, (same_tidy p (same_member i e) h.1.0, same_tidy r e h.1.1))

pub same_trim : (p : PartReq) {s t : Shape} → SameShape s t → trim p s ≡ trim p t
unfolding trim
same_trim all e = rw (same_void e)
same_trim exist e = refl
same_trim none e = refl
same_trim (more i p r) e = rw (same_trim p (same_member i e), same_trim r e)

-- Types
unfold_head : (w v : TypeHandle → Shape) (x : TypeInner) → head (unfold_type w x) ≡ head (unfold_type v x)
unfolding unfold_type vector_shape
unfold_head w v Scalar = refl
unfold_head w v (Vector n) = refl
unfold_head w v (Matrix c r) = refl
unfold_head w v Atomic = refl
unfold_head w v (Pointer base) = refl
unfold_head w v (Array base n) = refl
unfold_head w v (Struct ms) = refl
unfold_head w v (BindingArray base) = refl
unfold_head w v Opaque = refl

-- the members of a struct: one that is there, and one that is not
pub member-in : (b n : ℕ) (f : ℕ → Shape) (j : ℕ) → b ≤ j → j < b + n → member (struct b n f) j ≡ f j
unfolding member
member-in b n f j h l = rw (le-ltb j b h, lt-ltb j (b + n) l)

pub member_out : (b n : ℕ) (f : ℕ → Shape) (j : ℕ) → b + n ≤ j → member (struct b n f) j ≡ void
unfolding member
member_out b n f j h = let l : b ≤ j = omega arith in rw (le-ltb j b l, le-ltb j (b + n) h)

pub vector_member : (n j : ℕ) → j < n → member (vector_shape n) j ≡ number
unfolding vector_shape
vector_member n j l = member-in 0 n (λ i. number) j (omega arith) (omega arith)

-- an element that is there: its array is not of count 0
pub element_member : (n : ℕ) (t : Shape) (j : ℕ) → j < n → member (array (elements n) t) j ≡ t
unfolding member elements
element_member n t j l = let z : n ≡ 0 → ⊥ = λ e. omega arith in rw (ne_eqb n 0 z, lt-ltb j n l)

struct-step : (n : ℕ) (f g : ℕ → Shape) (j : ℕ) → (j < n → f j ≡ g j) → member (struct 0 n f) j ≡ member (struct 0 n g) j
struct-step n f g j h =
    elim (dec_lt j n) [
      | yes l ↦ member-in 0 n f j (omega arith) (omega arith) ∙ h l ∙ sym (member-in 0 n g j (omega arith) (omega arith))
      | no l ↦ member_out 0 n f j (omega arith) ∙ sym (member_out 0 n g j (omega arith))
    ]

array-step : (n : ℕ) (s t : Shape) (j : ℕ) → s ≡ t → member (array n s) j ≡ member (array n t) j
array-step n s t j h = rw h

unfold_step : (w v : TypeHandle → Shape) (x : TypeInner) (j : ℕ) → ((i : ℕ) → i < length (bases x) → w (get_or (bases x) i 0) ≡ v (get_or (bases x) i 0)) →
    member (unfold_type w x) j ≡ member (unfold_type v x) j
unfolding unfold_type vector_shape bases
unfold_step w v Scalar j h = refl
unfold_step w v (Vector n) j h = refl
unfold_step w v (Matrix c r) j h = refl
unfold_step w v Atomic j h = refl
unfold_step w v (Pointer base) j h = refl
unfold_step w v (Array base n) j h = array-step (elements n) (w base) (v base) j (h 0 (omega arith))
unfold_step w v (Struct ms) j h =
    struct-step (length ms) (λ i. w (member_types ms i)) (λ i. v (member_types ms i)) j
    (λ l. ap w (member_base ms j) ∙ h j (omega (arith, length_types ms)) ∙ ap v (sym (member_base ms j)))
unfold_step w v (BindingArray base) j h = array-step spine (w base) (v base) j (h 0 (omega arith))
unfold_step w v Opaque j h = refl

same_array : (n : ℕ) {s t : Shape} → SameShape s t → SameShape (array n s) (array n t)
unfolding member
same_array n {s} {t} h = same_step (array n s) (array n t) refl (λ j. go (ltb j n))
  where
    go : (b : Bool) → SameShape (cond b s void) (cond b t void)
    go true = h
    go false = same_refl void

same_struct : (n : ℕ) (f g : ℕ → Shape) → ((j : ℕ) → j < n → SameShape (f j) (g j)) → SameShape (struct 0 n f) (struct 0 n g)
same_struct n f g h = same_step (struct 0 n f) (struct 0 n g) refl (λ j. go j (dec_lt j n))
  where
    go : (j : ℕ) → Dec (j < n) → SameShape (member (struct 0 n f) j) (member (struct 0 n g) j)
    go j (yes l) = rw (member-in 0 n f j (omega arith) (omega arith), member-in 0 n g j (omega arith) (omega arith)) (h j l)
    go j (no l) = rw (member_out 0 n f j (omega arith), member_out 0 n g j (omega arith)) (same_refl void)

-- a type's shape by its kind and its sizes, and by the shapes of its own types, of which there are so many
by_kind : (k a b count : ℕ) → (ℕ → Shape) → Shape
by_kind zero a b count f = number
by_kind (suc zero) a b count f = vector_shape a
by_kind (suc (suc zero)) a b count f = struct 0 a (λ j. vector_shape b)
by_kind (suc (suc (suc zero))) a b count f = number
by_kind (suc (suc (suc (suc zero)))) a b count f = number
by_kind (suc (suc (suc (suc (suc zero))))) a b count f = array (elements a) (f 0)
by_kind (suc (suc (suc (suc (suc (suc zero)))))) a b count f = struct 0 count f
by_kind (suc (suc (suc (suc (suc (suc (suc zero))))))) a b count f = array spine (f 0)
by_kind (suc (suc (suc (suc (suc (suc (suc (suc k)))))))) a b count f = number

module _ (S : Scope) (L : Lower S.program.types) where
  knot_step : (t : TypeHandle) → shape_of S t ≡ unfold_type (below (shape_of S) number t) (inner S t)
  unfolding shape_of
  knot_step t = knot-is (λ shape h. unfold_type shape (inner S h)) number t

  lower_bases : (t i : ℕ) → i < length (bases (inner S t)) → get_or (bases (inner S t)) i 0 < t
  unfolding inner
  lower_bases t i l = L.each t i l

  -- a type's shape is its kind's, over the shapes of its own types
  pub shape_head : (t : TypeHandle) → head (shape_of S t) ≡ head (unfold_type (shape_of S) (inner S t))
  shape_head t = ap head (knot_step t) ∙ unfold_head (below (shape_of S) number t) (shape_of S) (inner S t)

  pub shape_member : (t : TypeHandle) (j : ℕ) → member (shape_of S t) j ≡ member (unfold_type (shape_of S) (inner S t)) j
  shape_member t j =
      ap (λ (s : Shape). member s j) (knot_step t)
      ∙ unfold_step (below (shape_of S) number t) (shape_of S) (inner S t) j (λ i l. below-lt (shape_of S) number t _ (lower_bases t i l))

  pub shape_same : (t : TypeHandle) → SameShape (shape_of S t) (unfold_type (shape_of S) (inner S t))
  shape_same t = same_step _ _ (shape_head t) (λ j. rw (shape_member t j) (same_refl _))

  -- Types that fit

  by-kind : (x : TypeInner) → unfold_type (shape_of S) x ≡ by_kind (get_or (kind x) 0 0) (get_or (kind x) 1 0) (get_or (kind x) 2 0) (length (bases x)) (λ j. shape_of S (get_or (bases x) j 0))
  unfolding unfold_type vector_shape kind bases by_kind
  by-kind Scalar = refl
  by-kind (Vector n) = refl
  by-kind (Matrix c r) = refl
  by-kind Atomic = refl
  by-kind (Pointer base) = refl
  by-kind (Array base n) = refl
  by-kind (Struct ms) = rw (length_types ms) (ap (struct 0 (length ms)) (fun_ext (λ j. ap (shape_of S) (member_base ms j))))
  by-kind (BindingArray base) = refl
  by-kind Opaque = refl

  by_same : (x : TypeInner) (f g : ℕ → Shape) → ((j : ℕ) → j < length (bases x) → SameShape (f j) (g j)) →
      SameShape (by_kind (get_or (kind x) 0 0) (get_or (kind x) 1 0) (get_or (kind x) 2 0) (length (bases x)) f)
      (by_kind (get_or (kind x) 0 0) (get_or (kind x) 1 0) (get_or (kind x) 2 0) (length (bases x)) g)
  unfolding kind bases by_kind
  by_same Scalar f g h = same_refl _
  by_same (Vector n) f g h = same_refl _
  by_same (Matrix c r) f g h = same_refl _
  by_same Atomic f g h = same_refl _
  by_same (Pointer base) f g h = same_refl _
  by_same (Array base n) f g h = same_array (elements n) (h 0 (omega arith))
  by_same (Struct ms) f g h = same_struct _ f g h
  by_same (BindingArray base) f g h = same_array spine (h 0 (omega arith))
  by_same Opaque f g h = same_refl _

  fit_by : (x y : TypeInner) → same S x y ≡ true →
      ((j : ℕ) → j < length (bases x) → alike S (get_or (bases x) j 0) (get_or (bases y) j 0) ≡ true → SameShape (shape_of S (get_or (bases x) j 0)) (shape_of S (get_or (bases y) j 0))) →
      SameShape (unfold_type (shape_of S) x) (unfold_type (shape_of S) y)
  unfolding same
  fit_by x y h f =
      let z = inner_parts (alike S) x y h in
      let k : kind y ≡ kind x = sym (equal_lists (kind x) (kind y) z.0) in
      let l : length (bases y) ≡ length (bases x) = sym (pairwise-long (alike S) (bases x) (bases y) z.1) in
      rw (by-kind x, by-kind y, k, l) (by_same x _ _ (λ j m. f j m (pairwise-at (alike S) (bases x) (bases y) z.1 j m)))

  alike-below : (n t u : ℕ) → t < n → alike S t u ≡ true → SameShape (shape_of S t) (shape_of S u)
  alike-below zero t u l h = absurd (omega arith)
  alike-below (suc n) t u l h =
      same_trans (shape_same t)
      (same_trans
      (fit_by (inner S t) (inner S u) (sym (alike_same S L t u) ∙ h) (λ j m e. alike-below n _ _ (omega (arith, lower_bases t j m)) e))
      (same_sym (shape_same u)))

  pub alike-shape : (t u : TypeHandle) → alike S t u ≡ true → SameShape (shape_of S t) (shape_of S u)
  alike-shape t u h = alike-below (suc t) t u (omega arith) h

  pub fits_shape : (x y : TypeInner) → same S x y ≡ true → SameShape (unfold_type (shape_of S) x) (unfold_type (shape_of S) y)
  fits_shape x y h = fit_by x y h (λ j m e. alike-shape _ _ e)
