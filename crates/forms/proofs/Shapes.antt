-- What a type's row says of its shape: how many parts it has, the shape of each, and how all of it is split. Each by the kind, since the types that a type is made of are lower.
use Prim.Native.Nat.{ℕ, ◌+◌, ◌<◌, ◌≤◌}
use native.Mathlib.Omega.{arith}
use mathlib.Core.Path.{◌≡◌, refl, sym, ap, ◌∙◌}
use mathlib.Core.Logic.{◌⊎◌, inl, inr}
use mathlib.Core.Bool.{true, false}
use mathlib.Core.List.{List}
use lib.Dec.{eqb}
use lib.ListN.{length, get_or}
use borrow.Author.Tests.{lt-ltb, le-ltb, eq-eqb, ne_eqb}
use Rattle.part.specs.PartReq.{all, spine}
use Rattle.module.specs.declared.handles.TypeHandle.{TypeHandle as Handle}
use Rattle.module.specs.Module.{TypeHandle, TypeInner, Scalar, Vector, Matrix, Atomic, Pointer, Array, Struct, BindingArray, Opaque}
use Rattle.module.specs.Decode.{tab, member_of, type_inner_of}
use Rattle.module.specs.Knot.{below}
use Rattle.module.proofs.Knot.{below-lt, knot-is}
use Rattle.module.proofs.Tab.{length-tab}
use Rattle.context.specs.Types.{type_word, types_of}
use Rattle.clearance.specs.Shape.{Shape, number, void, struct, array, member, extent, is_void, is_whole, split}
use Rattle.clearance.specs.Scope.{Scope, inner, member_types, vector_shape, elements, unfold_type, shape_of, bases, kind}
use Rattle.judge.specs.Alike.{Lower}
use Rattle.judge.specs.Shapes.{part_count}
use Rattle.judge.proofs.ShapeRows.{member_base, length_types}
use Rattle.judge.proofs.TypeRows.{number as kind_of, row_is}
use Rattle.forms.specs.ShapeBy.{shape_in, shape_by, Parted}
use Rattle.forms.specs.declared.form.Form.{Form}
use Rattle.forms.specs.declared.form.Form.TheVariants.{Void, Number, Vector as VectorForm, Of}
use Rattle.std.specs.Prelude.{Some, None}

-- in every scope with these types it is the clearance's shape
pub shape_is : (types : List ℕ) (S : Scope) → S.program.types ≡ types_of types → (t : TypeHandle) → shape_of S t ≡ shape_in (types_of types) t
unfolding shape_of shape_in inner
shape_is types S e t = rw e

-- parts of a shape
pub struct-in : (b n i : ℕ) (f : ℕ → Shape) → b ≤ i → i < b + n → member (struct b n f) i ≡ f i
unfolding member
struct-in b n i f h l = rw (le-ltb i b h, lt-ltb i (b + n) l)

pub struct_out : (b n i : ℕ) (f : ℕ → Shape) → b + n ≤ i → member (struct b n f) i ≡ void
unfolding member
struct_out b n i f h = let l : b ≤ i = omega arith in rw (le-ltb i b l, le-ltb i (b + n) h)

pub struct-before : (b n i : ℕ) (f : ℕ → Shape) → i < b → member (struct b n f) i ≡ void
unfolding member
struct-before b n i f h = rw (lt-ltb i b h)

struct-part : (n i : ℕ) (f : ℕ → Shape) → i < n → member (struct 0 n f) i ≡ f i
struct-part n i f h = struct-in 0 n i f (omega arith) (omega arith)

struct-past : (n i : ℕ) (f : ℕ → Shape) → n ≤ i → member (struct 0 n f) i ≡ void
struct-past n i f h = struct_out 0 n i f (omega arith)

array-part : (n i : ℕ) (u : Shape) → i < n → member (array n u) i ≡ u
unfolding member
array-part n i u h = rw (lt-ltb i n h)

array-past : (n i : ℕ) (u : Shape) → n ≤ i → member (array n u) i ≡ void
unfolding member
array-past n i u h = rw (le-ltb i n h)

pub component_in : {n i : ℕ} → i < n → number ≡ member (vector_shape n) i
unfolding vector_shape
component_in {n} {i} h = sym (struct-part n i (λ j. number) h)

pub component_past : {n i : ℕ} → n ≤ i → void ≡ member (vector_shape n) i
unfolding vector_shape
component_past {n} {i} h = sym (struct-past n i (λ j. number) h)

-- a type's shape by its kind, with w for the types that it is made of
module _ (w : TypeHandle → Shape) where
  extent-binding : (x : TypeInner) → kind_of x ≡ 7 → spine ≡ extent (unfold_type w x)
  unfolding kind unfold_type extent
  extent-binding Scalar h = absurd (omega arith)
  extent-binding (Vector n) h = absurd (omega arith)
  extent-binding (Matrix columns rows) h = absurd (omega arith)
  extent-binding Atomic h = absurd (omega arith)
  extent-binding (Pointer base) h = absurd (omega arith)
  extent-binding (Array base n) h = absurd (omega arith)
  extent-binding (Struct ms) h = absurd (omega arith)
  extent-binding (BindingArray base) h = refl
  extent-binding Opaque h = absurd (omega arith)

  extent-other : (x : TypeInner) → (kind_of x ≡ 7 → ⊥) → (kind_of x ≡ 5 → ⊥) → part_count x ≡ extent (unfold_type w x)
  unfolding kind unfold_type extent part_count vector_shape
  extent-other Scalar h g = refl
  extent-other (Vector n) h g = refl
  extent-other (Matrix columns rows) h g = refl
  extent-other Atomic h g = refl
  extent-other (Pointer base) h g = refl
  extent-other (Array base n) h g = absurd (g refl)
  extent-other (Struct ms) h g = refl
  extent-other (BindingArray base) h g = absurd (h refl)
  extent-other Opaque h g = refl

  extent-array : (x : TypeInner) → kind_of x ≡ 5 → elements (part_count x) ≡ extent (unfold_type w x)
  unfolding kind unfold_type extent part_count
  extent-array Scalar h = absurd (omega arith)
  extent-array (Vector n) h = absurd (omega arith)
  extent-array (Matrix columns rows) h = absurd (omega arith)
  extent-array Atomic h = absurd (omega arith)
  extent-array (Pointer base) h = absurd (omega arith)
  extent-array (Array base n) h = refl
  extent-array (Struct ms) h = absurd (omega arith)
  extent-array (BindingArray base) h = absurd (omega arith)
  extent-array Opaque h = absurd (omega arith)

  part_past : (x : TypeInner) (i : ℕ) → extent (unfold_type w x) ≤ i → void ≡ member (unfold_type w x) i
  unfolding unfold_type extent vector_shape
  part_past Scalar i h = unfold member in refl
  part_past (Vector n) i h = sym (struct-past n i _ h)
  part_past (Matrix columns rows) i h = sym (struct-past columns i _ h)
  part_past Atomic i h = unfold member in refl
  part_past (Pointer base) i h = unfold member in refl
  part_past (Array base n) i h = sym (array-past (elements n) i _ h)
  part_past (Struct ms) i h = sym (struct-past (length ms) i _ h)
  part_past (BindingArray base) i h = sym (array-past spine i _ h)
  part_past Opaque i h = unfold member in refl

  part_vector : (x : TypeInner) (i : ℕ) → kind_of x ≡ 1 → i < extent (unfold_type w x) → number ≡ member (unfold_type w x) i
  unfolding kind unfold_type extent vector_shape
  part_vector Scalar i h l = absurd (omega arith)
  part_vector (Vector n) i h l = sym (struct-part n i _ l)
  part_vector (Matrix columns rows) i h l = absurd (omega arith)
  part_vector Atomic i h l = absurd (omega arith)
  part_vector (Pointer base) i h l = absurd (omega arith)
  part_vector (Array base n) i h l = absurd (omega arith)
  part_vector (Struct ms) i h l = absurd (omega arith)
  part_vector (BindingArray base) i h l = absurd (omega arith)
  part_vector Opaque i h l = absurd (omega arith)

  part_matrix : (c r i : ℕ) → i < extent (unfold_type w (Matrix c r)) → vector_shape r ≡ member (unfold_type w (Matrix c r)) i
  unfolding unfold_type extent
  part_matrix c r i l = sym (struct-part c i (λ j. vector_shape r) l)

  part_struct : (x : TypeInner) (i : ℕ) → kind_of x ≡ 6 → i < extent (unfold_type w x) → (i < length (bases x)) × (w (get_or (bases x) i 0) ≡ member (unfold_type w x) i)
  unfolding kind unfold_type extent bases
  part_struct Scalar i h l = absurd (omega arith)
  part_struct (Vector n) i h l = absurd (omega arith)
  part_struct (Matrix columns rows) i h l = absurd (omega arith)
  part_struct Atomic i h l = absurd (omega arith)
  part_struct (Pointer base) i h l = absurd (omega arith)
  part_struct (Array base n) i h l = absurd (omega arith)
  part_struct (Struct ms) i h l = (omega (arith, length_types ms), sym (struct-part (length ms) i _ l ∙ ap w (member_base ms i)))
  part_struct (BindingArray base) i h l = absurd (omega arith)
  part_struct Opaque i h l = absurd (omega arith)

  part_element : (x : TypeInner) (i : ℕ) → (kind_of x ≡ 1 → ⊥) → (kind_of x ≡ 2 → ⊥) → (kind_of x ≡ 6 → ⊥) → i < extent (unfold_type w x)
      → (0 < length (bases x)) × (w (get_or (bases x) 0 0) ≡ member (unfold_type w x) i)
  unfolding kind unfold_type extent bases
  part_element Scalar i a b c l = absurd (omega arith)
  part_element (Vector n) i a b c l = absurd (a refl)
  part_element (Matrix columns rows) i a b c l = absurd (b refl)
  part_element Atomic i a b c l = absurd (omega arith)
  part_element (Pointer base) i a b c l = absurd (omega arith)
  part_element (Array base n) i a b c l = (omega arith, sym (array-part (elements n) i _ l))
  part_element (Struct ms) i a b c l = absurd (c refl)
  part_element (BindingArray base) i a b c l = (omega arith, sym (array-part spine i _ l))
  part_element Opaque i a b c l = absurd (omega arith)

  whole_kind : (x : TypeInner) → (kind_of x ≡ 5 → ⊥) → eqb (kind_of x) 7 ≡ is_whole (unfold_type w x)
  unfolding kind unfold_type vector_shape
  whole_kind Scalar h = refl
  whole_kind (Vector n) h = refl
  whole_kind (Matrix columns rows) h = refl
  whole_kind Atomic h = refl
  whole_kind (Pointer base) h = refl
  whole_kind (Array base n) h = absurd (h refl)
  whole_kind (Struct ms) h = refl
  whole_kind (BindingArray base) h = refl
  whole_kind Opaque h = refl

  split-none : (x : TypeInner) → (kind_of x ≡ 1 → ⊥) → (kind_of x ≡ 2 → ⊥) → (kind_of x ≡ 6 → ⊥) → split (unfold_type w x) all ≡ all
  unfolding kind unfold_type split
  split-none Scalar a b c = refl
  split-none (Vector n) a b c = absurd (a refl)
  split-none (Matrix columns rows) a b c = absurd (b refl)
  split-none Atomic a b c = refl
  split-none (Pointer base) a b c = refl
  split-none (Array base n) a b c = refl
  split-none (Struct ms) a b c = absurd (c refl)
  split-none (BindingArray base) a b c = refl
  split-none Opaque a b c = refl

  not_void : (x : TypeInner) → is_void (unfold_type w x) ≡ false
  unfolding unfold_type vector_shape
  not_void Scalar = refl
  not_void (Vector n) = refl
  not_void (Matrix columns rows) = refl
  not_void Atomic = refl
  not_void (Pointer base) = refl
  not_void (Array base n) = refl
  not_void (Struct ms) = refl
  not_void (BindingArray base) = refl
  not_void Opaque = refl

-- the type t of the table
module _ (types : List ℕ) (t : ℕ) where
  abbrev lower : TypeHandle → Shape
  lower = below (shape_in (types_of types)) number t

  abbrev type : TypeInner
  type = get_or (types_of types) t Opaque

  step_is : shape_in (types_of types) t ≡ unfold_type lower type
  unfolding shape_in
  step_is = knot-is (λ shape h. unfold_type shape (get_or (types_of types) h Opaque)) number t

  type_void : false ≡ is_void (shape_in (types_of types) t)
  type_void = rw step_is (sym (not_void lower type))

  pub part_none : {n i : ℕ} → n ≡ extent (shape_in (types_of types) t) → n ≤ i → void ≡ member (shape_in (types_of types) t) i
  part_none {i = i} c h = let l : extent (shape_in (types_of types) t) ≤ i = omega arith in rw step_is (part_past lower type i (rw step_is at l))

  module _ {k : ℕ} (e : k ≡ kind_of type) where
    pub extent-bound : k ≡ 7 → spine ≡ extent (shape_in (types_of types) t)
    extent-bound h = rw step_is (extent-binding lower type (sym e ∙ h))

    module _ {n : ℕ} (c : n ≡ part_count type) where
      pub extent-parts : (k ≡ 7 → ⊥) → (k ≡ 5 → ⊥) → n ≡ extent (shape_in (types_of types) t)
      extent-parts h g = rw step_is (c ∙ extent-other lower type (λ q. h (e ∙ q)) (λ q. g (e ∙ q)))

      pub extent-counted : k ≡ 5 → elements n ≡ extent (shape_in (types_of types) t)
      extent-counted h = rw (step_is, c) (extent-array lower type (sym e ∙ h))

      pub extent_endless : k ≡ 5 → n ≡ 0 → spine ≡ extent (shape_in (types_of types) t)
      extent_endless h z = let f : spine ≡ elements n = unfold elements in rw (eq-eqb n 0 z) in f ∙ extent-counted h

      pub extent_elements : k ≡ 5 → (n ≡ 0 → ⊥) → n ≡ extent (shape_in (types_of types) t)
      extent_elements h z = let f : n ≡ elements n = unfold elements in rw (ne_eqb n 0 z) in f ∙ extent-counted h

    pub whole_array : k ≡ 5 → true ≡ is_whole (shape_in (types_of types) t)
    whole_array h = rw (step_is, row_is types t 5 (omega arith) e h) (unfold type_inner_of unfold_type in refl)

    pub whole_other : (k ≡ 5 → ⊥) → eqb k 7 ≡ is_whole (shape_in (types_of types) t)
    whole_other h = rw (step_is, e) (whole_kind lower type (λ q. h (e ∙ q)))

    pub parted_vector : {n : ℕ} → k ≡ 1 → n ≡ type_word types t 1 → Parted (shape_in (types_of types) t) (Some n)
    parted_vector {n} h w =
        record { part = λ j. number; is = step_is ∙ rw (row_is types t 1 (omega arith) e h) (unfold type_inner_of unfold_type vector_shape in rw w) }

    pub parted_matrix : {n : ℕ} → k ≡ 2 → n ≡ type_word types t 1 → Parted (shape_in (types_of types) t) (Some n)
    parted_matrix {n} h w =
        record { part = λ j. vector_shape (type_word types t 2); is = step_is ∙ rw (row_is types t 2 (omega arith) e h) (unfold type_inner_of unfold_type in rw w) }

    pub parted_struct : {n : ℕ} → k ≡ 6 → n ≡ type_word types t 1 → Parted (shape_in (types_of types) t) (Some n)
    parted_struct {n} h w =
        record {
          part = λ j. lower (member_types (tab (type_word types t 1) (member_of (λ j. type_word types t (1 + j)))) j);
          is = step_is ∙ rw (row_is types t 6 (omega arith) e h) (unfold type_inner_of unfold_type in rw (length-tab (type_word types t 1) (member_of (λ j. type_word types t (1 + j))), w));
        }

    pub parted_none : (k ≡ 1 → ⊥) → (k ≡ 2 → ⊥) → (k ≡ 6 → ⊥) → Parted (shape_in (types_of types) t) None
    parted_none a b c = rw step_is (split-none lower type (λ q. a (e ∙ q)) (λ q. b (e ∙ q)) (λ q. c (e ∙ q)))

    -- the part i
    module _ {n i : ℕ} (c : n ≡ extent (shape_in (types_of types) t)) where
      there : i < n → i < extent (unfold_type lower type)
      there h = let l : i < extent (shape_in (types_of types) t) = omega arith in rw step_is at l

      module _ (h : i < n) where
        pub part_number : k ≡ 1 → number ≡ member (shape_in (types_of types) t) i
        part_number q = rw step_is (part_vector lower type i (sym e ∙ q) (there h))

        pub part_column : {r : ℕ} → k ≡ 2 → r ≡ type_word types t 2 → vector_shape r ≡ member (shape_in (types_of types) t) i
        part_column {r} q w =
            let m : type ≡ Matrix (type_word types t 1) (type_word types t 2) = unfold type_inner_of in row_is types t 2 (omega arith) e q in
            rw (step_is, m, w) (part_matrix lower (type_word types t 1) (type_word types t 2) i (rw m at (there h)))

        pub member_there : k ≡ 6 → i < length (bases type)
        member_there q = (part_struct lower type i (sym e ∙ q) (there h)).0

        pub element_there : (k ≡ 1 → ⊥) → (k ≡ 2 → ⊥) → (k ≡ 6 → ⊥) → 0 < length (bases type)
        element_there u v z = (part_element lower type i (λ q. u (e ∙ q)) (λ q. v (e ∙ q)) (λ q. z (e ∙ q)) (there h)).0

        module _ (L : Lower (types_of types)) where
          pub part_member : {b : ℕ} → k ≡ 6 → b ≡ get_or (bases type) i 0 → shape_in (types_of types) b ≡ member (shape_in (types_of types) t) i
          part_member {b} q w =
              let l : b < t = omega (arith, L.each t i (member_there q)) in
              rw step_is (sym (below-lt (shape_in (types_of types)) number t b l) ∙ ap lower w ∙ (part_struct lower type i (sym e ∙ q) (there h)).1)

          pub part_base : {b : ℕ} → (k ≡ 1 → ⊥) → (k ≡ 2 → ⊥) → (k ≡ 6 → ⊥) → b ≡ get_or (bases type) 0 0 → shape_in (types_of types) b ≡ member (shape_in (types_of types) t) i
          part_base {b} u v z w =
              let l : b < t = omega (arith, L.each t 0 (element_there u v z)) in
              rw step_is (sym (below-lt (shape_in (types_of types)) number t b l) ∙ ap lower w ∙ (part_element lower type i (λ q. u (e ∙ q)) (λ q. v (e ∙ q)) (λ q. z (e ∙ q)) (there h)).1)

-- other forms: a type's shape is never void, and only a type's is whole
pub void_other : (types : List ℕ) (f : Form) → (f ≡ Void → ⊥) → false ≡ is_void (shape_by types f)
void_other types Void h = absurd (h refl)
void_other types Number h = refl
void_other types (VectorForm n) h = unfold vector_shape in refl
void_other types (Of t) h = type_void types t.0

pub whole_none : (types : List ℕ) (f : Form) → ((t : Handle) → f ≡ Of t → ⊥) → false ≡ is_whole (shape_by types f)
whole_none types Void h = refl
whole_none types Number h = refl
whole_none types (VectorForm n) h = unfold vector_shape in refl
whole_none types (Of t) h = absurd (h t refl)

-- a form by its variant
module _ (types : List ℕ) (f : Form) where
  module _ (e : (f ≡ Void) ⊎ (f ≡ Number)) where
    pub bare_member : (i : ℕ) → void ≡ member (shape_by types f) i
    bare_member i = elim e [ inl h ↦ rw h (unfold member in refl) | inr h ↦ rw h (unfold member in refl) ]

    pub bare_split : Parted (shape_by types f) None
    bare_split = elim e [ inl h ↦ rw h (unfold split in refl) | inr h ↦ rw h (unfold split in refl) ]

  module _ {n : ℕ} (e : f ≡ VectorForm n) where
    pub vector_split : Parted (shape_by types f) (Some n)
    vector_split = rw e (record { part = λ j. number; is = unfold vector_shape in refl })
