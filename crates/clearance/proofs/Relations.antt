-- The computed tests of specs/Judged.antt and the relations of specs/IsJudged.antt are the same, one by one: paths, values, parts of types,
-- what holds an unsized array, and what a type is composed of. By cases of the kind, and by induction over lists and lower numbers.
use Prim.Native.Nat.{ℕ, zero, suc, ◌+◌, ◌<◌}
use native.Mathlib.Omega.{arith}
use mathlib.Core.Path.{◌≡◌, refl, sym, ap, subst, ◌∙◌}
use mathlib.Core.Bool.{Bool, true, false, cond, not, ◌||◌}
use mathlib.Core.List.{List, [], ◌∷◌, map}
use mathlib.Core.Logic.{◌↔◌, ◌⊎◌, inl, inr}
use mathlib.Core.Option.{Option, some, none as nothing}
use lib.Dec.{ltb, eqb}
use lib.ListN.{length, get_or}
use borrow.Author.Tests.{ltb-true, lt-ltb, eqb-true, eq-eqb, not-true}
use Rattle.part.proofs.Equations.{never}
use Rattle.module.specs.Module.{TypeHandle, TypeInner, Scalar, Vector, Matrix, Atomic, Pointer, Array, Struct, BindingArray, Opaque, Member as TypeMember}
use Rattle.module.specs.Module.{ExpressionHandle, Expression}
use Rattle.module.specs.Module.{Literal, ZeroValue, WorkGroupUniformLoadResult, AccessIndex, Access, Constant, Splat, Swizzle, Compose}
use Rattle.module.specs.Module.{FunctionArgument, GlobalVariable, LocalVariable, Load, ImageSample, ImageLoad, ImageQuery, Unary, Binary, Select}
use Rattle.module.specs.Module.{Derivative, Relational, Math, As, CallResult, AtomicResult, ArrayLength, RayQueryProceedResult}
use Rattle.module.specs.Module.{RayQueryGetIntersection, Override, SubgroupBallotResult, SubgroupOperationResult, RayQueryVertexPositions}
use Rattle.module.specs.Knot.{below}
use Rattle.module.proofs.Knot.{knot-is, below-lt}
use Rattle.clearance.specs.Scope.{Scope, inner, kind, bases, is_kind, is_scalar, is_vector, is_pointer, pairwise, alike_inner, alike, fits, typed, type_of, inner_of}
use Rattle.clearance.specs.Scope.{slot, Path, nowhere, further, step_from, path_of, is_path}
use Rattle.clearance.specs.Judged.{every, part_type, element_type, pointee_type, same, same_part, is_value, holds_in, holds_unsized, pointee_holds, holds_either, has_vector_size, component_count, count_components, fits_compose}
use Rattle.clearance.specs.Rules.{Member, here, later}
use Rattle.clearance.specs.IsJudged.{Declares, global, local, IndexOf, constant, dynamic, IsPath, ends, goes_on, MayPoint, a_variable, an_index, IsValue}
use Rattle.clearance.specs.IsJudged.{Part, component, column, element, member, Parts, components, columns, elements, Components, scalar, vector, none, Members, one, ComposedOf, a_vector, a_matrix, an_array, a_struct}
use Rattle.clearance.specs.IsJudged.{HoldsUnsized, run_sized, bindings, of_element, of_member}
use Rattle.clearance.proofs.Small.{cases, both_true, both_are}
use Rattle.clearance.proofs.Lowest.{no_member, first_or_later}

pub impossible : false ≡ true → ⊥
impossible h = never h

pub either_left : (a b : Bool) → a ≡ true → a || b ≡ true
either_left a b h = rw h

pub either_right : (a b : Bool) → b ≡ true → a || b ≡ true
either_right true b h = refl
either_right false b h = h

-- Lists

every_member : (test : ℕ → Bool) (x : ℕ) (l : List ℕ) → Member x l → every test l ≡ true → test x ≡ true
unfolding every
every_member test x l here h = (both_true _ _ h).0
every_member test x l (later {m = m} i) h = every_member test x _ i (both_true (test m) _ h).1

pub every-at : (test : ℕ → Bool) (l : List ℕ) → every test l ≡ true → (x : ℕ) → Member x l → test x ≡ true
every-at test l h x i = every_member test x l i h

pub every-from : (test : ℕ → Bool) (l : List ℕ) → ((x : ℕ) → Member x l → test x ≡ true) → every test l ≡ true
unfolding every
every-from test [] h = refl
every-from test (x ∷ l) h = both_are _ _ (h x here) (every-from test l (λ y i. h y (later i)))

-- Paths

abbrev rooted : Path → Bool
rooted p = ltb 0 (get_or p.root 0 0)

module _ (S : Scope) where
  Leads : (ExpressionHandle → Path) → Expression → Type 0
  Leads path x = ((t : TypeHandle) × Declares S x t) ⊎ ((b : ExpressionHandle) × IndexOf b x × (rooted (path b) ≡ true))

  leads_of : (path : ExpressionHandle → Path) (x : Expression) → rooted (step_from path x) ≡ true → Leads path x
  unfolding step_from further slot Leads
  leads_of path Literal h = never h
  leads_of path ZeroValue h = never h
  leads_of path WorkGroupUniformLoadResult h = never h
  leads_of path (AccessIndex base index) h = inr (base, constant, h)
  leads_of path (Access base index) h = inr (base, dynamic, h)
  leads_of path Constant h = never h
  leads_of path (Splat value) h = never h
  leads_of path (Swizzle v pattern) h = never h
  leads_of path (Compose cs) h = never h
  leads_of path (FunctionArgument index) h = never h
  leads_of path (GlobalVariable g) h = inl (_, global)
  leads_of path (LocalVariable l) h = inl (_, local)
  leads_of path (Load pointer) h = never h
  leads_of path (ImageSample image sampler coordinate array_index level depth_ref) h = never h
  leads_of path (ImageLoad image coordinate array_index sample level) h = never h
  leads_of path (ImageQuery image level) h = never h
  leads_of path (Unary x) h = never h
  leads_of path (Binary left right) h = never h
  leads_of path (Select condition accept reject) h = never h
  leads_of path (Derivative x) h = never h
  leads_of path (Relational x) h = never h
  leads_of path (Math x x1 x2 x3) h = never h
  leads_of path (As x) h = never h
  leads_of path CallResult h = never h
  leads_of path AtomicResult h = never h
  leads_of path (ArrayLength x) h = never h
  leads_of path RayQueryProceedResult h = never h
  leads_of path (RayQueryGetIntersection query) h = never h
  leads_of path Override h = never h
  leads_of path SubgroupBallotResult h = never h
  leads_of path SubgroupOperationResult h = never h
  leads_of path RayQueryVertexPositions h = never h

  variable_leads : (path : ExpressionHandle → Path) (x : Expression) (t : TypeHandle) → Declares S x t → rooted (step_from path x) ≡ true
  unfolding step_from slot
  variable_leads path x t global = refl
  variable_leads path x t local = refl

  index_leads : (path : ExpressionHandle → Path) (x : Expression) (b : ExpressionHandle) → IndexOf b x → rooted (path b) ≡ true → rooted (step_from path x) ≡ true
  unfolding step_from further
  index_leads path x b constant h = h
  index_leads path x b dynamic h = h

  path_step : (e : ExpressionHandle) → is_path S e ≡ rooted (step_from (below (path_of S) nowhere e) (typed S e).expression)
  unfolding is_path path_of
  path_step e = ap rooted (knot-is (λ path h. step_from path (typed S h).expression) nowhere e)

  below-path : (e b : ExpressionHandle) → b < e → rooted (below (path_of S) nowhere e b) ≡ is_path S b
  unfolding is_path
  below-path e b l = ap rooted (below-lt (path_of S) nowhere e b l)

  lower_path : (e b : ExpressionHandle) → rooted (below (path_of S) nowhere e b) ≡ true → b < e
  unfolding below
  lower_path e b h = cases (ltb b e) (λ t. ltb-true b e t) (λ t. never (rw t at h))

  path_below : (n e : ℕ) → e < n → is_path S e ≡ true → IsPath S e
  unfolding Leads
  path_below zero e l h = absurd (omega arith)
  path_below (suc n) e l h = go (λ b m. path_below n b (omega arith)) (leads_of (below (path_of S) nowhere e) (typed S e).expression (sym (path_step e) ∙ h))
    where
      go : ((b : ExpressionHandle) → b < e → is_path S b ≡ true → IsPath S b) → Leads (below (path_of S) nowhere e) (typed S e).expression → IsPath S e
      go f (inl d) = ends d.1
      go f (inr i) = let m = lower_path e i.0 i.2 in goes_on i.1 m (f i.0 m (sym (below-path e i.0 m) ∙ i.2))

  of_path : (e : ExpressionHandle) → IsPath S e → is_path S e ≡ true
  of_path e (ends {t = t} d) = path_step e ∙ variable_leads _ _ t d
  of_path e (goes_on {base = b} i l p) = path_step e ∙ index_leads _ _ b i (below-path e b l ∙ of_path b p)

  pub path_exactly : (e : ExpressionHandle) → (is_path S e ≡ true) ↔ IsPath S e
  path_exactly e = (path_below (suc e) e (omega arith), of_path e)

  -- a path is a variable or an index of a path
  pub path_points : (e : ExpressionHandle) → IsPath S e → MayPoint S (typed S e).expression
  path_points e (ends d) = a_variable d
  path_points e (goes_on i l p) = an_index i p

  -- Values

  pub pointer_of : (i : TypeInner) → is_pointer i ≡ true → (t : TypeHandle) × (i ≡ Pointer t)
  unfolding is_kind kind
  pointer_of Scalar h = never h
  pointer_of (Vector n) h = never h
  pointer_of (Matrix c r) h = never h
  pointer_of Atomic h = never h
  pointer_of (Pointer base) h = (base, refl)
  pointer_of (Array base n) h = never h
  pointer_of (Struct ms) h = never h
  pointer_of (BindingArray base) h = never h
  pointer_of Opaque h = never h

  pub no_pointer : (i : TypeInner) → ((t : TypeHandle) → i ≡ Pointer t → ⊥) → is_pointer i ≡ false
  no_pointer i h = cases (is_pointer i) (λ e. let z = pointer_of i e in absurd (h z.0 z.1)) (λ e. e)

  pub is_no_pointer : (i : TypeInner) → is_pointer i ≡ false → (t : TypeHandle) → i ≡ Pointer t → ⊥
  unfolding is_kind kind
  is_no_pointer i h t e = impossible (sym (rw e at h))

  pub value_exactly : (e : ExpressionHandle) → (is_value S e ≡ true) ↔ IsValue S e
  unfolding is_value
  value_exactly e = (
    (λ h.
        let z = both_true (not (is_path S e)) _ h in
        record {
          no_path = λ p. impossible (sym (not-true _ z.0) ∙ (path_exactly e).1 p);
          no_pointer = is_no_pointer (inner_of S e) (not-true _ z.1);
        }),
    (λ v.
        let p : is_path S e ≡ false = cases (is_path S e) (λ h. absurd (v.no_path ((path_exactly e).0 h))) (λ h. h) in
        rw (p, no_pointer (inner_of S e) v.no_pointer)),
  )

  -- Types

  pub scalar_of : (i : TypeInner) → is_scalar i ≡ true → i ≡ Scalar
  unfolding is_kind kind
  scalar_of Scalar h = refl
  scalar_of (Vector n) h = never h
  scalar_of (Matrix c r) h = never h
  scalar_of Atomic h = never h
  scalar_of (Pointer base) h = never h
  scalar_of (Array base n) h = never h
  scalar_of (Struct ms) h = never h
  scalar_of (BindingArray base) h = never h
  scalar_of Opaque h = never h

  pub vector_of : (i : TypeInner) → is_vector i ≡ true → (n : ℕ) × (i ≡ Vector n)
  unfolding is_kind kind
  vector_of Scalar h = never h
  vector_of (Vector n) h = (n, refl)
  vector_of (Matrix c r) h = never h
  vector_of Atomic h = never h
  vector_of (Pointer base) h = never h
  vector_of (Array base n) h = never h
  vector_of (Struct ms) h = never h
  vector_of (BindingArray base) h = never h
  vector_of Opaque h = never h

  pub sized_of : (i : TypeInner) (test : ℕ → Bool) → has_vector_size i test ≡ true → (n : ℕ) × (i ≡ Vector n) × (test n ≡ true)
  unfolding has_vector_size
  sized_of Scalar test h = never h
  sized_of (Vector n) test h = (n, refl, h)
  sized_of (Matrix c r) test h = never h
  sized_of Atomic test h = never h
  sized_of (Pointer base) test h = never h
  sized_of (Array base n) test h = never h
  sized_of (Struct ms) test h = never h
  sized_of (BindingArray base) test h = never h
  sized_of Opaque test h = never h

  same_vector : (k : ℕ) (i : TypeInner) → alike_inner (alike S) (Vector k) i ≡ true → i ≡ Vector k
  unfolding alike_inner pairwise kind bases
  same_vector k Scalar h = never h
  same_vector k (Vector n) h = let z = eqb-true k n (both_true _ _ (both_true _ _ h).0).0 in ap Vector (sym z)
  same_vector k (Matrix c r) h = never h
  same_vector k Atomic h = never h
  same_vector k (Pointer base) h = never h
  same_vector k (Array base n) h = never h
  same_vector k (Struct ms) h = never h
  same_vector k (BindingArray base) h = never h
  same_vector k Opaque h = never h

  pub vector_fits : (k : ℕ) (t : TypeHandle) → (fits S (Vector k) t ≡ true) ↔ (inner S t ≡ Vector k)
  unfolding fits alike_inner pairwise kind bases
  vector_fits k t = (same_vector k (inner S t), (λ e. rw (e, eq-eqb k k refl)))

  -- what an index gives
  cond-some : (b : Bool) (x t : TypeInner) → cond b (some x) nothing ≡ some t → (b ≡ true) × (t ≡ x)
  cond-some true x t h = (refl, cc)
  cond-some false x t h = never cc

  pub part_of : (i : TypeInner) (index : ℕ) (t : TypeInner) → part_type S i index ≡ some t → Part S i index t
  unfolding part_type
  part_of Scalar index t h = never cc
  part_of (Vector n) index t h = let z = cond-some (ltb index n) _ t h in rw z.1 (component (ltb-true index n z.0))
  part_of (Matrix c r) index t h = let z = cond-some (ltb index c) _ t h in rw z.1 (column (ltb-true index c z.0))
  part_of Atomic index t h = never cc
  part_of (Pointer base) index t h = never cc
  part_of (Array base n) index t h = let z = cond-some (ltb index n) _ t h in rw z.1 (element (ltb-true index n z.0))
  part_of (Struct ms) index t h = let z = cond-some (ltb index (length ms)) _ t h in rw z.1 (member (ltb-true index (length ms) z.0))
  part_of (BindingArray base) index t h = never cc
  part_of Opaque index t h = never cc

  pub of_part : (i : TypeInner) (index : ℕ) (t : TypeInner) → Part S i index t → part_type S i index ≡ some t
  unfolding part_type
  of_part i index t (component {n = n} l) = rw (lt-ltb index n l)
  of_part i index t (column {columns = c} l) = rw (lt-ltb index c l)
  of_part i index t (element {n = n} l) = rw (lt-ltb index n l)
  of_part i index t (member {ms = ms} l) = rw (lt-ltb index (length ms) l)

  same_some : (x t : TypeInner) → ◌≡◌ {A = Option TypeInner} (some x) (some t) → t ≡ x
  same_some x t h = cc

  pub parts_of : (i t : TypeInner) → element_type S i ≡ some t → Parts S i t
  unfolding element_type
  parts_of Scalar t h = never cc
  parts_of (Vector n) t h = rw (same_some _ t h) components
  parts_of (Matrix c r) t h = rw (same_some _ t h) columns
  parts_of Atomic t h = never cc
  parts_of (Pointer base) t h = never cc
  parts_of (Array base n) t h = rw (same_some _ t h) elements
  parts_of (Struct ms) t h = never cc
  parts_of (BindingArray base) t h = never cc
  parts_of Opaque t h = never cc

  pub of_parts : (i t : TypeInner) → Parts S i t → element_type S i ≡ some t
  unfolding element_type
  of_parts i t components = refl
  of_parts i t columns = refl
  of_parts i t elements = refl

  pub same-part : (o : Option TypeInner) (j : TypeInner) → same_part S o j ≡ true → (t : TypeInner) × (o ≡ some t) × (same S t j ≡ true)
  unfolding same_part
  same-part nothing j h = never h
  same-part (some t) j h = (t, refl, h)

  -- what is no pointer is what it leads to
  pub leads_itself : (i : TypeInner) → is_pointer i ≡ false → pointee_type S i ≡ i
  unfolding pointee_type is_kind kind
  leads_itself Scalar h = refl
  leads_itself (Vector n) h = refl
  leads_itself (Matrix c r) h = refl
  leads_itself Atomic h = refl
  leads_itself (Pointer base) h = never (sym h)
  leads_itself (Array base n) h = refl
  leads_itself (Struct ms) h = refl
  leads_itself (BindingArray base) h = refl
  leads_itself Opaque h = refl

  -- Compose

  count_scalar : (c : ExpressionHandle) (cs : List ExpressionHandle) → inner_of S c ≡ Scalar → count_components S (c ∷ cs) ≡ 1 + count_components S cs
  unfolding count_components component_count
  count_scalar c cs e = rw (e, component_count)

  count_vector : (c : ExpressionHandle) (cs : List ExpressionHandle) (m : ℕ) → inner_of S c ≡ Vector m → count_components S (c ∷ cs) ≡ m + count_components S cs
  unfolding count_components component_count
  count_vector c cs m e = rw (e, component_count)

  either_is : (a b : Bool) → a || b ≡ true → a ≡ false → b ≡ true
  either_is true b h e = never (sym e)
  either_is false b h e = h

  components_of : (cs : List ExpressionHandle) → every (λ c. is_scalar (inner_of S c) || is_vector (inner_of S c)) cs ≡ true → Components S cs (count_components S cs)
  unfolding every
  components_of [] h = unfold count_components in none
  components_of (c ∷ cs) h =
      let z = both_true (is_scalar (inner_of S c) || is_vector (inner_of S c)) _ h in
      let r = components_of cs z.1 in
      cases (is_scalar (inner_of S c))
      (λ e. let y = scalar_of _ e in rw (count_scalar c cs y) (scalar y r))
      (λ e. let y = vector_of _ (either_is _ _ z.0 e) in rw (count_vector c cs y.0 y.1) (vector y.1 r))

  of_components : (cs : List ExpressionHandle) (n : ℕ) → Components S cs n →
      (every (λ c. is_scalar (inner_of S c) || is_vector (inner_of S c)) cs ≡ true) × (count_components S cs ≡ n)
  unfolding every count_components is_kind kind
  of_components cs n none = (refl, refl)
  of_components cs n (scalar {c = c} {cs = ds} e r) = let z = of_components ds _ r in (rw (e, is_kind, kind) z.0, count_scalar c ds e ∙ ap (λ x. 1 + x) z.1)
  of_components cs n (vector {c = c} {cs = ds} {m = m} e r) =
      let z = of_components ds _ r in (rw (e, is_kind, kind) z.0, count_vector c ds m e ∙ ap (λ x. m + x) z.1)

  members_of : (ms : List TypeMember) (cs : List ExpressionHandle) → pairwise (λ m c. alike S m.type (type_of S c)) ms cs ≡ true → Members S ms cs
  unfolding pairwise
  members_of [] [] h = none
  members_of [] (c ∷ cs) h = never h
  members_of (m ∷ ms) [] h = never h
  members_of (m ∷ ms) (c ∷ cs) h = let z = both_true (alike S m.type (type_of S c)) _ h in one z.0 (members_of ms cs z.1)

  of_members : (ms : List TypeMember) (cs : List ExpressionHandle) → Members S ms cs → pairwise (λ m c. alike S m.type (type_of S c)) ms cs ≡ true
  unfolding pairwise
  of_members ms cs none = refl
  of_members ms cs (one h r) = both_are _ _ h (of_members _ _ r)

  pub composed_of : (i : TypeInner) (cs : List ExpressionHandle) → fits_compose S i cs ≡ true → ComposedOf S cs i
  unfolding fits_compose inner_of
  composed_of Scalar cs h = never h
  composed_of (Vector n) cs h =
      let z = both_true (every (λ c. is_scalar (inner_of S c) || is_vector (inner_of S c)) cs) _ h in
      a_vector (subst (λ k. Components S cs k) (eqb-true _ n z.1) (components_of cs z.0))
  composed_of (Matrix c r) cs h =
      let z = both_true (eqb (length cs) c) _ h in
      a_matrix (eqb-true _ c z.0) (λ x m. (vector_fits r (type_of S x)).0 (every-at (λ c. fits S (Vector r) (type_of S c)) cs z.1 x m))
  composed_of Atomic cs h = never h
  composed_of (Pointer base) cs h = never h
  composed_of (Array base n) cs h =
      let z = both_true (eqb (length cs) n) _ h in
      an_array (eqb-true _ n z.0) (every-at (λ c. alike S base (type_of S c)) cs z.1)
  composed_of (Struct ms) cs h = a_struct (members_of ms cs h)
  composed_of (BindingArray base) cs h = never h
  composed_of Opaque cs h = never h

  pub of_composed : (i : TypeInner) (cs : List ExpressionHandle) → ComposedOf S cs i → fits_compose S i cs ≡ true
  unfolding fits_compose inner_of
  of_composed i cs (a_vector {n = n} h) = let z = of_components cs n h in both_are _ _ z.0 (eq-eqb _ n z.1)
  of_composed i cs (a_matrix {columns = c} {rows = r} h f) =
      both_are _ _ (eq-eqb _ c h) (every-from _ cs (λ x m. (vector_fits r (type_of S x)).1 (f x m)))
  of_composed i cs (an_array {n = n} h f) = both_are _ _ (eq-eqb _ n h) (every-from _ cs f)
  of_composed i cs (a_struct h) = of_members _ cs h

  -- Unsized arrays

  -- what holds one by what is given of its elements and members
  HoldsIn : (TypeHandle → Bool) → TypeInner → Type 0
  HoldsIn holds i =
      ((base : TypeHandle) × (i ≡ Array base 0))
      ⊎ (((base : TypeHandle) × (i ≡ BindingArray base))
      ⊎ (((u : TypeHandle) × (n : ℕ) × (i ≡ Array u n) × (holds u ≡ true))
      ⊎ ((ms : List TypeMember) × (u : TypeHandle) × (i ≡ Struct ms) × Member u (map (λ m. m.type) ms) × (holds u ≡ true))))

  some_member : (holds : TypeHandle → Bool) (ms : List TypeMember) → not (every (λ m. not (holds m.type)) ms) ≡ true →
      (u : TypeHandle) × Member u (map (λ m. m.type) ms) × (holds u ≡ true)
  unfolding every
  some_member holds [] h = never h
  some_member holds (m ∷ ms) h =
      cases (holds m.type)
      (λ e. (m.type, here, e))
      (λ e. let z = some_member holds ms (rw e at h) in (z.0, later z.1, z.2))

  holds-in : (holds : TypeHandle → Bool) (i : TypeInner) → holds_in holds i ≡ true → HoldsIn holds i
  unfolding holds_in HoldsIn
  holds-in holds Scalar h = never h
  holds-in holds (Vector n) h = never h
  holds-in holds (Matrix c r) h = never h
  holds-in holds Atomic h = never h
  holds-in holds (Pointer base) h = never h
  holds-in holds (Array base n) h =
      cases (eqb n 0)
      (λ e. inl (base, ap (Array base) (eqb-true n 0 e)))
      (λ e. inr (inr (inl (base, n, refl, either_is _ _ h e))))
  holds-in holds (Struct ms) h = let z = some_member holds ms h in inr (inr (inr (ms, z.0, refl, z.1, z.2)))
  holds-in holds (BindingArray base) h = inr (inl (base, refl))
  holds-in holds Opaque h = never h

  member_holds : (holds : TypeHandle → Bool) (ms : List TypeMember) (u : TypeHandle) → Member u (map (λ m. m.type) ms) → holds u ≡ true →
      every (λ m. not (holds m.type)) ms ≡ false
  unfolding every
  member_holds holds [] u m h = no_member u [] refl m
  member_holds holds (x ∷ ms) u m h =
      first_or_later x.type u _ m (λ e. let z : holds x.type ≡ true = rw e at h in rw z)
      (λ i. cases (holds x.type) (λ e. rw e) (λ e. rw e (member_holds holds ms u i h)))

  abbrev lower : TypeHandle → TypeHandle → Bool
  lower t = below (holds_unsized S) false t

  holds_step : (t : TypeHandle) → holds_unsized S t ≡ holds_in (lower t) (inner S t)
  unfolding holds_unsized
  holds_step t = knot-is (λ holds h. holds_in holds (inner S h)) false t

  lower-holds : (t u : TypeHandle) → lower t u ≡ true → (u < t) × (holds_unsized S u ≡ true)
  unfolding below
  lower-holds t u h = cases (ltb u t) (λ e. (ltb-true u t e, rw e at h)) (λ e. never (rw e at h))

  holds_below : (n t : ℕ) → t < n → holds_unsized S t ≡ true → HoldsUnsized S t
  unfolding HoldsIn
  holds_below zero t l h = absurd (omega arith)
  holds_below (suc n) t l h = go (λ u m. holds_below n u (omega arith)) (holds-in (lower t) (inner S t) (sym (holds_step t) ∙ h))
    where
      go : ((u : TypeHandle) → u < t → holds_unsized S u ≡ true → HoldsUnsized S u) → HoldsIn (lower t) (inner S t) → HoldsUnsized S t
      go f (inl z) = run_sized z.1
      go f (inr (inl z)) = bindings z.1
      go f (inr (inr (inl z))) = let y = lower-holds t z.0 z.3 in of_element z.2 y.0 (f z.0 y.0 y.1)
      go f (inr (inr (inr z))) = let y = lower-holds t z.1 z.4 in of_member z.2 z.3 y.0 (f z.1 y.0 y.1)

  of_holds : (t : TypeHandle) → HoldsUnsized S t → holds_unsized S t ≡ true
  unfolding holds_in
  of_holds t (run_sized e) = holds_step t ∙ (rw (e, holds_in))
  of_holds t (bindings e) = holds_step t ∙ (rw (e, holds_in))
  of_holds t (of_element {u = u} {n = n} e l h) =
      holds_step t ∙ rw e (either_right (eqb n 0) _ (below-lt (holds_unsized S) false t u l ∙ of_holds u h))
  of_holds t (of_member {u = u} {ms = ms} e m l h) =
      holds_step t ∙ rw (e, member_holds (lower t) ms u m (below-lt (holds_unsized S) false t u l ∙ of_holds u h))

  holds_exactly : (t : TypeHandle) → (holds_unsized S t ≡ true) ↔ HoldsUnsized S t
  holds_exactly t = (holds_below (suc t) t (omega arith), of_holds t)

  -- of a pointer's pointee
  pointee_of : (i : TypeInner) → pointee_holds (holds_unsized S) i ≡ true → (u : TypeHandle) × (i ≡ Pointer u) × HoldsUnsized S u
  unfolding pointee_holds
  pointee_of Scalar h = never h
  pointee_of (Vector n) h = never h
  pointee_of (Matrix c r) h = never h
  pointee_of Atomic h = never h
  pointee_of (Pointer base) h = (base, refl, (holds_exactly base).0 h)
  pointee_of (Array base n) h = never h
  pointee_of (Struct ms) h = never h
  pointee_of (BindingArray base) h = never h
  pointee_of Opaque h = never h

  of_pointee : (i : TypeInner) (u : TypeHandle) → i ≡ Pointer u → HoldsUnsized S u → pointee_holds (holds_unsized S) i ≡ true
  unfolding pointee_holds
  of_pointee i u e h = rw e (of_holds u h)

  pub sized_exactly : (t : TypeHandle) →
      (not (holds_either S t) ≡ true) ↔ ((HoldsUnsized S t → ⊥) × ((u : TypeHandle) → inner S t ≡ Pointer u → HoldsUnsized S u → ⊥))
  unfolding holds_either
  sized_exactly t = (
    (λ h. (
      (λ g. impossible (sym (not-true _ h) ∙ either_left _ _ (of_holds t g))),
      (λ u e g. impossible (sym (not-true _ h) ∙ either_right (holds_unsized S t) _ (of_pointee _ u e g))),
    )),
    (λ z. cases (holds_unsized S t) (λ e. absurd (z.0 ((holds_exactly t).0 e)))
        (λ e. cases (pointee_holds (holds_unsized S) (inner S t)) (λ g. let y = pointee_of _ g in absurd (z.1 y.0 y.1 y.2)) (λ g. rw (e, g)))),
  )
