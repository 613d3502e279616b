-- An expression passes the computed test exactly where every clause of 01's holds of it: each clause from the test at its kind, and the test
-- from the clauses by cases of the kind.
use Prim.Native.Nat.{ℕ}
use native.Mathlib.Omega.{arith}
use mathlib.Core.Path.{◌≡◌, refl, sym, subst, ◌∙◌}
use mathlib.Core.Bool.{Bool, true, false, not, ◌&&◌, ◌||◌}
use mathlib.Core.List.{List, [], ◌∷◌}
use mathlib.Core.Logic.{◌↔◌, ◌⊎◌, inl, inr}
use mathlib.Core.Option.{Option, some, none as nothing}
use lib.Dec.{ltb, eqb}
use lib.ListN.{length}
use borrow.Author.Tests.{ltb-true, lt-ltb, not-true}
use Rattle.part.proofs.Equations.{never}
use Rattle.module.specs.Module.{TypeHandle, TypeInner, Vector, Pointer}
use Rattle.module.specs.Module.{ExpressionHandle, Expression}
use Rattle.module.specs.Module.{Literal, ZeroValue, WorkGroupUniformLoadResult, AccessIndex, Access, Constant, Splat, Swizzle, Compose}
use Rattle.module.specs.Module.{FunctionArgument, GlobalVariable, LocalVariable, Load, ImageSample, ImageLoad, ImageQuery, Unary, Binary, Select}
use Rattle.module.specs.Module.{Derivative, Relational, Math, As, CallResult, AtomicResult, ArrayLength, RayQueryProceedResult}
use Rattle.module.specs.Module.{RayQueryGetIntersection, Override, SubgroupBallotResult, SubgroupOperationResult, RayQueryVertexPositions}
use Rattle.clearance.specs.Scope.{Scope, inner, kind, is_kind, is_scalar, is_pointer, alike, fits, typed, type_of, inner_of, is_path}
use Rattle.clearance.specs.Judged.{every, presently, part_type, element_type, pointee, same, same_part, is_value, fits_index, has_vector_size, fits_variable, fits_expression, judged_expression}
use Rattle.clearance.specs.Rules.{Member, here, later}
use Rattle.module.specs.Kinds.{expression_kind}
use Rattle.clearance.specs.IsJudged.{ExpressionKinds, Declares, global, local, IndexOf, constant, dynamic, IsPath, MayPoint, a_variable, an_index, IsValue}
use Rattle.clearance.specs.IsJudged.{TakesValue, as_index, of_splat, of_swizzle, of_compose, of_unary, left, right, as_condition, as_accept, as_reject, of_relational, of_math, of_math1, of_math2, of_math3, of_as}
use Rattle.clearance.specs.IsJudged.{Indexes, at, by, ComposedOf, a_vector, a_matrix, an_array, a_struct, HoldsUnsized, JudgedExpression, FitExpression}
use Rattle.clearance.proofs.Small.{cases, both_true, both_are}
use Rattle.clearance.proofs.Relations.{impossible, either_left, either_right, every-at, every-from, path_exactly, path_points, no_pointer, is_no_pointer, value_exactly, scalar_of, vector_of, sized_of, vector_fits}
use Rattle.clearance.proofs.Relations.{part_of, of_part, parts_of, of_parts, same-part, leads_itself, composed_of, of_composed, sized_exactly}

-- Kinds

-- the numbers of the kinds that are judged, and of those that may point
kind_test : ℕ → Bool
kind_test k = ltb k 2 || ((ltb 2 k && ltb k 13) || ((ltb 15 k && ltb k 19) || (ltb 19 k && ltb k 23)))

may_test : ℕ → Bool
may_test k = (eqb k 3 || eqb k 4) || (eqb k 10 || eqb k 11)

kind-test : (k : ℕ) → ExpressionKinds k → kind_test k ≡ true
unfolding kind_test
kind-test k (inl h) = either_left _ _ (lt-ltb k 2 (omega (arith, h.1)))
kind-test k (inr (inl h)) = either_right (ltb k 2) _ (either_left _ _ (both_are _ _ (lt-ltb 2 k (omega (arith, h.0))) (lt-ltb k 13 (omega (arith, h.1)))))
kind-test k (inr (inr (inl h))) =
    either_right (ltb k 2) _ (either_right (ltb 2 k && ltb k 13) _ (either_left _ _ (both_are _ _ (lt-ltb 15 k (omega (arith, h.0))) (lt-ltb k 19 (omega (arith, h.1))))))
kind-test k (inr (inr (inr h))) =
    either_right (ltb k 2) _
    (either_right (ltb 2 k && ltb k 13) _ (either_right (ltb 15 k && ltb k 19) _ (both_are _ _ (lt-ltb 19 k (omega (arith, h.0))) (lt-ltb k 23 (omega (arith, h.1))))))

module _ (S : Scope) where
  may_point : (x : Expression) → MayPoint S x → may_test (expression_kind x) ≡ true
  unfolding expression_kind may_test
  may_point x (a_variable d) = go x _ d
    where
      go : (x : Expression) (t : TypeHandle) → Declares S x t → may_test (expression_kind x) ≡ true
      go x t global = refl
      go x t local = refl
  may_point x (an_index i p) = go x _ i
    where
      go : (x : Expression) (b : ExpressionHandle) → IndexOf b x → may_test (expression_kind x) ≡ true
      go x b constant = refl
      go x b dynamic = refl

  -- an index that may point is one of a path
  same_base : (x : Expression) (a b : ExpressionHandle) → IndexOf a x → IndexOf b x → a ≡ b
  same_base x a b constant constant = refl
  same_base x a b dynamic dynamic = refl

  index_of_path : (x : Expression) (b : ExpressionHandle) → IndexOf b x → MayPoint S x → IsPath S b
  index_of_path x b i (an_index {base = a} j p) = subst (λ c. IsPath S c) (same_base x a b j i) p
  index_of_path x b i (a_variable d) = never (sym (go x i) ∙ other x _ d)
    where
      go : (x : Expression) → IndexOf b x → ltb 9 (expression_kind x) ≡ false
      go x constant = unfold expression_kind in refl
      go x dynamic = unfold expression_kind in refl

      other : (x : Expression) (t : TypeHandle) → Declares S x t → ltb 9 (expression_kind x) ≡ true
      other x t global = unfold expression_kind in refl
      other x t local = unfold expression_kind in refl

  value_pointee : (e : ExpressionHandle) → IsValue S e → pointee S e ≡ inner_of S e
  unfolding pointee
  value_pointee e v = leads_itself S _ (no_pointer S _ v.no_pointer)

  module _ (e : ExpressionHandle) where
    -- An index: of a path what it leads to, of a value the value

    Fitting : (TypeInner → Option TypeInner) → ExpressionHandle → Type 0
    Fitting part b =
        (IsPath S b ⊎ IsValue S b)
        × ((t : TypeInner) × (part (pointee S b) ≡ some t) × (same S t (pointee S e) ≡ true))
        × ((u : TypeHandle) → inner_of S e ≡ Pointer u → IsPath S b)

    index_fitting : (part : TypeInner → Option TypeInner) (b : ExpressionHandle) → fits_index S part b e ≡ true → Fitting part b
    unfolding fits_index Fitting
    index_fitting part b h =
        cases (is_path S b)
        (λ p. let q = (path_exactly S b).0 p in (inl q, same-part S _ _ (rw p at h), λ u z. q))
        (λ p.
        let z = both_true (is_value S b) _ (rw p at h) in
        let y = both_true (is_value S e) _ z.1 in
        let v = (value_exactly S b).0 z.0 in
        let w = (value_exactly S e).0 y.0 in
        let m : pointee S b ≡ inner_of S b = value_pointee b v in
        let n : pointee S e ≡ inner_of S e = value_pointee e w in
        (inr v, rw (m, n) (same-part S _ _ y.1), λ u q. absurd (w.no_pointer u q)))

    of_fitting : (part : TypeInner → Option TypeInner) (b : ExpressionHandle) → Fitting part b → (IsPath S e → IsPath S b) → fits_index S part b e ≡ true
    unfolding fits_index Fitting same_part
    of_fitting part b f g =
        cases (is_path S b)
        (λ p. rw (p, f.1.1) f.1.2)
        (λ p.
        let n : IsPath S b → ⊥ = λ q. impossible (sym p ∙ (path_exactly S b).1 q) in
        let v = based n f.0 in
        let w : IsValue S e = record { no_path = λ q. n (g q); no_pointer = λ u q. n (f.2 u q) } in
        let m : pointee S b ≡ inner_of S b = value_pointee b v in
        let o : pointee S e ≡ inner_of S e = value_pointee e w in
        let z : same_part S (part (inner_of S b)) (inner_of S e) ≡ true = rw (← m, ← o, f.1.1, same_part) f.1.2 in
        rw (p, (value_exactly S b).1 v, (value_exactly S e).1 w, z))
      where
        based : (IsPath S b → ⊥) → IsPath S b ⊎ IsValue S b → IsValue S b
        based n (inl q) = absurd (n q)
        based n (inr v) = v

    -- From the test

    kind-of : (x : Expression) → fits_expression S e x ≡ true → ExpressionKinds (expression_kind x)
    unfolding fits_expression expression_kind
    kind-of Literal h = inl (omega arith, omega arith)
    kind-of ZeroValue h = inl (omega arith, omega arith)
    kind-of WorkGroupUniformLoadResult h = never h
    kind-of (AccessIndex b i) h = inr (inl (omega arith, omega arith))
    kind-of (Access b i) h = inr (inl (omega arith, omega arith))
    kind-of Constant h = inr (inl (omega arith, omega arith))
    kind-of (Splat v) h = inr (inl (omega arith, omega arith))
    kind-of (Swizzle v pattern) h = inr (inl (omega arith, omega arith))
    kind-of (Compose cs) h = inr (inl (omega arith, omega arith))
    kind-of (FunctionArgument a) h = inr (inl (omega arith, omega arith))
    kind-of (GlobalVariable g) h = inr (inl (omega arith, omega arith))
    kind-of (LocalVariable l) h = inr (inl (omega arith, omega arith))
    kind-of (Load p) h = inr (inl (omega arith, omega arith))
    kind-of (ImageSample image sampler coordinate array_index level depth_ref) h = never h
    kind-of (ImageLoad image coordinate array_index sample level) h = never h
    kind-of (ImageQuery image level) h = never h
    kind-of (Unary y) h = inr (inr (inl (omega arith, omega arith)))
    kind-of (Binary l r) h = inr (inr (inl (omega arith, omega arith)))
    kind-of (Select c a r) h = inr (inr (inl (omega arith, omega arith)))
    kind-of (Derivative x) h = never h
    kind-of (Relational y) h = inr (inr (inr (omega arith, omega arith)))
    kind-of (Math y y1 y2 y3) h = inr (inr (inr (omega arith, omega arith)))
    kind-of (As y) h = inr (inr (inr (omega arith, omega arith)))
    kind-of CallResult h = never h
    kind-of AtomicResult h = never h
    kind-of (ArrayLength x) h = never h
    kind-of RayQueryProceedResult h = never h
    kind-of (RayQueryGetIntersection query) h = never h
    kind-of Override h = never h
    kind-of SubgroupBallotResult h = never h
    kind-of SubgroupOperationResult h = never h
    kind-of RayQueryVertexPositions h = never h

    present_value : (o : Option ExpressionHandle) (v : ExpressionHandle) → o ≡ some v → presently (is_value S) o ≡ true → IsValue S v
    unfolding presently
    present_value o v q h = (value_exactly S v).0 (rw (q, presently) at h)

    values_of : (x : Expression) → fits_expression S e x ≡ true → (v : ExpressionHandle) → TakesValue v x → IsValue S v
    unfolding fits_expression every
    values_of x h v as_index = (value_exactly S v).0 (both_true _ _ h).0
    values_of x h v of_splat = (value_exactly S v).0 (both_true _ _ h).0
    values_of x h v of_swizzle = (value_exactly S v).0 (both_true _ _ h).0
    values_of x h v (of_compose {components = cs} m) = (value_exactly S v).0 (every-at (is_value S) cs (both_true _ _ h).0 v m)
    values_of x h v of_unary = (value_exactly S v).0 (both_true (is_value S v) _ (both_true (is_value S e) _ h).1).0
    values_of x h v left = (value_exactly S v).0 (both_true (is_value S v) _ (both_true (is_value S e) _ h).1).0
    values_of x h v (right {l = l}) = (value_exactly S v).0 (both_true (is_value S l) _ (both_true (is_value S e) _ h).1).1
    values_of x h v (as_condition {a = a} {r = r}) =
        (value_exactly S v).0 (every-at (is_value S) (v ∷ a ∷ r ∷ []) (both_true (every (is_value S) (v ∷ a ∷ r ∷ [])) _ (both_true (is_value S e) _ h).1).0 v here)
    values_of x h v (as_accept {c = c} {r = r}) =
        (value_exactly S v).0 (every-at (is_value S) (c ∷ v ∷ r ∷ []) (both_true (every (is_value S) (c ∷ v ∷ r ∷ [])) _ (both_true (is_value S e) _ h).1).0 v (later here))
    values_of x h v (as_reject {c = c} {a = a}) =
        (value_exactly S v).0 (every-at (is_value S) (c ∷ a ∷ v ∷ []) (both_true (every (is_value S) (c ∷ a ∷ v ∷ [])) _ (both_true (is_value S e) _ h).1).0 v (later (later here)))
    values_of x h v of_relational = (value_exactly S v).0 (both_true (is_value S e) _ h).1
    values_of x h v of_math = (value_exactly S v).0 (both_true (is_value S v) _ (both_true (is_value S e) _ h).1).0
    values_of x h v (of_math1 {x = y}) = present_value (some v) v refl (both_true (presently (is_value S) (some v)) _ (both_true (is_value S y) _ (both_true (is_value S e) _ h).1).1).0
    values_of x h v (of_math2 {x = y} {x1 = x1}) =
        present_value (some v) v refl (both_true (presently (is_value S) (some v)) _ (both_true (presently (is_value S) x1) _ (both_true (is_value S y) _ (both_true (is_value S e) _ h).1).1).1).0
    values_of x h v (of_math3 {x = y} {x1 = x1} {x2 = x2}) =
        present_value (some v) v refl (both_true (presently (is_value S) x2) _ (both_true (presently (is_value S) x1) _ (both_true (is_value S y) _ (both_true (is_value S e) _ h).1).1).1).1
    values_of x h v of_as = (value_exactly S v).0 (both_true (is_value S v) _ (both_true (is_value S e) _ h).1).0

    swizzled : (v : ExpressionHandle) (pattern : List ℕ) → fits_expression S e (Swizzle v pattern) ≡ true →
        (n : ℕ) × (inner_of S v ≡ Vector n) × ((i : ℕ) → Member i pattern → ltb i n ≡ true) × (inner_of S e ≡ Vector (length pattern))
    unfolding fits_expression inner_of
    swizzled v pattern h =
        let z = sized_of S (inner_of S v) _ (both_true (is_value S v) _ h).1 in
        let y = both_true (every (λ i. ltb i z.0) pattern) _ z.2 in
        (z.0, z.1, every-at (λ i. ltb i z.0) pattern y.0, (vector_fits S (length pattern) (type_of S e)).0 y.1)

    composed_points : {A : Type 0} (cs : List ExpressionHandle) (i : TypeInner) (t : TypeHandle) → ComposedOf S cs i → i ≡ Pointer t → A
    composed_points cs i t (a_vector h) q = never cc
    composed_points cs i t (a_matrix h f) q = never cc
    composed_points cs i t (an_array h f) q = never cc
    composed_points cs i t (a_struct h) q = never cc

    value_points : {A : Type 0} (t : TypeHandle) → is_value S e ≡ true → inner_of S e ≡ Pointer t → A
    value_points t h q = absurd (((value_exactly S e).0 h).no_pointer t q)

    points_of : (x : Expression) → fits_expression S e x ≡ true → (t : TypeHandle) → inner_of S e ≡ Pointer t → MayPoint S x
    unfolding fits_expression Fitting
    points_of Literal h t q = value_points t h q
    points_of ZeroValue h t q = value_points t h q
    points_of WorkGroupUniformLoadResult h t q = never h
    points_of (AccessIndex b i) h t q = an_index constant ((index_fitting _ b h).2 t q)
    points_of (Access b i) h t q = an_index dynamic ((index_fitting _ b (both_true (is_value S i) _ h).1).2 t q)
    points_of Constant h t q = value_points t h q
    points_of (Splat v) h t q = let z = (vector_of S _ (both_true (is_scalar (inner_of S v)) _ (both_true (is_value S v) _ h).1).1).1 in never cc
    points_of (Swizzle v pattern) h t q = let z = (swizzled v pattern h).3 in never cc
    points_of (Compose cs) h t q = composed_points cs _ t (composed_of S _ cs (both_true (every (is_value S) cs) _ h).1) q
    points_of (FunctionArgument a) h t q = value_points t (both_true _ _ h).0 q
    points_of (GlobalVariable g) h t q = a_variable global
    points_of (LocalVariable l) h t q = a_variable local
    points_of (Load p) h t q = value_points t (both_true _ _ h).0 q
    points_of (ImageSample image sampler coordinate array_index level depth_ref) h t q = never h
    points_of (ImageLoad image coordinate array_index sample level) h t q = never h
    points_of (ImageQuery image level) h t q = never h
    points_of (Unary y) h t q = value_points t (both_true _ _ h).0 q
    points_of (Binary l r) h t q = value_points t (both_true _ _ h).0 q
    points_of (Select c a r) h t q = value_points t (both_true _ _ h).0 q
    points_of (Derivative x) h t q = never h
    points_of (Relational y) h t q = value_points t (both_true _ _ h).0 q
    points_of (Math y y1 y2 y3) h t q = value_points t (both_true _ _ h).0 q
    points_of (As y) h t q = value_points t (both_true _ _ h).0 q
    points_of CallResult h t q = never h
    points_of AtomicResult h t q = never h
    points_of (ArrayLength x) h t q = never h
    points_of RayQueryProceedResult h t q = never h
    points_of (RayQueryGetIntersection query) h t q = never h
    points_of Override h t q = never h
    points_of SubgroupBallotResult h t q = never h
    points_of SubgroupOperationResult h t q = never h
    points_of RayQueryVertexPositions h t q = never h

    path_end_of : (x : Expression) → fits_expression S e x ≡ true → (t : TypeHandle) → Declares S x t → (u : TypeHandle) → inner S t ≡ Pointer u → ⊥
    unfolding fits_expression fits_variable
    path_end_of x h t global = is_no_pointer S _ (not-true _ (both_true _ _ h).0)
    path_end_of x h t local = is_no_pointer S _ (not-true _ (both_true _ _ h).0)

    variable-of : (x : Expression) → fits_expression S e x ≡ true → (t : TypeHandle) → Declares S x t → same S (inner S t) (pointee S e) ≡ true
    unfolding fits_expression fits_variable
    variable-of x h t global = (both_true (not (is_pointer (inner S t))) _ h).1
    variable-of x h t local = (both_true (not (is_pointer (inner S t))) _ h).1

    base_of : (x : Expression) → fits_expression S e x ≡ true → (b : ExpressionHandle) → IndexOf b x → IsPath S b ⊎ IsValue S b
    unfolding fits_expression Fitting
    base_of x h b constant = (index_fitting _ b h).0
    base_of x h b (dynamic {i = i}) = (index_fitting _ b (both_true (is_value S i) _ h).1).0

    within_of : (x : Expression) → fits_expression S e x ≡ true → (b : ExpressionHandle) → IndexOf b x → (t : TypeInner) × Indexes S (pointee S b) x t
    unfolding fits_expression Fitting
    within_of x h b (constant {i = i}) = let z = (index_fitting _ b h).1 in (z.0, at (part_of S _ i _ z.1))
    within_of x h b (dynamic {i = i}) = let z = (index_fitting _ b (both_true (is_value S i) _ h).1).1 in (z.0, by (parts_of S _ _ z.1))

    same_type : (o : Option TypeInner) (t u : TypeInner) → o ≡ some t → o ≡ some u → t ≡ u
    same_type o t u p q = cc

    index_of : (x : Expression) → fits_expression S e x ≡ true → (b : ExpressionHandle) → IndexOf b x → (t : TypeInner) → Indexes S (pointee S b) x t → same S t (pointee S e) ≡ true
    unfolding fits_expression Fitting
    index_of x h b constant t (at {index = i} p) =
        let z = (index_fitting _ b h).1 in subst (λ u. same S u (pointee S e) ≡ true) (same_type _ z.0 t z.1 (of_part S _ i t p)) z.2
    index_of x h b dynamic t (by {index = i} p) =
        let z = (index_fitting _ b (both_true (is_value S i) _ h).1).1 in
        subst (λ u. same S u (pointee S e) ≡ true) (same_type _ z.0 t z.1 (of_parts S _ t p)) z.2

    judged-of : (x : Expression) → fits_expression S e x ≡ true → (HoldsUnsized S (type_of S e) → ⊥) × ((t : TypeHandle) → inner S (type_of S e) ≡ Pointer t → HoldsUnsized S t → ⊥) →
        JudgedExpression S e x
    unfolding fits_expression inner_of
    judged-of x h g = record {
      kind = kind-of x h;
      loads_path = λ p q. (path_exactly S p).0 (both_true (is_path S p) _ (both_true (is_value S e) _ (rw q at h)).1).0;
      path_end = path_end_of x h;
      points = points_of x h;
      values = values_of x h;
      base = base_of x h;
      variable = variable-of x h;
      argument = λ a q. (both_true (is_value S e) _ (rw q at h)).1;
      index = index_of x h;
      within = within_of x h;
      load = λ p q. (both_true (is_path S p) _ (both_true (is_value S e) _ (rw q at h)).1).1;
      unary = λ y q. (both_true (is_value S y) _ (both_true (is_value S e) _ (rw q at h)).1).1;
      cast = λ y q. (both_true (is_value S y) _ (both_true (is_value S e) _ (rw q at h)).1).1;
      select = λ c a r q. both_true (alike S (type_of S a) (type_of S e)) _ (both_true (every (is_value S) (c ∷ a ∷ r ∷ [])) _ (both_true (is_value S e) _ (rw q at h)).1).1;
      swizzle = λ v pattern q. let z = swizzled v pattern (rw q at h) in (z.0, z.1, λ i m. ltb-true i z.0 (z.2 i m), z.3);
      splat = λ v q.
          let z = both_true (is_scalar (inner_of S v)) _ (both_true (is_value S v) _ (rw q at h)).1 in
          let y = vector_of S _ z.1 in (scalar_of S _ z.0, y.0, y.1);
      compose = λ cs q. composed_of S _ cs (both_true (every (is_value S) cs) _ (rw q at h)).1;
      sized = g.0;
      pointee_sized = g.1;
    }

    -- To the test

    itself : (x : Expression) → (typed S e).expression ≡ x → JudgedExpression S e x → may_test (expression_kind x) ≡ false → is_value S e ≡ true
    itself x q j m =
        let n : MayPoint S x → ⊥ = λ p. impossible (sym m ∙ may_point x p) in
        (value_exactly S e).1 record { no_path = λ p. n (subst (λ y. MayPoint S y) q (path_points S e p)); no_pointer = λ t p. n (j.points t p) }

    value : (x : Expression) → JudgedExpression S e x → (v : ExpressionHandle) → TakesValue v x → is_value S v ≡ true
    value x j v t = (value_exactly S v).1 (j.values v t)

    fitting : (x : Expression) → (typed S e).expression ≡ x → JudgedExpression S e x → (part : TypeInner → Option TypeInner) (b : ExpressionHandle) → IndexOf b x →
        ((t : TypeInner) → Indexes S (pointee S b) x t → part (pointee S b) ≡ some t) → fits_index S part b e ≡ true
    unfolding Fitting
    fitting x q j part b i f =
        let z = j.within b i in
        of_fitting part b
        (j.base b i, (z.0, f z.0 z.1, j.index b i z.0 z.1), λ u p. index_of_path x b i (j.points u p))
        (λ p. index_of_path x b i (subst (λ y. MayPoint S y) q (path_points S e p)))

    at_part : (i : TypeInner) (b : ExpressionHandle) (index : ℕ) (t : TypeInner) → Indexes S i (AccessIndex b index) t → part_type S i index ≡ some t
    at_part i b index t (at p) = of_part S i index t p

    by_part : (i : TypeInner) (b index : ExpressionHandle) (t : TypeInner) → Indexes S i (Access b index) t → element_type S i ≡ some t
    by_part i b index t (by p) = of_parts S i t p

    variable_fits : (x : Expression) (t : TypeHandle) → JudgedExpression S e x → Declares S x t → fits_variable S e t ≡ true
    unfolding fits_variable
    variable_fits x t j d = rw (no_pointer S _ (j.path_end t d)) (j.variable t d)

    presently-from : (o : Option ExpressionHandle) → ((v : ExpressionHandle) → o ≡ some v → is_value S v ≡ true) → presently (is_value S) o ≡ true
    unfolding presently
    presently-from nothing h = refl
    presently-from (some v) h = h v refl

    taken : (x : Expression) → JudgedExpression S e x → (o : Option ExpressionHandle) → ((v : ExpressionHandle) → o ≡ some v → TakesValue v x) → presently (is_value S) o ≡ true
    taken x j o f = presently-from o (λ v q. value x j v (f v q))

    has_size : (k : ℕ) → inner_of S e ≡ Vector k → fits S (Vector k) (type_of S e) ≡ true
    unfolding inner_of
    has_size k q = (vector_fits S k (type_of S e)).1 q

    fits_from : (x : Expression) → (typed S e).expression ≡ x → JudgedExpression S e x → fits_expression S e x ≡ true
    unfolding fits_expression expression_kind may_test kind_test every has_vector_size is_kind kind
    fits_from Literal q j = itself _ q j refl
    fits_from ZeroValue q j = itself _ q j refl
    fits_from WorkGroupUniformLoadResult q j = never (kind-test 2 j.kind)
    fits_from (AccessIndex b i) q j = fitting _ q j _ b constant (λ t. at_part _ b i t)
    fits_from (Access b i) q j = both_are _ _ (value _ j i as_index) (fitting _ q j _ b dynamic (λ t. by_part _ b i t))
    fits_from Constant q j = itself _ q j refl
    fits_from (Splat v) q j = let z = j.splat v refl in rw (value _ j v of_splat, z.0, z.2)
    fits_from (Swizzle v pattern) q j =
        let z = j.swizzle v pattern refl in
        both_are _ _ (value _ j v of_swizzle)
        (rw (z.1, has_vector_size)
        (both_are _ _ (every-from (λ i. ltb i z.0) pattern (λ i m. lt-ltb i z.0 (z.2 i m))) (has_size (length pattern) z.3)))
    fits_from (Compose cs) q j = both_are _ _ (every-from (is_value S) cs (λ v m. value _ j v (of_compose m))) (of_composed S _ cs (j.compose cs refl))
    fits_from (FunctionArgument a) q j = both_are _ _ (itself _ q j refl) (j.argument a refl)
    fits_from (GlobalVariable g) q j = variable_fits _ _ j global
    fits_from (LocalVariable l) q j = variable_fits _ _ j local
    fits_from (Load p) q j = both_are _ _ (itself _ q j refl) (both_are _ _ ((path_exactly S p).1 (j.loads_path p refl)) (j.load p refl))
    fits_from (ImageSample image sampler coordinate array_index level depth_ref) q j = never (kind-test 13 j.kind)
    fits_from (ImageLoad image coordinate array_index sample level) q j = never (kind-test 14 j.kind)
    fits_from (ImageQuery image level) q j = never (kind-test 15 j.kind)
    fits_from (Unary y) q j = both_are _ _ (itself _ q j refl) (both_are _ _ (value _ j y of_unary) (j.unary y refl))
    fits_from (Binary l r) q j = both_are _ _ (itself _ q j refl) (both_are _ _ (value _ j l left) (value _ j r right))
    fits_from (Select c a r) q j =
        let z = j.select c a r refl in
        rw (itself _ q j refl, value _ j c as_condition, value _ j a as_accept, value _ j r as_reject, z.0, z.1)
    fits_from (Derivative x) q j = never (kind-test 19 j.kind)
    fits_from (Relational y) q j = both_are _ _ (itself _ q j refl) (value _ j y of_relational)
    fits_from (Math y y1 y2 y3) q j =
        both_are _ _ (itself _ q j refl)
        (both_are _ _ (value _ j y of_math)
        (both_are _ _ (taken _ j y1 (λ v p. rw p of_math1)) (both_are _ _ (taken _ j y2 (λ v p. rw p of_math2)) (taken _ j y3 (λ v p. rw p of_math3)))))
    fits_from (As y) q j = both_are _ _ (itself _ q j refl) (both_are _ _ (value _ j y of_as) (j.cast y refl))
    fits_from CallResult q j = never (kind-test 23 j.kind)
    fits_from AtomicResult q j = never (kind-test 24 j.kind)
    fits_from (ArrayLength x) q j = never (kind-test 25 j.kind)
    fits_from RayQueryProceedResult q j = never (kind-test 26 j.kind)
    fits_from (RayQueryGetIntersection query) q j = never (kind-test 27 j.kind)
    fits_from Override q j = never (kind-test 28 j.kind)
    fits_from SubgroupBallotResult q j = never (kind-test 29 j.kind)
    fits_from SubgroupOperationResult q j = never (kind-test 30 j.kind)
    fits_from RayQueryVertexPositions q j = never (kind-test 31 j.kind)

    -- The test is true exactly where every clause holds.
    pub expression_exactly : (judged_expression S e ≡ true) ↔ FitExpression S e
    unfolding judged_expression inner_of
    expression_exactly = (
      (λ h.
          let z = both_true (fits_expression S e (typed S e).expression) _ h in
          judged-of _ z.0 ((sized_exactly S (type_of S e)).0 z.1)),
      (λ j. both_are _ _ (fits_from _ refl j) ((sized_exactly S (type_of S e)).1 (j.sized, j.pointee_sized))),
    )
