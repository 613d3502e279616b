-- What the need of a judged expression asks of its operands lies within their types. One law for each group of kinds, then all by cases of the kind.
use Prim.Native.Nat.{ℕ, zero, suc, ◌+◌, ◌<◌, ◌≤◌}
use native.Mathlib.Omega.{arith}
use mathlib.Core.Path.{◌≡◌, refl, sym, ap, subst, ◌∙◌}
use mathlib.Core.Bool.{Bool, true, false, cond, ◌&&◌, ◌||◌}
use mathlib.Core.List.{List, [], ◌∷◌, ◌++◌, map}
use mathlib.Core.Option.{Option, some as present, none as absent}
use lib.ListN.{length, get_or}
use Rattle.part.specs.PartReq.{PartReq, all, none, more, get_subpart}
use Rattle.part.proofs.Equations.{never}
use Rattle.module.specs.Module.{TypeInner, Scalar, Vector, Member as TypeMember}
use Rattle.module.specs.Module.{ExpressionHandle, Expression}
use Rattle.module.specs.Module.{Literal, ZeroValue, WorkGroupUniformLoadResult, AccessIndex, Access, Constant, Splat, Swizzle, Compose}
use Rattle.module.specs.Module.{FunctionArgument, GlobalVariable, LocalVariable, Load, ImageSample, ImageLoad, ImageQuery, Unary, Binary, Select}
use Rattle.module.specs.Module.{Derivative, Relational, Math, As, CallResult, AtomicResult, ArrayLength, RayQueryProceedResult}
use Rattle.module.specs.Module.{RayQueryGetIntersection, Override, SubgroupBallotResult, SubgroupOperationResult, RayQueryVertexPositions}
use Rattle.valid.specs.Valid.{EachBelow, MaybeBelow, OperandsBelow}
use Rattle.clearance.specs.Shape.{Shape, number, member, is_void, shape_at, or_none, below, some}
use Rattle.clearance.specs.Scope.{Scope, member_types, vector_shape, unfold_type, shape_of, is_kind, kind, is_scalar, is_vector, alike, expressions_of, typed, type_of, inner_of, frame, Path, target, is_path}
use Rattle.clearance.specs.Scope.{Operand, whole, same, pointing, access_index, access, compose, joined, load, by_part, any_vector, optional, arm_of, arm}
use Rattle.clearance.specs.Needs.{Ask, of_value, ask_operand, ask_whole, ask_picked, ask_components, ask_steps, asks}
use Rattle.clearance.specs.Judged.{part_type, is_value, fits_index, fits_expression, judged_expression}
use Rattle.clearance.specs.IsNeed.{Tidy}
use Rattle.clearance.specs.Rules.{Member, here, later}
use Rattle.clearance.specs.IsJudged.{IndexOf, constant, goes_on, Components, none as empty, scalar, vector, Members, one, ComposedOf, a_vector, a_matrix, an_array, a_struct, JudgedExpression}
use Rattle.clearance.proofs.Small.{cases, both_true}
use Rattle.clearance.proofs.Lowest.{no_member, first_or_later}
use Rattle.clearance.proofs.Relations.{path_exactly, part_of, same-part}
use Rattle.clearance.proofs.JudgedExpressions.{expression_exactly}
use Rattle.needs.proofs.Lean.{below-tidy}
use Rattle.framed.specs.Given.{Read}
use Rattle.framed.specs.Same.{SameShape}
use Rattle.framed.proofs.Solid.{type_fills}
use Rattle.framed.proofs.Same.{same_is, same_sym, same_trans, same_member, same_void, same_tidy, member-in, vector_member, element_member, shape_same, alike-shape, fits_shape}
use Rattle.framed.proofs.Paths.{part_shape}
use Rattle.asked.specs.Within.{Asked, something, nothing, emptied, Within, EachWithin}

-- Lists of asks

pub each_none : {S : Scope} → EachWithin S []
each_none = record { each = λ j d l. absurd (omega arith) }

pub each_more : {S : Scope} {x : Ask} {xs : List Ask} → Within S x → EachWithin S xs → EachWithin S (x ∷ xs)
each_more {S} {x} {xs} w W = record { each = go }
  where
    go : (j : ℕ) (d : Ask) → j < length (x ∷ xs) → Within S (get_or (x ∷ xs) j d)
    go zero d l = w
    go (suc j) d l = W.each j d (omega arith)

-- Parts of a need

-- what a trimmed need asks of a part that is there
sub_tidy : (a : PartReq) (t : Shape) (k : ℕ) → Tidy a t → is_void (member t k) ≡ false → Tidy (or_none (get_subpart a k)) (member t k)
unfolding below shape_at
sub_tidy a t k h v = below-tidy (k ∷ []) a t h v

-- of a part, and of the part i
pub part_asked : (p : PartReq) (t : Shape) → Tidy p t → Asked t p
part_asked p t h = cases (some p) (λ s. something s h) nothing

one_asked : (i : ℕ) (p : PartReq) (t : Shape) → Tidy p (member t i) → Asked t (more i p none)
one_asked i p t h = cases (some p) (λ s. something refl (s, (h, tt))) emptied

neither_true : (a b : Bool) → a || b ≡ false → (a ≡ false) × (b ≡ false)
neither_true true b h = never (sym h)
neither_true false b h = (refl, h)

member-at : (xs : List ℕ) (j : ℕ) → j < length xs → Member (get_or xs j 0) xs
member-at [] j l = absurd (omega arith)
member-at (x ∷ xs) zero l = here
member-at (x ∷ xs) (suc j) l = later (member-at xs j (omega arith))

module _ (S : Scope) (R : Read S) where
  abbrev count : ℕ
  count = length (expressions_of S)

  pub value_shape : (v : ExpressionHandle) → SameShape (shape_of S (type_of S v)) (unfold_type (shape_of S) (inner_of S v))
  unfolding inner_of
  value_shape v = shape_same S R.lower (type_of S v)

  value_is : (v : ExpressionHandle) (i : TypeInner) → inner_of S v ≡ i → SameShape (shape_of S (type_of S v)) (unfold_type (shape_of S) i)
  value_is v i e = same_trans (value_shape v) (same_is _ _ (ap (unfold_type (shape_of S)) e))

  -- all of a value
  pub whole_within : (v : ExpressionHandle) → v < count → Within S (of_value v all)
  whole_within v l = (l, something refl (type_fills S (type_of S v)))

  pub wholes_within : (n : ℕ) (vs : List ExpressionHandle) → n ≤ count → EachBelow n vs → EachWithin S (map ask_whole vs)
  wholes_within n [] l b = each_none
  wholes_within n (v ∷ vs) l b = each_more (whole_within v (omega (arith, b 0 (omega arith)))) (wholes_within n vs l (λ i m. b (suc i) (omega arith)))

  -- Compose: what stands at j is of the type of the part j

  scalars : (cs : List ExpressionHandle) (n : ℕ) → Components S cs n → any_vector S cs ≡ false → (length cs ≡ n) × ((c : ExpressionHandle) → Member c cs → inner_of S c ≡ Scalar)
  unfolding any_vector is_kind kind
  scalars cs n empty h = (refl, (λ c m. no_member c [] refl m))
  scalars cs n (scalar {c = c} {cs = ds} e r) h =
      let z = scalars ds _ r (neither_true (is_vector (inner_of S c)) _ h).1 in
      (omega (arith, z.0), (λ d m. first_or_later c d ds m (λ q. rw q e) (z.1 d)))
  scalars cs n (vector {c = c} {cs = ds} e r) h = never (sym (neither_true (is_vector (inner_of S c)) _ h).0 ∙ rw (e, is_kind, kind))

  members_long : (ms : List TypeMember) (cs : List ExpressionHandle) → Members S ms cs → length ms ≡ length cs
  members_long ms cs empty = refl
  members_long ms cs (one h r) = ap suc (members_long _ _ r)

  members_at : (ms : List TypeMember) (cs : List ExpressionHandle) → Members S ms cs → (j : ℕ) → j < length cs → alike S (member_types ms j) (type_of S (get_or cs j 0)) ≡ true
  unfolding member_types
  members_at ms cs empty j l = absurd (omega arith)
  members_at ms cs (one h r) zero l = h
  members_at ms cs (one h r) (suc j) l = members_at _ _ r j (omega arith)

  composed_part : (i : TypeInner) (cs : List ExpressionHandle) → ComposedOf S cs i → is_vector i && any_vector S cs ≡ false → (j : ℕ) → j < length cs →
      SameShape (member (unfold_type (shape_of S) i) j) (shape_of S (type_of S (get_or cs j 0)))
  unfolding unfold_type is_kind kind
  composed_part i cs (a_vector {n = n} h) g j l =
      let z = scalars cs n h g in
      same_trans (same_is _ _ (vector_member n j (omega (arith, z.0)))) (same_sym (value_is (get_or cs j 0) Scalar (z.1 _ (member-at cs j l))))
  composed_part i cs (a_matrix {columns = c} {rows = r} e f) g j l =
      same_trans (same_is _ _ (member-in 0 c _ j (omega arith) (omega arith))) (same_sym (value_is (get_or cs j 0) (Vector r) (f _ (member-at cs j l))))
  composed_part i cs (an_array {base = b} {n = n} e f) g j l =
      same_trans (same_is _ _ (element_member n (shape_of S b) j (omega arith))) (alike-shape S R.lower b _ (f _ (member-at cs j l)))
  composed_part i cs (a_struct {ms = ms} h) g j l =
      same_trans (same_is _ _ (member-in 0 (length ms) _ j (omega arith) (omega (arith, members_long ms cs h)))) (alike-shape S R.lower _ _ (members_at ms cs h j l))

  module _ (e : ExpressionHandle) (l : e < count) (a : PartReq) (t : Tidy a (shape_of S (type_of S e))) where
    -- what has the result's type
    same_within : (v : ExpressionHandle) → v < e → alike S (type_of S v) (type_of S e) ≡ true → Within S (of_value v a)
    same_within v b h = (omega arith, part_asked a _ (same_tidy a (same_sym (alike-shape S R.lower (type_of S v) (type_of S e) h)) t))

    whole-operand : (v : ExpressionHandle) → v < e → Within S (ask_operand a (whole v))
    unfolding ask_operand
    whole-operand v b = whole_within v (omega arith)

    same_operand : (v : ExpressionHandle) → v < e → alike S (type_of S v) (type_of S e) ≡ true → Within S (ask_operand a (same v))
    unfolding ask_operand
    same_operand v b h = same_within v b h

    optional-within : (o : Option ExpressionHandle) (xs : List Operand) → MaybeBelow e o → EachWithin S (map (ask_operand a) xs) → EachWithin S (map (ask_operand a) (optional o ++ xs))
    unfolding optional
    optional-within absent xs b W = W
    optional-within (present v) xs b W = each_more (whole-operand v b) W

    last_within : (o : Option ExpressionHandle) → MaybeBelow e o → EachWithin S (map (ask_operand a) (optional o))
    unfolding optional
    last_within absent b = each_none
    last_within (present v) b = each_more (whole-operand v b) each_none

    binary_within : (x y : ExpressionHandle) → x < e → y < e → EachWithin S (map (ask_operand a) (cond (by_part S e x y) (same x ∷ same y ∷ []) (whole x ∷ whole y ∷ [])))
    unfolding by_part
    binary_within x y b c =
        cases (by_part S e x y)
        (λ h.
        let z = both_true (alike S (type_of S x) (type_of S e)) _ (both_true (is_scalar (inner_of S e) || is_vector (inner_of S e)) _ h).1 in
        rw h (each_more (same_operand x b z.0) (each_more (same_operand y c z.1) each_none)))
        (λ h. rw h (each_more (whole-operand x b) (each_more (whole-operand y c) each_none)))

    -- a constant index of a value
    index_within : (b : ExpressionHandle) (i : ℕ) → b < e → (typed S e).expression ≡ AccessIndex b i → fits_index S (λ x. part_type S x i) b e ≡ true → is_path S e ≡ false →
        Within S (of_value b (more i a none))
    unfolding fits_index
    index_within b i m q h n =
        let o : is_path S b ≡ false =
        cases (is_path S b) (λ p. never (sym n ∙ (path_exactly S e).1 (goes_on (subst (λ x. IndexOf b x) (sym q) constant) m ((path_exactly S b).0 p)))) (λ p. p) in
        let z = (both_true (is_value S e) _ (both_true (is_value S b) _ (rw o at h)).1).1 in
        let y = same-part S _ _ z in
        let s =
        same_trans (same_member i (value_shape b))
        (same_trans (part_shape S R.lower (inner_of S b) i y.0 (part_of S (inner_of S b) i y.0 y.1))
        (same_trans (fits_shape S R.lower y.0 (inner_of S e) y.2) (same_sym (value_shape e)))) in
        (omega arith, one_asked i a _ (same_tidy a (same_sym s) t))

    index_asks : (b : ExpressionHandle) (i : ℕ) → b < e → (typed S e).expression ≡ AccessIndex b i → fits_index S (λ x. part_type S x i) b e ≡ true →
        EachWithin S (asks S (cond (is_path S e) pointing (access_index b i)) a)
    unfolding asks
    index_asks b i m q h = go (is_path S e) (λ n. index_within b i m q h n)
      where
        go : (p : Bool) → (p ≡ false → Within S (of_value b (more i a none))) → EachWithin S (asks S (cond p pointing (access_index b i)) a)
        go true f = each_none
        go false f = each_more (f refl) each_none

    access-asks : (b i : ExpressionHandle) → b < e → i < e → EachWithin S (asks S (cond (is_path S e) pointing (access b i)) a)
    unfolding asks
    access-asks b i m n = go (is_path S e)
      where
        go : (p : Bool) → EachWithin S (asks S (cond p pointing (access b i)) a)
        go true = each_none
        go false = each_more (whole_within b (omega arith)) (each_more (whole_within i (omega arith)) each_none)

    -- the letters of a swizzle
    picked_within : (v n m : ℕ) (is : List ℕ) (k : ℕ) → v < e → inner_of S v ≡ Vector n → Tidy a (vector_shape m) → ((i : ℕ) → Member i is → i < n) → k + length is ≤ m →
        EachWithin S (ask_picked v is k a)
    unfolding ask_picked unfold_type
    picked_within v n m [] k b q h f c = each_none
    picked_within v n m (i ∷ is) k b q h f c =
        let j : k < m = omega arith in
        let p = vector_member m k j in
        let d : Tidy (or_none (get_subpart a k)) number = rw p at (sub_tidy a (vector_shape m) k h (ap is_void p)) in
        let s = same_trans (same_member i (value_is v (Vector n) q)) (same_is _ _ (vector_member n i (f i here))) in
        each_more (omega arith, one_asked i _ _ (same_tidy (or_none (get_subpart a k)) (same_sym s) d)) (picked_within v n m is (suc k) b q h (λ x y. f x (later y)) (omega arith))

    -- the components of a composed value
    components_within : (cs : List ExpressionHandle) (k : ℕ) → EachBelow e cs →
        ((j : ℕ) → j < length cs → SameShape (member (shape_of S (type_of S e)) (k + j)) (shape_of S (type_of S (get_or cs j 0)))) → EachWithin S (ask_components cs k a)
    unfolding ask_components
    components_within [] k b f = each_none
    components_within (c ∷ cs) k b f =
        let z : k + 0 ≡ k = omega arith in
        let s : SameShape (member (shape_of S (type_of S e)) k) (shape_of S (type_of S c)) = rw z at (f 0 (omega arith)) in
        let d = sub_tidy a (shape_of S (type_of S e)) k t (same_void s ∙ type_fills S (type_of S c)) in
        each_more (omega (arith, b 0 (omega arith)), part_asked _ _ (same_tidy (or_none (get_subpart a k)) s d))
        (components_within cs (suc k) (λ i m. b (suc i) (omega arith))
        (λ j m. let y : suc k + j ≡ k + suc j = omega arith in rw y (f (suc j) (omega arith))))

    -- a load: of the place that its path names for sure, and of the dynamic indexes
    pub steps_within : (q : Path) (is : List ExpressionHandle) → (is ≡ [] → Asked (shape_at (frame S) (target q)) a) → is_void (shape_at (frame S) (target q)) ≡ false → EachBelow count is →
        EachWithin S (ask_steps q is a)
    unfolding ask_steps
    steps_within q [] f v b = each_more (f refl) each_none
    steps_within q (i ∷ is) f v b =
        each_more (something refl v)
        (each_more (whole_within i (b 0 (omega arith))) (wholes_within count is (omega arith) (λ j m. b (suc j) (omega arith))))

    compose-asks : (cs : List ExpressionHandle) → ComposedOf S cs (inner_of S e) → EachBelow e cs →
        EachWithin S (asks S (cond (is_vector (inner_of S e) && any_vector S cs) (joined cs) (compose cs)) a)
    unfolding asks
    compose-asks cs h b = go (is_vector (inner_of S e) && any_vector S cs) (composed_part (inner_of S e) cs h)
      where
        go : (p : Bool) →
            (p ≡ false → (j : ℕ) → j < length cs → SameShape (member (unfold_type (shape_of S) (inner_of S e)) j) (shape_of S (type_of S (get_or cs j 0)))) →
            EachWithin S (asks S (cond p (joined cs) (compose cs)) a)
        go true f = wholes_within e cs (omega arith) b
        go false f =
            components_within cs 0 b
            (λ j m. let z : 0 + j ≡ j = omega arith in rw z (same_trans (same_member j (value_shape e)) (f refl j m)))

    -- by cases of the kind; of a load as given
    module _ (loads : (p : ExpressionHandle) → (typed S e).expression ≡ Load p → EachWithin S (asks S (load p) a)) where
      by-kind : (x : Expression) → (typed S e).expression ≡ x → fits_expression S e x ≡ true → JudgedExpression S e x → OperandsBelow e x → EachWithin S (asks S (arm_of S e x) a)
      unfolding asks arm_of fits_expression unfold_type
      by-kind Literal q h j o = each_none
      by-kind ZeroValue q h j o = each_none
      by-kind WorkGroupUniformLoadResult q h j o = each_none
      by-kind (AccessIndex b i) q h j o = index_asks b i o.0 q h
      by-kind (Access b i) q h j o = access-asks b i o.0 o.1
      by-kind Constant q h j o = each_none
      by-kind (Splat v) q h j o = each_more (whole-operand v o) each_none
      by-kind (Swizzle v is) q h j o =
          let z = j.swizzle v is refl in
          picked_within v z.0 (length is) is 0 o.0 z.1 (same_tidy a (value_is e (Vector (length is)) z.3) t) z.2 (omega arith)
      by-kind (Compose cs) q h j o = compose-asks cs (j.compose cs refl) o
      by-kind (FunctionArgument i) q h j o = each_none
      by-kind (GlobalVariable g) q h j o = each_none
      by-kind (LocalVariable v) q h j o = each_none
      by-kind (Load p) q h j o = loads p q
      by-kind (ImageSample image sampler coordinate array_index level depth_ref) q h j o = each_none
      by-kind (ImageLoad image coordinate array_index sample level) q h j o = each_none
      by-kind (ImageQuery image level) q h j o = each_none
      by-kind (Unary x) q h j o = each_more (same_operand x o (j.unary x refl)) each_none
      by-kind (Binary x y) q h j o = binary_within x y o.0 o.1
      by-kind (Select c x y) q h j o =
          let z = j.select c x y refl in
          each_more (whole-operand c o.0) (each_more (same_operand x o.1 z.0) (each_more (same_operand y o.2 z.1) each_none))
      by-kind (Derivative x) q h j o = each_none
      by-kind (Relational x) q h j o = each_more (whole-operand x o) each_none
      by-kind (Math x x1 x2 x3) q h j o =
          each_more (whole-operand x o.0) (optional-within x1 _ o.1 (optional-within x2 _ o.2 (last_within x3 o.3)))
      by-kind (As x) q h j o = each_more (same_operand x o (j.cast x refl)) each_none
      by-kind CallResult q h j o = each_none
      by-kind AtomicResult q h j o = each_none
      by-kind (ArrayLength x) q h j o = each_none
      by-kind RayQueryProceedResult q h j o = each_none
      by-kind (RayQueryGetIntersection query) q h j o = each_none
      by-kind Override q h j o = each_none
      by-kind SubgroupBallotResult q h j o = each_none
      by-kind SubgroupOperationResult q h j o = each_none
      by-kind RayQueryVertexPositions q h j o = each_none

      pub kinds_within : judged_expression S e ≡ true → EachWithin S (asks S (arm S e) a)
      unfolding arm judged_expression
      kinds_within h = by-kind (typed S e).expression refl (both_true _ _ h).0 ((expression_exactly S e).0 h) (R.operands e l)
