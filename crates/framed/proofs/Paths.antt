-- Where the paths of a judged function lead: by induction along a path's indexes, each within what its base leads to.
use Prim.Native.Nat.{ℕ, zero, suc, ◌<◌, ◌≤◌}
use native.Mathlib.Omega.{arith}
use mathlib.Core.Path.{◌≡◌, refl, sym, ap, subst, ◌∙◌}
use mathlib.Core.Bool.{true, false, not}
use mathlib.Core.List.{List, [], ◌∷◌, ◌++◌}
use mathlib.Core.Option.{some}
use lib.ListN.{length}
use Rattle.part.proofs.Equations.{never}
use Rattle.module.specs.Module.{TypeHandle, TypeInner, ExpressionHandle, Expression, AccessIndex, Access}
use Rattle.module.specs.Knot.{below}
use Rattle.module.proofs.Knot.{knot-is, below-lt}
use Rattle.valid.specs.Valid.{EachBelow, OperandsBelow, NamesBelow}
use Rattle.clearance.specs.Shape.{member, is_void, shape_at}
use Rattle.clearance.specs.Scope.{Scope, inner, vector_shape, unfold_type, shape_of, typed, Slot, global, local, slot, frame, Step, at, by, Path, nowhere, further}
use Rattle.clearance.specs.Scope.{step_from, path_of, front, indexes, target, is_path, is_pointer, type_of}
use Rattle.clearance.specs.Judged.{part_type, pointee, same, fits_index, fits_variable, fits_expression, holds_either, judged_expression}
use Rattle.clearance.specs.IsJudged.{Declares, global as a_global, local as a_local, IndexOf, constant, dynamic, IsPath, ends, goes_on, Part, component, column, element, member as a_member}
use Rattle.clearance.proofs.Small.{both_true}
use Rattle.clearance.proofs.Values.{nil_right, regroup}
use Rattle.clearance.proofs.Relations.{path_exactly, part_of, same-part}
use Rattle.judge.specs.Alike.{Lower}
use Rattle.needs.proofs.Lean.{solid_void}
use Rattle.framed.specs.Given.{Read, Judged}
use Rattle.framed.specs.Same.{SameShape}
use Rattle.framed.specs.Places.{There, slot_type, Placed, Landed}
use Rattle.framed.proofs.Solid.{solid, unfold_solid}
use Rattle.framed.proofs.Same.{same_refl, same_trans, same_member, same_void, member-in, element_member, shape_same, fits_shape}
use Rattle.framed.proofs.Slots.{shape_on, slot-shape, slot_placed}

-- One step more

front_at : (xs : List Step) (i : ℕ) → indexes xs ≡ [] → front (xs ++ (at i ∷ [])) ≡ front xs ++ (i ∷ [])
unfolding front indexes
front_at [] i h = refl
front_at (at j ∷ xs) i h = ap (λ (l : List ℕ). j ∷ l) (front_at xs i h)
front_at (by e ∷ xs) i h = never cc

front-later : (xs : List Step) (x : Step) (i : ℕ) (is : List ℕ) → indexes xs ≡ i ∷ is → front (xs ++ (x ∷ [])) ≡ front xs
unfolding front indexes
front-later [] x i is h = never cc
front-later (at j ∷ xs) x i is h = ap (λ (l : List ℕ). j ∷ l) (front-later xs x i is h)
front-later (by e ∷ xs) x i is h = refl

front_by : (xs : List Step) (e : ExpressionHandle) → front (xs ++ (by e ∷ [])) ≡ front xs
unfolding front
front_by [] e = refl
front_by (at j ∷ xs) e = ap (λ (l : List ℕ). j ∷ l) (front_by xs e)
front_by (by d ∷ xs) e = refl

indexes-at : (xs : List Step) (i : ℕ) → indexes (xs ++ (at i ∷ [])) ≡ indexes xs
unfolding indexes
indexes-at [] i = refl
indexes-at (at j ∷ xs) i = indexes-at xs i
indexes-at (by e ∷ xs) i = ap (λ (l : List ℕ). e ∷ l) (indexes-at xs i)

indexes-more : (xs : List Step) (e : ExpressionHandle) → indexes (xs ++ (by e ∷ [])) ≡ indexes xs ++ (e ∷ [])
unfolding indexes
indexes-more [] e = refl
indexes-more (at j ∷ xs) e = indexes-more xs e
indexes-more (by d ∷ xs) e = ap (λ (l : List ℕ). d ∷ l) (indexes-more xs e)

indexes-by : {A : Type 0} (xs : List Step) (e : ExpressionHandle) → indexes (xs ++ (by e ∷ [])) ≡ [] → A
unfolding indexes
indexes-by [] e h = never cc
indexes-by (at j ∷ xs) e h = indexes-by xs e h
indexes-by (by d ∷ xs) e h = never cc

target_at : (p : Path) (i : ℕ) → indexes p.steps ≡ [] → target (further p (at i)) ≡ target p ++ (i ∷ [])
unfolding target further
target_at p i h = ap (λ (l : List ℕ). p.root ++ l) (front_at p.steps i h) ∙ sym (regroup p.root (front p.steps) (i ∷ []))

target-later : (p : Path) (x : Step) (i : ℕ) (is : List ℕ) → indexes p.steps ≡ i ∷ is → target (further p x) ≡ target p
unfolding target further
target-later p x i is h = ap (λ (l : List ℕ). p.root ++ l) (front-later p.steps x i is h)

target-by : (p : Path) (e : ExpressionHandle) → target (further p (by e)) ≡ target p
unfolding target further
target-by p e = ap (λ (l : List ℕ). p.root ++ l) (front_by p.steps e)

dynamic_stays : (p : Path) (i j : ℕ) (is : List ℕ) → indexes p.steps ≡ j ∷ is → indexes (further p (at i)).steps ≡ [] → false ≡ true
unfolding further
dynamic_stays p i j is e z = let y : indexes p.steps ≡ [] = sym (indexes-at p.steps i) ∙ z in cc

-- numbers below a bound

below_on : (n : ℕ) (xs : List ℕ) (x : ℕ) → EachBelow n xs → x < n → EachBelow n (xs ++ (x ∷ []))
below_on n [] x f h zero l = h
below_on n [] x f h (suc i) l = absurd (omega arith)
below_on n (y ∷ xs) x f h zero l = f 0 (omega arith)
below_on n (y ∷ xs) x f h (suc i) l = below_on n xs x (λ j m. f (suc j) (omega arith)) h i (omega arith)

rise : (m n : ℕ) (xs : List ℕ) → m ≤ n → EachBelow m xs → EachBelow n xs
rise m n xs l f i h = omega (arith, f i h)

module _ (S : Scope) (L : Lower S.program.types) where
  -- a type's inside is no void
  pub inner_fills : (x : TypeInner) → is_void (unfold_type (shape_of S) x) ≡ false
  inner_fills x = solid_void (unfold_type (shape_of S) x) (unfold_solid (shape_of S) x (solid S))

  -- the part that an index names
  pub part_shape : (x : TypeInner) (i : ℕ) (t : TypeInner) → Part S x i t → SameShape (member (unfold_type (shape_of S) x) i) (unfold_type (shape_of S) t)
  unfolding unfold_type vector_shape
  part_shape x i t (component {n = n} l) = rw (member-in 0 n _ i (omega arith) (omega arith)) (same_refl _)
  part_shape x i t (column {columns = c} l) = rw (member-in 0 c _ i (omega arith) (omega arith)) (same_refl _)
  part_shape x i t (element {base = base} {n = n} l) = rw (element_member n (shape_of S base) i l) (shape_same S L base)
  part_shape x i t (a_member {ms = ms} l) = rw (member-in 0 (length ms) _ i (omega arith) (omega arith)) (shape_same S L _)

  abbrev Leads : List ℕ → TypeInner → Type 0
  Leads q y = SameShape (shape_at (frame S) q) (unfold_type (shape_of S) y)

  -- where a path has led, under another name of its place
  landed_as : (p : Path) (q : List ℕ) (y : TypeInner) → target p ≡ q → Placed S q → (indexes p.steps ≡ [] → Leads q y) → Landed S p y
  landed_as p q y e d h = record { place = subst (Placed S) (sym e) d; exact = λ i. subst (λ r. Leads r y) (sym e) (h i) }

  land_root : (x : Slot) (y : TypeInner) → There S x → same S (inner S (slot_type S x)) y ≡ true → Landed S (record { root = slot x; steps = [] }) y
  unfolding target front
  land_root x y l h =
      landed_as _ (slot x) y (nil_right (slot x)) (slot_placed S x l)
      (λ i. rw (slot-shape S x l) (same_trans (shape_same S L (slot_type S x)) (fits_shape S L _ y h)))

  -- the part at an index
  at_leads : (q : List ℕ) (i : ℕ) (x t y : TypeInner) → Leads q x → Part S x i t → same S t y ≡ true → Leads (q ++ (i ∷ [])) y
  unfolding shape_at
  at_leads q i x t y d h s =
      rw (shape_on q (i ∷ []) (frame S)) (same_trans (same_member i d) (same_trans (part_shape x i t h) (fits_shape S L t y s)))

  at_placed : (q : List ℕ) (i : ℕ) (y : TypeInner) → Placed S q → Leads (q ++ (i ∷ [])) y → Placed S (q ++ (i ∷ []))
  at_placed q i y d h =
      record {
        home = d.home;
        path = d.path ++ (i ∷ []);
        there = d.there;
        is = ap (λ (l : List ℕ). l ++ (i ∷ [])) d.is ∙ regroup (slot d.home) d.path (i ∷ []);
        within = same_void h ∙ inner_fills y;
      }

  land_at : (p : Path) (i : ℕ) (x t y : TypeInner) → Landed S p x → Part S x i t → same S t y ≡ true → Landed S (further p (at i)) y
  land_at p i x t y d h s = go (indexes p.steps) refl
    where
      go : (is : List ℕ) → indexes p.steps ≡ is → Landed S (further p (at i)) y
      go [] e = let k = at_leads (target p) i x t y (d.exact e) h s in landed_as _ _ y (target_at p i e) (at_placed (target p) i y d.place k) (λ z. k)
      go (j ∷ is) e = landed_as _ _ y (target-later p (at i) j is e) d.place (λ z. never (dynamic_stays p i j is e z))

  land_by : (p : Path) (e : ExpressionHandle) (x y : TypeInner) → Landed S p x → Landed S (further p (by e)) y
  unfolding further
  land_by p e x y d = landed_as _ _ y (target-by p e) d.place (λ z. indexes-by p.steps e z)

module _ (S : Scope) (R : Read S) (J : Judged S) where
  path_step : (e : ExpressionHandle) (x : Expression) → (typed S e).expression ≡ x → path_of S e ≡ step_from (below (path_of S) nowhere e) x
  unfolding path_of
  path_step e x h = knot-is (λ path k. step_from path (typed S k).expression) nowhere e ∙ ap (step_from (below (path_of S) nowhere e)) h

  pub path_at : (e b i : ℕ) → (typed S e).expression ≡ AccessIndex b i → b < e → path_of S e ≡ further (path_of S b) (at i)
  path_at e b i h l = path_step e _ h ∙ unfold step_from in ap (λ (p : Path). further p (at i)) (below-lt (path_of S) nowhere e b l)

  path-by : (e b i : ℕ) → (typed S e).expression ≡ Access b i → b < e → path_of S e ≡ further (path_of S b) (by i)
  path-by e b i h l = path_step e _ h ∙ unfold step_from in ap (λ (p : Path). further p (by i)) (below-lt (path_of S) nowhere e b l)

  pub fits_as : (e : ExpressionHandle) (x : Expression) → e < length S.function.expressions → (typed S e).expression ≡ x → fits_expression S e x ≡ true
  unfolding judged_expression
  fits_as e x l h = subst (λ y. fits_expression S e y ≡ true) h (both_true (fits_expression S e (typed S e).expression) (not (holds_either S (type_of S e))) (J.each e l)).0

  pub names_as : (e : ExpressionHandle) (x : Expression) → e < length S.function.expressions → (typed S e).expression ≡ x →
      NamesBelow (length S.program.globals) (length S.function.arguments) (length S.function.locals) x
  names_as e x l h = subst (NamesBelow (length S.program.globals) (length S.function.arguments) (length S.function.locals)) h (R.names e l)

  variable_same : (e : ExpressionHandle) (t : TypeHandle) → fits_variable S e t ≡ true → same S (inner S t) (pointee S e) ≡ true
  unfolding fits_variable
  variable_same e t h = (both_true (not (is_pointer (inner S t))) (same S (inner S t) (pointee S e)) h).1

  land_variable : (e : ExpressionHandle) (x : Slot) → path_of S e ≡ record { root = slot x; steps = [] } → There S x → fits_variable S e (slot_type S x) ≡ true →
      Landed S (path_of S e) (pointee S e)
  land_variable e x p l h = rw p (land_root S R.lower x (pointee S e) l (variable_same e (slot_type S x) h))

  index_part : (e b i : ℕ) → is_path S b ≡ true → fits_expression S e (AccessIndex b i) ≡ true →
      (t : TypeInner) × (part_type S (pointee S b) i ≡ some t) × (same S t (pointee S e) ≡ true)
  unfolding fits_expression fits_index
  index_part e b i p h = same-part S (part_type S (pointee S b) i) (pointee S e) (rw p at h)

  land : (e : ExpressionHandle) → e < length S.function.expressions → IsPath S e → Landed S (path_of S e) (pointee S e)
  unfolding fits_expression step_from
  land e l (ends d) = declared (typed S e).expression refl d
    where
      declared : (x : Expression) {t : TypeHandle} → (typed S e).expression ≡ x → Declares S x t → Landed S (path_of S e) (pointee S e)
      declared x h (a_global {g = g}) = land_variable e (global g) (path_step e x h) (names_as e x l h) (fits_as e x l h)
      declared x h (a_local {l = v}) = land_variable e (local v) (path_step e x h) (names_as e x l h) (fits_as e x l h)
  land e l (goes_on {base = b} i m p) = indexed (typed S e).expression refl i (land b (omega arith) p)
    where
      indexed : (x : Expression) → (typed S e).expression ≡ x → IndexOf b x → Landed S (path_of S b) (pointee S b) → Landed S (path_of S e) (pointee S e)
      indexed x h (constant {i = j}) d =
          let z = index_part e b j ((path_exactly S b).1 p) (fits_as e x l h) in
          rw (path_at e b j h m) (land_at S R.lower (path_of S b) j (pointee S b) z.0 (pointee S e) d (part_of S (pointee S b) j z.0 z.1) z.2)
      indexed x h (dynamic {i = j}) d = rw (path-by e b j h m) (land_by S R.lower (path_of S b) j (pointee S b) (pointee S e) d)

  -- where a path leads
  pub landed : (e : ExpressionHandle) → e < length S.function.expressions → is_path S e ≡ true → Landed S (path_of S e) (pointee S e)
  landed e l h = land e l ((path_exactly S e).0 h)

  -- the dynamic indexes of a path are lower than it

  root_indexes : (e : ExpressionHandle) (x : Expression) {t : TypeHandle} → (typed S e).expression ≡ x → Declares S x t → indexes (path_of S e).steps ≡ []
  unfolding step_from indexes
  root_indexes e x h a_global = ap (λ (z : Path). indexes z.steps) (path_step e x h)
  root_indexes e x h a_local = ap (λ (z : Path). indexes z.steps) (path_step e x h)

  next_indexes : (e b : ExpressionHandle) (x : Expression) → e < length S.function.expressions → b < e → (typed S e).expression ≡ x → IndexOf b x →
      EachBelow b (indexes (path_of S b).steps) → EachBelow e (indexes (path_of S e).steps)
  unfolding further
  next_indexes e b x l m h (constant {i = i}) f = rw (path_at e b i h m, indexes-at (path_of S b).steps i) (rise b e (indexes (path_of S b).steps) (omega arith) f)
  next_indexes e b x l m h (dynamic {i = i}) f =
      rw (path-by e b i h m, indexes-more (path_of S b).steps i)
      (below_on e (indexes (path_of S b).steps) i (rise b e (indexes (path_of S b).steps) (omega arith) f) (subst (λ y. OperandsBelow e y) h (R.operands e l)).1)

  indexes-along : (e : ExpressionHandle) → e < length S.function.expressions → IsPath S e → EachBelow e (indexes (path_of S e).steps)
  indexes-along e l (ends d) = rw (root_indexes e _ refl d) (λ i m. absurd (omega arith))
  indexes-along e l (goes_on {base = b} i m p) = next_indexes e b _ l m refl i (indexes-along b (omega arith) p)

  pub path_indexes : (e : ExpressionHandle) → e < length S.function.expressions → is_path S e ≡ true → EachBelow e (indexes (path_of S e).steps)
  path_indexes e l h = indexes-along e l ((path_exactly S e).0 h)
