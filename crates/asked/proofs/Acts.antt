-- What an emit and a store ask in a judged function lies within its types: a load by its path's shape, a store by the shape of what its pointer leads to.
use Prim.Native.Nat.{ℕ, suc, ◌<◌}
use native.Mathlib.Omega.{arith}
use mathlib.Core.Path.{◌≡◌, refl, subst}
use mathlib.Core.Bool.{true, cond}
use mathlib.Core.List.{List, [], ◌∷◌}
use lib.ListN.{length}
use Rattle.part.specs.PartReq.{PartReq, none}
use Rattle.module.specs.Module.{ExpressionHandle, Load, Store}
use Rattle.valid.specs.Valid.{EachBelow, OperandsBelow}
use Rattle.clearance.specs.Shape.{shape_at, below}
use Rattle.clearance.specs.Scope.{Scope, shape_of, expressions_of, typed, type_of, inner_of, frame, slot, evaluated, path_of, indexes, target, is_path, arm, load}
use Rattle.clearance.specs.Tree.{emit, store}
use Rattle.clearance.specs.Needs.{of_value, asks, gives, overlap}
use Rattle.clearance.specs.Judged.{pointee, same, is_value, fits_statement}
use Rattle.clearance.specs.IsNeed.{Tidy}
use Rattle.clearance.specs.IsJudged.{JudgedExpression}
use Rattle.clearance.proofs.Small.{both_true}
use Rattle.clearance.proofs.Relations.{path_exactly}
use Rattle.clearance.proofs.JudgedExpressions.{expression_exactly}
use Rattle.needs.proofs.Lean.{below-tidy, hit-below}
use Rattle.pass.specs.Pass.{store_asks}
use Rattle.framed.specs.Given.{Read, Judged}
use Rattle.framed.specs.Same.{SameShape}
use Rattle.framed.proofs.Same.{same_sym, same_trans, same_tidy, fits_shape}
use Rattle.framed.proofs.Slots.{slot-fills}
use Rattle.framed.proofs.Paths.{landed, path_indexes}
use Rattle.asked.specs.Within.{Within, EachWithin}
use Rattle.asked.proofs.Asks.{each_none, each_more, part_asked, value_shape, whole_within, wholes_within, steps_within, kinds_within}

module _ (S : Scope) (R : Read S) (J : Judged S) where
  abbrev count : ℕ
  count = length (expressions_of S)

  -- a path leads to what has the type of a value
  path_value : (p v : ExpressionHandle) → p < count → is_path S p ≡ true → same S (pointee S p) (inner_of S v) ≡ true → indexes (path_of S p).steps ≡ [] →
      SameShape (shape_at (frame S) (target (path_of S p))) (shape_of S (type_of S v))
  path_value p v l h s e =
      same_trans ((landed S R J p l h).exact e) (same_trans (fits_shape S R.lower (pointee S p) (inner_of S v) s) (same_sym (value_shape S R v)))

  indexes-there : (p : ExpressionHandle) → p < count → is_path S p ≡ true → EachBelow count (indexes (path_of S p).steps)
  indexes-there p l h i m = omega (arith, path_indexes S R J p l h i m)

  load_asks : (e : ExpressionHandle) (a : PartReq) → e < count → Tidy a (shape_of S (type_of S e)) → (p : ExpressionHandle) → (typed S e).expression ≡ Load p → EachWithin S (asks S (load p) a)
  unfolding asks
  load_asks e a l t p q =
      let j = subst (λ y. JudgedExpression S e y) q ((expression_exactly S e).0 (J.each e l)) in
      let m : p < count = omega (arith, subst (λ y. OperandsBelow e y) q (R.operands e l)) in
      let h = (path_exactly S p).1 (j.loads_path p refl) in
      steps_within S R e l a t (path_of S p) (indexes (path_of S p).steps)
      (λ n. part_asked a _ (same_tidy a (same_sym (path_value p e m h (j.load p refl) n)) t))
      (landed S R J p m h).place.within (indexes-there p m h)

  -- what the need a of an expression asks
  pub emit_within : (e : ExpressionHandle) → e < count → (a : PartReq) → Tidy a (shape_of S (type_of S e)) → EachWithin S (asks S (arm S e) a)
  emit_within e l a t = kinds_within S R e l a t (load_asks e a l t) (J.each e l)

  -- what is needed of an expression
  pub emit-overlap : (e : ExpressionHandle) → e < count → (n : PartReq) → Tidy n (frame S) → overlap S (emit e) n ≡ cond (gives (arm S e)) (below n (slot (evaluated e))) none
  unfolding overlap
  emit-overlap e l n t = rw (hit-below (frame S) n (slot (evaluated e)) t (slot-fills S (evaluated e) l))

  -- a store
  storing_within : (is : List ExpressionHandle) (v : ExpressionHandle) (a : PartReq) → v < count → (is ≡ [] → Within S (of_value v a)) → EachBelow count is → EachWithin S (store_asks is v a)
  unfolding store_asks
  storing_within [] v a l f b = each_more (f refl) each_none
  storing_within (i ∷ is) v a l f b =
      each_more (whole_within S R v l)
      (each_more (whole_within S R i (b 0 (omega arith))) (wholes_within S R count is (omega arith) (λ j m. b (suc j) (omega arith))))

  module _ (p v : ExpressionHandle) (l : p < count) (m : v < count) (h : fits_statement S (Store p v) ≡ true) where
    stored : (is_path S p ≡ true) × (same S (pointee S p) (inner_of S v) ≡ true)
    unfolding fits_statement
    stored = both_true (is_path S p) _ (both_true (is_value S v) _ h).1

    pub store_within : (a : PartReq) → Tidy a (shape_at (frame S) (target (path_of S p))) → EachWithin S (store_asks (indexes (path_of S p).steps) v a)
    store_within a t =
        storing_within (indexes (path_of S p).steps) v a m
        (λ e. (m, part_asked a _ (same_tidy a (path_value p v l stored.0 stored.1 e) t))) (indexes-there p l stored.0)

    pub store_tidy : (n : PartReq) → Tidy n (frame S) → Tidy (below n (target (path_of S p))) (shape_at (frame S) (target (path_of S p)))
    store_tidy n t = below-tidy (target (path_of S p)) n (frame S) t (landed S R J p l stored.0).place.within

    pub store-overlap : (n : PartReq) → Tidy n (frame S) → overlap S (store p v) n ≡ below n (target (path_of S p))
    unfolding overlap
    store-overlap n t = hit-below (frame S) n (target (path_of S p)) t (landed S R J p l stored.0).place.within
