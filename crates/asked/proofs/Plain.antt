-- What is asked within a type is put where the value stands as it is: `part_of` trims nothing of it. By recursion along the place, and by cases of where the value stands.
use Prim.Native.Nat.{ℕ, ◌<◌}
use mathlib.Core.Path.{◌≡◌, refl, sym, ap, subst, ◌∙◌}
use mathlib.Core.Bool.{Bool, true, false, cond, ◌&&◌}
use mathlib.Core.List.{List, [], ◌∷◌}
use mathlib.Core.Logic.{◌⊎◌, inl, inr}
use lib.ListN.{length}
use Rattle.part.specs.PartReq.{PartReq, all, exist, none, more}
use Rattle.part.proofs.Equations.{never}
use Rattle.module.specs.Module.{ExpressionHandle, Expression}
use Rattle.module.specs.Module.{Literal, ZeroValue, WorkGroupUniformLoadResult, AccessIndex, Access, Constant, Splat, Swizzle, Compose}
use Rattle.module.specs.Module.{FunctionArgument, GlobalVariable, LocalVariable, Load, ImageSample, ImageLoad, ImageQuery, Unary, Binary, Select}
use Rattle.module.specs.Module.{Derivative, Relational, Math, As, CallResult, AtomicResult, ArrayLength, RayQueryProceedResult}
use Rattle.module.specs.Module.{RayQueryGetIntersection, Override, SubgroupBallotResult, SubgroupOperationResult, RayQueryVertexPositions}
use Rattle.valid.specs.Valid.{NamesBelow}
use Rattle.clearance.specs.Shape.{Shape, member, shape_at, some, under, keep, trim}
use Rattle.clearance.specs.Scope.{Scope, shape_of, is_vector, expressions_of, typed, type_of, inner_of, frame, Place, slot, argument, evaluated, is_path, any_vector}
use Rattle.clearance.specs.Scope.{Arm, pointing, access_index, access, compose, joined, arm_of, arm, Source, given, from, source_of, source}
use Rattle.clearance.specs.Needs.{Ask, of_value, of_place}
use Rattle.clearance.specs.IsNeed.{Tidy}
use Rattle.clearance.specs.IsJudged.{JudgedExpression}
use Rattle.clearance.proofs.Ascending.{trim-tidy}
use Rattle.clearance.proofs.JudgedExpressions.{expression_exactly}
use Rattle.needs.proofs.Lean.{trim_same}
use Rattle.pass.specs.Pass.{part_from, part_of}
use Rattle.framed.specs.Given.{Read, Judged}
use Rattle.framed.specs.Same.{SameShape}
use Rattle.framed.proofs.Same.{same_is, same_sym, same_trans, same_tidy, alike-shape}
use Rattle.framed.proofs.Slots.{slot-shape}
use Rattle.asked.specs.Within.{Asked, something, nothing, emptied, wanted, Within, placed, plain_part}

-- A part at a place, trimmed

keep-under : (j : ℕ) (q : List ℕ) (b : PartReq) → some b ≡ true → keep j (under q b) none ≡ more j (under q b) none
unfolding keep under
keep-under j [] all h = refl
keep-under j [] exist h = never h
keep-under j [] none h = never h
keep-under j [] (more i p r) h = refl
keep-under j (k ∷ q) b h = refl

trimmed : (p : PartReq) (t : Shape) → Tidy p t → p ≡ cond (some p) p none
trimmed all t h = refl
trimmed exist t h = absurd h
trimmed none t h = refl
trimmed (more i p r) t h = refl

trim-one : (j : ℕ) (p : PartReq) (t : Shape) → trim (more j p none) t ≡ keep j (trim p (member t j)) none
unfolding trim
trim-one j p t = refl

pub trim-under : (q : List ℕ) (a : PartReq) (t : Shape) → trim (under q a) t ≡ cond (some (trim a (shape_at t q))) (under q (trim a (shape_at t q))) none
unfolding under shape_at
trim-under [] a t = trimmed (trim a t) t (trim-tidy a t)
trim-under (j ∷ q) a t =
    trim-one j (under q a) t
    ∙ (ap (λ (x : PartReq). keep j x none) (trim-under q a (member t j)) ∙ go (trim a (shape_at (member t j) q)) (some (trim a (shape_at (member t j) q))) refl)
  where
    go : (b : PartReq) (s : Bool) → some b ≡ s → keep j (cond s (under q b) none) none ≡ cond s (more j (under q b) none) none
    go b true h = keep-under j q b h
    go b false h = unfold keep in refl

pub tidy_wanted : (p : PartReq) (t : Shape) → Tidy p t → wanted p ≡ some p
tidy_wanted all t h = refl
tidy_wanted exist t h = absurd h
tidy_wanted none t h = refl
tidy_wanted (more i p r) t h = h.0

asked_same : (p : PartReq) {t u : Shape} → SameShape t u → Asked t p → Asked u p
asked_same p s (something h k) = something h (same_tidy p s k)
asked_same p s (nothing h) = nothing h
asked_same p s (emptied h) = emptied h

asked_under : (q : List ℕ) (p : PartReq) (t : Shape) → Asked t p → cond (some (trim p t)) (under q (trim p t)) none ≡ cond (wanted p) (under q p) none
asked_under q p t (something h k) = rw (trim_same p t k, tidy_wanted p t k)
asked_under q p t (nothing h) = go p h
  where
    go : (p : PartReq) → some p ≡ false → cond (some (trim p t)) (under q (trim p t)) none ≡ cond (wanted p) (under q p) none
    go all h = never (sym h)
    go exist h = unfold trim in refl
    go none h = unfold trim in refl
    go (more i p r) h = never (sym h)
asked_under q p t (emptied {i = i} {p = c} h) = go c h
  where
    go : (c : PartReq) → some c ≡ false → cond (some (trim (more i c none) t)) (under q (trim (more i c none) t)) none ≡ cond (some c) (under q (more i c none)) none
    go all h = never (sym h)
    go exist h = unfold trim keep in refl
    go none h = unfold trim keep in refl
    go (more j d r) h = never (sym h)

-- Where a value stands

module _ (S : Scope) (v : ExpressionHandle) where
  -- an argument's place, or the expression's own
  Stands : Expression → Place → Type 0
  Stands x q = (slot (evaluated v) ≡ q) ⊎ ((a : ℕ) × (x ≡ FunctionArgument a) × (slot (argument a) ≡ q))

  own : (x : Expression) (q : Place) → ◌≡◌ {A = Source} (from (slot (evaluated v))) (from q) → Stands x q
  unfolding Stands
  own x q e = inl cc

  either : (b : Bool) (y z : Arm) → source_of v y ≡ from (slot (evaluated v)) → source_of v z ≡ from (slot (evaluated v)) → from (slot (evaluated v)) ≡ source_of v (cond b y z)
  either true y z h g = sym h
  either false y z h g = sym g

  stands : (x : Expression) (q : Place) → source_of v (arm_of S v x) ≡ from q → Stands x q
  unfolding arm_of source_of Stands
  stands Literal q e = never cc
  stands ZeroValue q e = never cc
  stands WorkGroupUniformLoadResult q e = own _ q e
  stands (AccessIndex b i) q e = own _ q (either (is_path S v) pointing (access_index b i) refl refl ∙ e)
  stands (Access b i) q e = own _ q (either (is_path S v) pointing (access b i) refl refl ∙ e)
  stands Constant q e = never cc
  stands (Splat x) q e = own _ q e
  stands (Swizzle x is) q e = own _ q e
  stands (Compose cs) q e = own _ q (either (is_vector (inner_of S v) && any_vector S cs) (joined cs) (compose cs) refl refl ∙ e)
  stands (FunctionArgument a) q e = inr (a, refl, cc)
  stands (GlobalVariable g) q e = own _ q e
  stands (LocalVariable l) q e = own _ q e
  stands (Load p) q e = own _ q e
  stands (ImageSample image sampler coordinate array_index level depth_ref) q e = own _ q e
  stands (ImageLoad image coordinate array_index sample level) q e = own _ q e
  stands (ImageQuery image level) q e = own _ q e
  stands (Unary x) q e = own _ q e
  stands (Binary x y) q e = own _ q e
  stands (Select c x y) q e = own _ q e
  stands (Derivative x) q e = own _ q e
  stands (Relational x) q e = own _ q e
  stands (Math x x1 x2 x3) q e = own _ q e
  stands (As x) q e = own _ q e
  stands CallResult q e = own _ q e
  stands AtomicResult q e = own _ q e
  stands (ArrayLength x) q e = own _ q e
  stands RayQueryProceedResult q e = own _ q e
  stands (RayQueryGetIntersection query) q e = own _ q e
  stands Override q e = own _ q e
  stands SubgroupBallotResult q e = own _ q e
  stands SubgroupOperationResult q e = own _ q e
  stands RayQueryVertexPositions q e = own _ q e

pub nowhere : (b : Bool) → none ≡ cond b none none
nowhere true = refl
nowhere false = refl

module _ (S : Scope) (R : Read S) (J : Judged S) where
  pub source-shape : (v : ExpressionHandle) → v < length (expressions_of S) → (q : Place) → source S v ≡ from q → SameShape (shape_at (frame S) q) (shape_of S (type_of S v))
  unfolding source arm Stands
  source-shape v l q e = go (stands S v (typed S v).expression q e)
    where
      go : Stands S v (typed S v).expression q → SameShape (shape_at (frame S) q) (shape_of S (type_of S v))
      go (inl h) = same_is _ _ (ap (shape_at (frame S)) (sym h) ∙ slot-shape S (evaluated v) l)
      go (inr h) =
          let a = h.0 in
          let j = subst (λ y. JudgedExpression S v y) h.1 ((expression_exactly S v).0 (J.each v l)) in
          let m = subst (λ y. NamesBelow (length S.program.globals) (length S.function.arguments) (length S.function.locals) y) h.1 (R.names v l) in
          same_trans (same_is _ _ (ap (shape_at (frame S)) (sym h.2) ∙ slot-shape S (argument a) m)) (alike-shape S R.lower _ _ (j.argument a refl))

  -- what an ask within its type adds to the needs
  pub part_plain : (x : Ask) → Within S x → part_of S x ≡ plain_part S x
  unfolding part_of part_from plain_part placed
  part_plain (of_place q p) w = trim-under q p (frame S) ∙ asked_under q p _ w
  part_plain (of_value v p) w = go (source S v) refl
    where
      go : (s : Source) → source S v ≡ s → part_from S s p ≡ cond (wanted p) (placed s p) none
      go given e = nowhere (wanted p)
      go (from q) e = trim-under q p (frame S) ∙ asked_under q p _ (asked_same p (same_sym (source-shape v w.0 q e)) w.1)
