-- A store's path is short where it passes no limit: it is made of the indexes on its way, one to a level.
use Prim.Native.Nat.{ℕ, zero, suc, ◌<◌, ◌≤◌}
use native.Mathlib.Omega.{arith}
use native.Mathlib.Decide.{dec_lt}
use mathlib.Core.Path.{◌≡◌, refl, sym, ap, subst, ◌∙◌}
use mathlib.Core.Bool.{false, false≢true}
use mathlib.Core.List.{List, [], ◌∷◌, ◌++◌}
use lib.ListN.{length, get_or}
use borrow.Author.Tests.{lt-ltb}
use Rattle.field.specs.Limits.{absent, max_depth}
use Rattle.part.specs.PartReq.{PartReq, entries, over, from_indexes}
use Rattle.part.proofs.Indexes.{from_indexes-path, from_indexes-over}
use Rattle.module.specs.Module.{Module, FunctionHandle, ExpressionHandle, Expression, Literal, ZeroValue, WorkGroupUniformLoadResult, AccessIndex, Access, Constant, Splat, Swizzle, Compose, FunctionArgument, GlobalVariable, LocalVariable, Load, ImageSample, ImageLoad, ImageQuery, Unary, Binary, Select, Derivative, Relational, Math, As, CallResult, AtomicResult, ArrayLength, RayQueryProceedResult, RayQueryGetIntersection, Override, SubgroupBallotResult, SubgroupOperationResult, RayQueryVertexPositions}
use Rattle.module.proofs.Knot.{knot-all}
use Rattle.context.specs.RequiredContext.{VarRef}
use Rattle.walk.specs.Resolve.{VarRefPart, resolved, unresolved, expression_at, resolve_arm, resolve_var}
use Rattle.walk.specs.Proper.{Sound}

-- indexes as files have them
abbrev Low : List ℕ → Type 0
Low [] = Unit {0}
Low (i ∷ is) = (i < absent) × Low is

low_at : (is : List ℕ) → Low is → (n : ℕ) → n < length is → get_or is n 0 < absent
low_at [] h n l = absurd (omega arith)
low_at (i ∷ is) h zero l = h.0
low_at (i ∷ is) h (suc n) l = low_at is h.1 n (omega arith)

low_more : (is : List ℕ) (i : ℕ) → Low is → i < absent → Low (is ++ (i ∷ []))
low_more [] i h l = (l, tt)
low_more (j ∷ is) i h l = (h.0, low_more is i h.1 l)

record Made (p : PartReq) : Type 0 where
  indexes : List ℕ
  low : Low indexes
  is : p ≡ from_indexes indexes

abbrev Path : VarRefPart → Type 0
Path (resolved var p) = Made p
Path unresolved = Unit {0}

abbrev Paths : (List ℕ → VarRefPart) → Type 0
Paths r = (is : List ℕ) → Low is → Path (r is)

arm_path : (r : ExpressionHandle → List ℕ → VarRefPart) → ((a : ExpressionHandle) → Paths (r a)) → (x : Expression) → ((base : ExpressionHandle) (i : ℕ) → x ≡ AccessIndex base i → i < absent) → Paths (resolve_arm r x)
unfolding resolve_arm
arm_path r h Literal g is l = tt
arm_path r h ZeroValue g is l = tt
arm_path r h WorkGroupUniformLoadResult g is l = tt
arm_path r h (AccessIndex base index) g is l = h base (is ++ (index ∷ [])) (low_more is index l (g base index refl))
arm_path r h (Access base index) g is l = h base [] tt
arm_path r h Constant g is l = tt
arm_path r h (Splat value) g is l = tt
arm_path r h (Swizzle vector pattern) g is l = tt
arm_path r h (Compose components) g is l = tt
arm_path r h (FunctionArgument index) g is l = tt
arm_path r h (GlobalVariable gv) g is l = record { indexes = is; low = l; is = refl }
arm_path r h (LocalVariable lv) g is l = record { indexes = is; low = l; is = refl }
arm_path r h (Load pointer) g is l = tt
arm_path r h (ImageSample image sampler coordinate array_index level depth_ref) g is l = tt
arm_path r h (ImageLoad image coordinate array_index sample level) g is l = tt
arm_path r h (ImageQuery image level) g is l = tt
arm_path r h (Unary expr) g is l = tt
arm_path r h (Binary left right) g is l = tt
arm_path r h (Select condition accept reject) g is l = tt
arm_path r h (Derivative expr) g is l = tt
arm_path r h (Relational argument) g is l = tt
arm_path r h (Math arg arg1 arg2 arg3) g is l = tt
arm_path r h (As expr) g is l = tt
arm_path r h CallResult g is l = tt
arm_path r h AtomicResult g is l = tt
arm_path r h (ArrayLength array) g is l = tt
arm_path r h RayQueryProceedResult g is l = tt
arm_path r h (RayQueryGetIntersection query) g is l = tt
arm_path r h Override g is l = tt
arm_path r h SubgroupBallotResult g is l = tt
arm_path r h SubgroupOperationResult g is l = tt
arm_path r h RayQueryVertexPositions g is l = tt

resolve_path : (m : Module) → Sound m → (f : FunctionHandle) (e : ExpressionHandle) → Paths (resolve_var m f e)
unfolding resolve_var
resolve_path m s f =
    knot-all (λ e r. Paths r) (λ r e. resolve_arm r (expression_at m f e)) (λ indexes. unresolved) (λ e is l. tt)
    (λ w e h. arm_path w h (expression_at m f e) (λ base i x. s.index f e base i x))

short : (p : PartReq) → Made p → over p ≡ false → entries p ≤ max_depth
short p d o =
    elim (dec_lt max_depth (length d.indexes)) [
      | yes l ↦ absurd (false≢true (sym o ∙ ap over d.is ∙ from_indexes-over d.indexes (low_at d.indexes d.low) ∙ lt-ltb max_depth (length d.indexes) l))
      | no l ↦ omega (arith, ap entries d.is, (from_indexes-path d.indexes).count)
    ]

pub path_few : (m : Module) → Sound m → (f : FunctionHandle) (e : ExpressionHandle) (var : VarRef) (p : PartReq) → resolve_var m f e [] ≡ resolved var p → over p ≡ false → entries p ≤ max_depth
path_few m s f e var p is o = short p (subst Path is (resolve_path m s f e [] tt)) o
