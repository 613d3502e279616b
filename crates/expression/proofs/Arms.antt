-- The shape of an arm: an ask of a variable is of the part that is asked of the expression, and is the last; and an arm asks few things. By one walk through
-- the arms.
use Prim.Native.Nat.{ℕ, zero, suc, ◌+◌, ◌<◌, ◌≤◌}
use native.Mathlib.Omega.{arith}
use mathlib.Core.Path.{◌≡◌, refl, subst}
use mathlib.Core.Bool.{Bool, true, false, cond}
use mathlib.Core.List.{List, [], ◌∷◌}
use mathlib.Core.Option.{Option, some, none as nothing, none-ne-some, some-injective}
use lib.ListN.{length, get_elem?, drop}
use Rattle.field.specs.Limits.{max_components}
use Rattle.part.specs.PartReq.{PartReq, all, exist, none, more, entries, over}
use Rattle.module.specs.Module.{ExpressionHandle, SampleLevel, Auto, Zero, Exact, Bias, Gradient, Expression, Literal, ZeroValue, WorkGroupUniformLoadResult, AccessIndex, Access, Constant, Splat, Swizzle, Compose, FunctionArgument, GlobalVariable, LocalVariable, Load, ImageSample, ImageLoad, ImageQuery, Unary, Binary, Select, Derivative, Relational, Math, As, CallResult, AtomicResult, ArrayLength, RayQueryProceedResult, RayQueryGetIntersection, Override, SubgroupBallotResult, SubgroupOperationResult, RayQueryVertexPositions}
use Rattle.valid.specs.Valid.{ComponentsWithin}
use Rattle.context.specs.Swizzle.{Swizzled, asks, panics, swizzled}
use Rattle.walk.specs.Expression.{Ask, of_operand, of_argument, of_global, of_local, refuse, optional, leveled, formed, constant_asks, swizzle_asks, all_of_each, component_ask, entry_asks, compose_asks, arm_asks}

-- a variable is asked p, and nothing after it
abbrev pub Alone : PartReq → Ask → List Ask → Type 0
Alone p (of_operand e q) rest = Unit {0}
Alone p (of_argument i q) rest = (q ≡ p) × (rest ≡ [])
Alone p (of_global g q) rest = (q ≡ p) × (rest ≡ [])
Alone p (of_local l q) rest = (q ≡ p) × (rest ≡ [])
Alone p (refuse n) rest = Unit {0}

pub record Arm (p : PartReq) (n : ℕ) (asked : List Ask) : Type 0 where
  pub each : (j : ℕ) (a : Ask) → get_elem? asked j ≡ some a → Alone p a (drop (suc j) asked)
  pub few : length asked ≤ n

pub there_inside : (asked : List Ask) (j : ℕ) (a : Ask) → get_elem? asked j ≡ some a → j < length asked
there_inside [] j a e = absurd (none-ne-some a e)
there_inside (x ∷ asked) zero a e = omega arith
there_inside (x ∷ asked) (suc j) a e = let h = there_inside asked j a e in omega arith

module _ (p : PartReq) where
  arm_[] : (n : ℕ) → Arm p n []
  arm_[] n = record { each = λ j a e. absurd (none-ne-some a e); few = omega arith }

  arm_∷ : {n : ℕ} {rest : List Ask} (a : Ask) → Alone p a rest → Arm p n rest → Arm p (suc n) (a ∷ rest)
  arm_∷ {n} {rest} a h x = record { each = each; few = omega (arith, x.few) }
    where
      each : (j : ℕ) (b : Ask) → get_elem? (a ∷ rest) j ≡ some b → Alone p b (drop (suc j) (a ∷ rest))
      each zero b e = subst (λ (y : Ask). Alone p y rest) (some-injective a b e) h
      each (suc j) b e = x.each j b e

  arm_more : {m n : ℕ} {asked : List Ask} → m ≤ n → Arm p m asked → Arm p n asked
  arm_more l x = record { each = x.each; few = omega (arith, x.few) }

  arm_operand : {n : ℕ} {rest : List Ask} (e : ExpressionHandle) (q : PartReq) → Arm p n rest → Arm p (suc n) (of_operand e q ∷ rest)
  arm_operand e q x = arm_∷ (of_operand e q) tt x

  arm_refuse : (k : ℕ) → Arm p 1 (refuse k ∷ [])
  arm_refuse k = arm_∷ (refuse k) tt (arm_[] 0)

  arm_optional : {n : ℕ} {rest : List Ask} (o : Option ExpressionHandle) → Arm p n rest → Arm p (suc n) (optional o rest)
  unfolding optional
  arm_optional nothing x = arm_more (omega arith) x
  arm_optional (some e) x = arm_operand e all x

  arm_level : {n : ℕ} {rest : List Ask} (l : SampleLevel) → Arm p n rest → Arm p (suc (suc n)) (leveled l rest)
  unfolding leveled
  arm_level Auto x = arm_more (omega arith) x
  arm_level Zero x = arm_more (omega arith) x
  arm_level (Exact e) x = arm_more (omega arith) (arm_operand e all x)
  arm_level (Bias e) x = arm_more (omega arith) (arm_operand e all x)
  arm_level (Gradient a b) x = arm_operand a all (arm_operand b all x)

  arm_formed : (e : ExpressionHandle) (q : PartReq) → Arm p 1 (formed e q)
  unfolding formed
  arm_formed e q = go (over q)
    where
      go : (b : Bool) → Arm p 1 (cond b (refuse 15 ∷ []) (of_operand e q ∷ []))
      go true = arm_refuse 15
      go false = arm_operand e q (arm_[] 0)

  arm_constant : (q : PartReq) → Arm p 1 (constant_asks q)
  unfolding constant_asks
  arm_constant all = arm_[] 1
  arm_constant exist = arm_[] 1
  arm_constant none = arm_refuse 13
  arm_constant (more i c r) = arm_refuse 13

  arm_swizzle : (e : ExpressionHandle) (s : Swizzled) → Arm p 1 (swizzle_asks e s)
  unfolding swizzle_asks
  arm_swizzle e (asks q) = arm_formed e q
  arm_swizzle e panics = arm_refuse 13

  arm_each : (cs : List ExpressionHandle) → Arm p (length cs) (all_of_each cs)
  unfolding all_of_each
  arm_each [] = arm_[] 0
  arm_each (c ∷ cs) = arm_operand c all (arm_each cs)

  arm_component : {n : ℕ} {rest : List Ask} (o : Option ExpressionHandle) (q : PartReq) → Arm p n rest → Arm p (suc n) (component_ask o q ∷ rest)
  unfolding component_ask
  arm_component nothing q x = arm_∷ (refuse 13) tt x
  arm_component (some c) q x = arm_operand c q x

  arm_entries : (cs : List ExpressionHandle) (q : PartReq) → Arm p (entries q) (entry_asks cs q)
  unfolding entry_asks entries
  arm_entries cs all = arm_[] 0
  arm_entries cs exist = arm_[] 0
  arm_entries cs none = arm_[] 0
  arm_entries cs (more i c r) = arm_more (omega arith) (arm_component (get_elem? cs i) c (arm_entries cs r))

  arm_compose : (cs : List ExpressionHandle) (q : PartReq) → Arm p (length cs + entries q) (compose_asks cs q)
  unfolding compose_asks
  arm_compose cs all = arm_more (omega arith) (arm_each cs)
  arm_compose cs exist = arm_[] _
  arm_compose cs none = arm_[] _
  arm_compose cs (more i c r) = arm_more (omega arith) (arm_entries cs (more i c r))

-- what the arm of an expression asks at most
abbrev pub ask_count : PartReq → ℕ
ask_count p = max_components + entries p + 8

few_asks : {p : PartReq} {n : ℕ} {asked : List Ask} → n ≤ 8 → Arm p n asked → Arm p (ask_count p) asked
few_asks {p} l x = arm_more p (omega arith) x

pub arm : (x : Expression) (p : PartReq) → ComponentsWithin x → Arm p (ask_count p) (arm_asks x p)
unfolding arm_asks
arm Literal p v = arm_[] p _
arm ZeroValue p v = arm_[] p _
arm WorkGroupUniformLoadResult p v = arm_[] p _
arm (AccessIndex base index) p v = few_asks (omega arith) (arm_formed p base (more index p none))
arm (Access base index) p v = few_asks (omega arith) (arm_operand p base all (arm_operand p index all (arm_[] p 0)))
arm Constant p v = few_asks (omega arith) (arm_constant p p)
arm (Splat value) p v = few_asks (omega arith) (arm_operand p value all (arm_[] p 0))
arm (Swizzle vector pattern) p v = few_asks (omega arith) (arm_swizzle p vector (swizzled pattern p))
arm (Compose components) p v = arm_more p (omega arith) (arm_compose p components p)
arm (FunctionArgument index) p v = few_asks (omega arith) (arm_∷ p (of_argument index p) (refl, refl) (arm_[] p 0))
arm (GlobalVariable gv) p v = few_asks (omega arith) (arm_∷ p (of_global gv p) (refl, refl) (arm_[] p 0))
arm (LocalVariable lv) p v = few_asks (omega arith) (arm_∷ p (of_local lv p) (refl, refl) (arm_[] p 0))
arm (Load pointer) p v = few_asks (omega arith) (arm_operand p pointer p (arm_[] p 0))
arm (ImageSample image sampler coordinate array_index level depth_ref) p v =
    let last = arm_optional p array_index (arm_level p level (arm_optional p depth_ref (arm_[] p 0))) in
    few_asks (omega arith) (arm_operand p image all (arm_operand p sampler all (arm_operand p coordinate all last)))
arm (ImageLoad image coordinate array_index sample level) p v =
    let last = arm_optional p array_index (arm_optional p sample (arm_optional p level (arm_[] p 0))) in
    few_asks (omega arith) (arm_operand p image all (arm_operand p coordinate all last))
arm (ImageQuery image level) p v = few_asks (omega arith) (arm_operand p image all (arm_optional p level (arm_[] p 0)))
arm (Unary expr) p v = few_asks (omega arith) (arm_operand p expr p (arm_[] p 0))
arm (Binary left right) p v = few_asks (omega arith) (arm_operand p left p (arm_operand p right p (arm_[] p 0)))
arm (Select condition accept reject) p v =
    few_asks (omega arith) (arm_operand p condition all (arm_operand p accept p (arm_operand p reject p (arm_[] p 0))))
arm (Derivative expr) p v = few_asks (omega arith) (arm_operand p expr all (arm_[] p 0))
arm (Relational argument) p v = few_asks (omega arith) (arm_operand p argument all (arm_[] p 0))
arm (Math arg arg1 arg2 arg3) p v =
    few_asks (omega arith) (arm_operand p arg all (arm_optional p arg1 (arm_optional p arg2 (arm_optional p arg3 (arm_[] p 0)))))
arm (As expr) p v = few_asks (omega arith) (arm_operand p expr p (arm_[] p 0))
arm CallResult p v = arm_[] p _
arm AtomicResult p v = arm_[] p _
arm (ArrayLength array) p v = few_asks (omega arith) (arm_operand p array exist (arm_[] p 0))
arm RayQueryProceedResult p v = arm_[] p _
arm (RayQueryGetIntersection query) p v = few_asks (omega arith) (arm_operand p query all (arm_[] p 0))
arm Override p v = arm_[] p _
arm SubgroupBallotResult p v = arm_[] p _
arm SubgroupOperationResult p v = arm_[] p _
arm RayQueryVertexPositions p v = few_asks (omega arith) (arm_refuse p 13)
