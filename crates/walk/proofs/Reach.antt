-- What the arms of a valid expression ask is there: by the arms, each operand is lower and each variable is one of the module's.
use mathlib.Core.Bool.{Bool, true, false, cond}
use mathlib.Core.List.{List, [], ◌∷◌}
use mathlib.Core.Option.{Option, some, none as nothing}
use Prim.Native.Nat.{ℕ, zero, suc, ◌<◌}
use native.Mathlib.Omega.{arith}
use lib.ListN.{get_elem?}
use Rattle.part.specs.PartReq.{PartReq, all, exist, none, more, over}
use Rattle.module.specs.Module.{ExpressionHandle, SampleLevel, Auto, Zero, Exact, Bias, Gradient, Expression, Literal, ZeroValue, WorkGroupUniformLoadResult, AccessIndex, Access, Constant, Splat, Swizzle, Compose, FunctionArgument, GlobalVariable, LocalVariable, Load, ImageSample, ImageLoad, ImageQuery, Unary, Binary, Select, Derivative, Relational, Math, As, CallResult, AtomicResult, ArrayLength, RayQueryProceedResult, RayQueryGetIntersection, Override, SubgroupBallotResult, SubgroupOperationResult, RayQueryVertexPositions}
use Rattle.context.specs.Swizzle.{Swizzled, asks, panics, swizzled}
use Rattle.walk.specs.Expression.{Ask, of_operand, of_argument, of_global, of_local, refuse, optional, leveled, formed, constant_asks, swizzle_asks, all_of_each, component_ask, entry_asks, compose_asks, arm_asks}
use Rattle.valid.specs.Valid.{EachBelow, MaybeBelow, LevelBelow, OperandsBelow, NamesBelow}

module _ (globals arguments locals e : ℕ) where
  abbrev pub Reaches : Ask → Type 0
  Reaches (of_operand a p) = a < e
  Reaches (of_argument i p) = i < arguments
  Reaches (of_global g p) = g < globals
  Reaches (of_local l p) = l < locals
  Reaches (refuse n) = Unit {0}

  abbrev pub AllReach : List Ask → Type 0
  AllReach [] = Unit {0}
  AllReach (a ∷ rest) = Reaches a × AllReach rest

  optional_there : (x : Option ExpressionHandle) (rest : List Ask) → MaybeBelow e x → AllReach rest → AllReach (optional x rest)
  unfolding optional
  optional_there nothing rest b h = h
  optional_there (some a) rest b h = (b, h)

  leveled-there : (l : SampleLevel) (rest : List Ask) → LevelBelow e l → AllReach rest → AllReach (leveled l rest)
  unfolding leveled
  leveled-there Auto rest b h = h
  leveled-there Zero rest b h = h
  leveled-there (Exact a) rest b h = (b, h)
  leveled-there (Bias a) rest b h = (b, h)
  leveled-there (Gradient x y) rest b h = (b.0, (b.1, h))

  formed-there : (a : ExpressionHandle) (p : PartReq) → a < e → AllReach (formed a p)
  unfolding formed
  formed-there a p b = go (over p)
    where
      go : (o : Bool) → AllReach (cond o (refuse 15 ∷ []) (of_operand a p ∷ []))
      go true = (tt, tt)
      go false = (b, tt)

  constant_there : (p : PartReq) → AllReach (constant_asks p)
  unfolding constant_asks
  constant_there all = tt
  constant_there exist = tt
  constant_there none = (tt, tt)
  constant_there (more i p r) = (tt, tt)

  swizzle_there : (vector : ExpressionHandle) (s : Swizzled) → vector < e → AllReach (swizzle_asks vector s)
  unfolding swizzle_asks
  swizzle_there vector (asks p) b = formed-there vector p b
  swizzle_there vector panics b = (tt, tt)

  each_there : (cs : List ExpressionHandle) → EachBelow e cs → AllReach (all_of_each cs)
  unfolding all_of_each
  each_there [] b = tt
  each_there (c ∷ cs) b = (b 0 (omega arith), each_there cs (λ i l. b (suc i) (omega arith)))

  component_there : (cs : List ExpressionHandle) (i : ℕ) (p : PartReq) → EachBelow e cs → Reaches (component_ask (get_elem? cs i) p)
  unfolding component_ask
  component_there [] i p b = tt
  component_there (c ∷ cs) zero p b = b 0 (omega arith)
  component_there (c ∷ cs) (suc i) p b = component_there cs i p (λ i l. b (suc i) (omega arith))

  entries_there : (cs : List ExpressionHandle) (p : PartReq) → EachBelow e cs → AllReach (entry_asks cs p)
  unfolding entry_asks
  entries_there cs all b = tt
  entries_there cs exist b = tt
  entries_there cs none b = tt
  entries_there cs (more i p r) b = (component_there cs i p b, entries_there cs r b)

  compose_there : (cs : List ExpressionHandle) (p : PartReq) → EachBelow e cs → AllReach (compose_asks cs p)
  unfolding compose_asks
  compose_there cs all b = each_there cs b
  compose_there cs exist b = tt
  compose_there cs none b = tt
  compose_there cs (more i p r) b = entries_there cs (more i p r) b

  pub arm_there : (x : Expression) (p : PartReq) → OperandsBelow e x → NamesBelow globals arguments locals x → AllReach (arm_asks x p)
  unfolding arm_asks
  arm_there Literal p b n = tt
  arm_there ZeroValue p b n = tt
  arm_there WorkGroupUniformLoadResult p b n = tt
  arm_there (AccessIndex base index) p b n = formed-there base (more index p none) b.0
  arm_there (Access base index) p b n = (b.0, (b.1, tt))
  arm_there Constant p b n = constant_there p
  arm_there (Splat value) p b n = (b, tt)
  arm_there (Swizzle vector pattern) p b n = swizzle_there vector (swizzled pattern p) b.0
  arm_there (Compose components) p b n = compose_there components p b
  arm_there (FunctionArgument index) p b n = (n, tt)
  arm_there (GlobalVariable gv) p b n = (n, tt)
  arm_there (LocalVariable lv) p b n = (n, tt)
  arm_there (Load pointer) p b n = (b, tt)
  arm_there (ImageSample image sampler coordinate array_index level depth_ref) p b n =
      (b.0, (b.1, (b.2, optional_there array_index _ b.3 (leveled-there level _ b.4 (optional_there depth_ref _ b.5 tt)))))
  arm_there (ImageLoad image coordinate array_index sample level) p b n =
      (b.0, (b.1, optional_there array_index _ b.2 (optional_there sample _ b.3 (optional_there level _ b.4 tt))))
  arm_there (ImageQuery image level) p b n = (b.0, optional_there level _ b.1 tt)
  arm_there (Unary expr) p b n = (b, tt)
  arm_there (Binary left right) p b n = (b.0, (b.1, tt))
  arm_there (Select condition accept reject) p b n = (b.0, (b.1, (b.2, tt)))
  arm_there (Derivative expr) p b n = (b, tt)
  arm_there (Relational argument) p b n = (b, tt)
  arm_there (Math arg arg1 arg2 arg3) p b n =
      (b.0, optional_there arg1 _ b.1 (optional_there arg2 _ b.2 (optional_there arg3 _ b.3 tt)))
  arm_there (As expr) p b n = (b, tt)
  arm_there CallResult p b n = tt
  arm_there AtomicResult p b n = tt
  arm_there (ArrayLength array) p b n = (b, tt)
  arm_there RayQueryProceedResult p b n = tt
  arm_there (RayQueryGetIntersection query) p b n = (b, tt)
  arm_there Override p b n = tt
  arm_there SubgroupBallotResult p b n = tt
  arm_there SubgroupOperationResult p b n = tt
  arm_there RayQueryVertexPositions p b n = (tt, tt)
