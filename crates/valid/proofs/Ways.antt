-- The base of a path's way is below its expression, as every operand is.
use Prim.Native.Nat.{ℕ, ◌<◌}
use Rattle.module.specs.Module.{Expression, Literal, ZeroValue, WorkGroupUniformLoadResult, AccessIndex, Access, Constant, Splat, Swizzle, Compose, FunctionArgument, GlobalVariable, LocalVariable, Load, ImageSample, ImageLoad, ImageQuery, Unary, Binary, Select, Derivative, Relational, Math, As, CallResult, AtomicResult, ArrayLength, RayQueryProceedResult, RayQueryGetIntersection, Override, SubgroupBallotResult, SubgroupOperationResult, RayQueryVertexPositions}
use Rattle.module.specs.Way.{Way, constantly, dynamically, to_global, to_local, no_way, way_of}
use Rattle.valid.specs.Valid.{OperandsBelow}

abbrev pub WayBelow : ℕ → Way → Type 0
WayBelow e (constantly base index) = base < e
WayBelow e (dynamically base index) = base < e
WayBelow e (to_global g) = Unit {0}
WayBelow e (to_local l) = Unit {0}
WayBelow e no_way = Unit {0}

pub way_below : (e : ℕ) (x : Expression) → OperandsBelow e x → WayBelow e (way_of x)
way_below e Literal h = tt
way_below e ZeroValue h = tt
way_below e WorkGroupUniformLoadResult h = tt
way_below e (AccessIndex base index) h = h.0
way_below e (Access base index) h = h.0
way_below e Constant h = tt
way_below e (Splat value) h = tt
way_below e (Swizzle vector pattern) h = tt
way_below e (Compose components) h = tt
way_below e (FunctionArgument index) h = tt
way_below e (GlobalVariable g) h = tt
way_below e (LocalVariable l) h = tt
way_below e (Load pointer) h = tt
way_below e (ImageSample image sampler coordinate array_index level depth_ref) h = tt
way_below e (ImageLoad image coordinate array_index sample level) h = tt
way_below e (ImageQuery image level) h = tt
way_below e (Unary x) h = tt
way_below e (Binary left right) h = tt
way_below e (Select condition accept reject) h = tt
way_below e (Derivative x) h = tt
way_below e (Relational x) h = tt
way_below e (Math x x1 x2 x3) h = tt
way_below e (As x) h = tt
way_below e CallResult h = tt
way_below e AtomicResult h = tt
way_below e (ArrayLength x) h = tt
way_below e RayQueryProceedResult h = tt
way_below e (RayQueryGetIntersection query) h = tt
way_below e Override h = tt
way_below e SubgroupBallotResult h = tt
way_below e SubgroupOperationResult h = tt
way_below e RayQueryVertexPositions h = tt
