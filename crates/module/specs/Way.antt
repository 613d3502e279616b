-- The way of a path: what an expression adds to the way to a variable. A path is a variable, or an index of a path.
use Rattle.std.specs.Prelude.{ℕ}
use Rattle.module.specs.Module.{ExpressionHandle, GlobalHandle, LocalHandle, Expression, Literal, ZeroValue, WorkGroupUniformLoadResult, AccessIndex, Access, Constant, Splat, Swizzle, Compose, FunctionArgument, GlobalVariable, LocalVariable, Load, ImageSample, ImageLoad, ImageQuery, Unary, Binary, Select, Derivative, Relational, Math, As, CallResult, AtomicResult, ArrayLength, RayQueryProceedResult, RayQueryGetIntersection, Override, SubgroupBallotResult, SubgroupOperationResult, RayQueryVertexPositions}

pub data Way : Type 0 where
  -- one index further than `base`: a constant, and one by an expression
  constantly : (base : ExpressionHandle) → (index : ℕ) → Way
  dynamically : (base index : ExpressionHandle) → Way
  -- to a variable
  to_global : GlobalHandle → Way
  to_local : LocalHandle → Way
  -- what is no path
  no_way : Way

abbrev pub way_of : Expression → Way
way_of Literal = no_way
way_of ZeroValue = no_way
way_of WorkGroupUniformLoadResult = no_way
way_of (AccessIndex base index) = constantly base index
way_of (Access base index) = dynamically base index
way_of Constant = no_way
way_of (Splat value) = no_way
way_of (Swizzle vector pattern) = no_way
way_of (Compose components) = no_way
way_of (FunctionArgument index) = no_way
way_of (GlobalVariable g) = to_global g
way_of (LocalVariable l) = to_local l
way_of (Load pointer) = no_way
way_of (ImageSample image sampler coordinate array_index level depth_ref) = no_way
way_of (ImageLoad image coordinate array_index sample level) = no_way
way_of (ImageQuery image level) = no_way
way_of (Unary x) = no_way
way_of (Binary left right) = no_way
way_of (Select condition accept reject) = no_way
way_of (Derivative x) = no_way
way_of (Relational x) = no_way
way_of (Math x x1 x2 x3) = no_way
way_of (As x) = no_way
way_of CallResult = no_way
way_of AtomicResult = no_way
way_of (ArrayLength x) = no_way
way_of RayQueryProceedResult = no_way
way_of (RayQueryGetIntersection query) = no_way
way_of Override = no_way
way_of SubgroupBallotResult = no_way
way_of SubgroupOperationResult = no_way
way_of RayQueryVertexPositions = no_way
