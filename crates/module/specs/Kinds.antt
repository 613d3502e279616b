-- The kinds of expressions and statements, by 01's numbers: "Kinds count the arms .. in source order".
use Rattle.std.specs.Prelude.{ℕ}
use Rattle.module.specs.Module.{Expression, Literal, ZeroValue, WorkGroupUniformLoadResult, AccessIndex, Access, Constant, Splat, Swizzle, Compose, FunctionArgument, GlobalVariable, LocalVariable, Load, ImageSample, ImageLoad, ImageQuery, Unary, Binary, Select, Derivative, Relational, Math, As, CallResult, AtomicResult, ArrayLength, RayQueryProceedResult, RayQueryGetIntersection, Override, SubgroupBallotResult, SubgroupOperationResult, RayQueryVertexPositions, Statement, Emit, Block, If, Switch, Loop, Break, Continue, Return, Kill, ControlBarrier, MemoryBarrier, ImageAtomic, Store, AtomicStatement, Call, ImageStore, RayQuery, WorkGroupUniformLoad, SubgroupBallot, SubgroupGather, SubgroupCollectiveOperation}

unfoldable pub expression_kind : Expression → ℕ
expression_kind Literal = 0
expression_kind ZeroValue = 1
expression_kind WorkGroupUniformLoadResult = 2
expression_kind (AccessIndex base index) = 3
expression_kind (Access base index) = 4
expression_kind Constant = 5
expression_kind (Splat value) = 6
expression_kind (Swizzle vector pattern) = 7
expression_kind (Compose components) = 8
expression_kind (FunctionArgument index) = 9
expression_kind (GlobalVariable g) = 10
expression_kind (LocalVariable l) = 11
expression_kind (Load pointer) = 12
expression_kind (ImageSample image sampler coordinate array_index level depth_ref) = 13
expression_kind (ImageLoad image coordinate array_index sample level) = 14
expression_kind (ImageQuery image level) = 15
expression_kind (Unary x) = 16
expression_kind (Binary left right) = 17
expression_kind (Select condition accept reject) = 18
expression_kind (Derivative x) = 19
expression_kind (Relational x) = 20
expression_kind (Math x x1 x2 x3) = 21
expression_kind (As x) = 22
expression_kind CallResult = 23
expression_kind AtomicResult = 24
expression_kind (ArrayLength x) = 25
expression_kind RayQueryProceedResult = 26
expression_kind (RayQueryGetIntersection query) = 27
expression_kind Override = 28
expression_kind SubgroupBallotResult = 29
expression_kind SubgroupOperationResult = 30
expression_kind RayQueryVertexPositions = 31

unfoldable pub statement_kind : Statement → ℕ
statement_kind (Emit first last) = 0
statement_kind (Block b) = 1
statement_kind (If condition accept reject) = 2
statement_kind (Switch selector cases) = 3
statement_kind (Loop b continuing break_if) = 4
statement_kind Break = 5
statement_kind Continue = 6
statement_kind (Return value) = 7
statement_kind Kill = 8
statement_kind ControlBarrier = 9
statement_kind MemoryBarrier = 10
statement_kind ImageAtomic = 11
statement_kind (Store pointer value) = 12
statement_kind (AtomicStatement pointer value result) = 13
statement_kind (Call function arguments result) = 14
statement_kind (ImageStore image coordinate array_index value) = 15
statement_kind (RayQuery query) = 16
statement_kind (WorkGroupUniformLoad pointer result) = 17
statement_kind (SubgroupBallot result predicate) = 18
statement_kind (SubgroupGather mode argument result) = 19
statement_kind (SubgroupCollectiveOperation argument result) = 20
