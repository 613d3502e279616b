-- The numbers of the kinds that the code has as enums; Kinds has those of what they stand for.
use Rattle.std.specs.Prelude.{◌≡◌, ◌<◌, ℕ, Result, MatchResult}
use Rattle.module.specs.declared.kinds.ExpressionKind.{ExpressionKind}
use Rattle.module.specs.declared.kinds.StatementKind.{StatementKind}
use Rattle.module.specs.declared.kinds.NoKind.{NoKind}
use Rattle.module.specs.declared.kinds.TypeKind.{TypeKind}

abbrev pub type_number : TypeKind → ℕ
type_number TypeKind.Scalar = 0
type_number TypeKind.Vector = 1
type_number TypeKind.Matrix = 2
type_number TypeKind.Atomic = 3
type_number TypeKind.Pointer = 4
type_number TypeKind.Array = 5
type_number TypeKind.Struct = 6
type_number TypeKind.BindingArray = 7
type_number TypeKind.Opaque = 8

abbrev pub expression_code : ExpressionKind → ℕ
expression_code ExpressionKind.Literal = 0
expression_code ExpressionKind.ZeroValue = 1
expression_code ExpressionKind.WorkGroupUniformLoadResult = 2
expression_code ExpressionKind.AccessIndex = 3
expression_code ExpressionKind.Access = 4
expression_code ExpressionKind.Constant = 5
expression_code ExpressionKind.Splat = 6
expression_code ExpressionKind.Swizzle = 7
expression_code ExpressionKind.Compose = 8
expression_code ExpressionKind.FunctionArgument = 9
expression_code ExpressionKind.GlobalVariable = 10
expression_code ExpressionKind.LocalVariable = 11
expression_code ExpressionKind.Load = 12
expression_code ExpressionKind.ImageSample = 13
expression_code ExpressionKind.ImageLoad = 14
expression_code ExpressionKind.ImageQuery = 15
expression_code ExpressionKind.Unary = 16
expression_code ExpressionKind.Binary = 17
expression_code ExpressionKind.Select = 18
expression_code ExpressionKind.Derivative = 19
expression_code ExpressionKind.Relational = 20
expression_code ExpressionKind.Math = 21
expression_code ExpressionKind.As = 22
expression_code ExpressionKind.CallResult = 23
expression_code ExpressionKind.AtomicResult = 24
expression_code ExpressionKind.ArrayLength = 25
expression_code ExpressionKind.RayQueryProceedResult = 26
expression_code ExpressionKind.RayQueryGetIntersection = 27
expression_code ExpressionKind.Override = 28
expression_code ExpressionKind.SubgroupBallotResult = 29
expression_code ExpressionKind.SubgroupOperationResult = 30
expression_code ExpressionKind.RayQueryVertexPositions = 31

abbrev pub statement_code : StatementKind → ℕ
statement_code StatementKind.Emit = 0
statement_code StatementKind.Block = 1
statement_code StatementKind.If = 2
statement_code StatementKind.Switch = 3
statement_code StatementKind.Loop = 4
statement_code StatementKind.Break = 5
statement_code StatementKind.Continue = 6
statement_code StatementKind.Return = 7
statement_code StatementKind.Kill = 8
statement_code StatementKind.ControlBarrier = 9
statement_code StatementKind.MemoryBarrier = 10
statement_code StatementKind.ImageAtomic = 11
statement_code StatementKind.Store = 12
statement_code StatementKind.Atomic = 13
statement_code StatementKind.Call = 14
statement_code StatementKind.ImageStore = 15
statement_code StatementKind.RayQuery = 16
statement_code StatementKind.WorkGroupUniformLoad = 17
statement_code StatementKind.SubgroupBallot = 18
statement_code StatementKind.SubgroupGather = 19
statement_code StatementKind.SubgroupCollectiveOperation = 20

-- the kind of this number, or that there is none
abbrev pub ExpressionDecodes : ℕ → Result ExpressionKind NoKind → Type 0
ExpressionDecodes n r = MatchResult r (λ kind. expression_code kind ≡ n) (λ e. 31 < n)

abbrev pub StatementDecodes : ℕ → Result StatementKind NoKind → Type 0
StatementDecodes n r = MatchResult r (λ kind. statement_code kind ≡ n) (λ e. 20 < n)
