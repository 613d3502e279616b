-- What a module file means, with naga's names: one constructor for each kind, in the order of the arms of
-- src/prune/mod.rs, with the operands that the arm uses, in pattern order. A handle is the number of what it names.
use Rattle.std.specs.Prelude.{ℕ, Bool, List}
use Rattle.std.proofs.Math.Option.{Option}

abbrev pub TypeHandle : Type 0
TypeHandle = ℕ

abbrev pub GlobalHandle : Type 0
GlobalHandle = ℕ

abbrev pub LocalHandle : Type 0
LocalHandle = ℕ

abbrev pub FunctionHandle : Type 0
FunctionHandle = ℕ

abbrev pub ExpressionHandle : Type 0
ExpressionHandle = ℕ

abbrev pub BlockHandle : Type 0
BlockHandle = ℕ

-- 0 to 31 a location, 32 to 63 a built-in
abbrev pub Binding : Type 0
Binding = ℕ

pub record Member : Type 0 where
  pub type : TypeHandle
  pub binding : Option Binding

pub data TypeInner : Type 0 where
  Scalar : TypeInner
  Vector : (size : ℕ) → TypeInner
  Matrix : (columns rows : ℕ) → TypeInner
  Atomic : TypeInner
  Pointer : (base : TypeHandle) → TypeInner
  -- a count of 0 is run-sized
  Array : (base : TypeHandle) → (count : ℕ) → TypeInner
  Struct : (members : List Member) → TypeInner
  BindingArray : (base : TypeHandle) → TypeInner
  Opaque : TypeInner

pub data SampleLevel : Type 0 where
  Auto : SampleLevel
  Zero : SampleLevel
  Exact : ExpressionHandle → SampleLevel
  Bias : ExpressionHandle → SampleLevel
  Gradient : (x y : ExpressionHandle) → SampleLevel

pub data GatherMode : Type 0 where
  -- a mode without a handle
  BroadcastFirst : GatherMode
  Broadcast : ExpressionHandle → GatherMode

pub data Expression : Type 0 where
  Literal : Expression
  ZeroValue : Expression
  WorkGroupUniformLoadResult : Expression
  AccessIndex : (base : ExpressionHandle) → (index : ℕ) → Expression
  Access : (base index : ExpressionHandle) → Expression
  Constant : Expression
  Splat : (value : ExpressionHandle) → Expression
  -- the letters of the pattern, 2 to 4 of them
  Swizzle : (vector : ExpressionHandle) → (pattern : List ℕ) → Expression
  Compose : (components : List ExpressionHandle) → Expression
  FunctionArgument : (index : ℕ) → Expression
  GlobalVariable : GlobalHandle → Expression
  LocalVariable : LocalHandle → Expression
  Load : (pointer : ExpressionHandle) → Expression
  ImageSample : (image sampler coordinate : ExpressionHandle) → (array_index : Option ExpressionHandle) → SampleLevel → (depth_ref : Option ExpressionHandle) → Expression
  ImageLoad : (image coordinate : ExpressionHandle) → (array_index sample level : Option ExpressionHandle) → Expression
  ImageQuery : (image : ExpressionHandle) → (level : Option ExpressionHandle) → Expression
  Unary : (expr : ExpressionHandle) → Expression
  Binary : (left right : ExpressionHandle) → Expression
  Select : (condition accept reject : ExpressionHandle) → Expression
  Derivative : (expr : ExpressionHandle) → Expression
  Relational : (argument : ExpressionHandle) → Expression
  Math : (arg : ExpressionHandle) → (arg1 arg2 arg3 : Option ExpressionHandle) → Expression
  As : (expr : ExpressionHandle) → Expression
  CallResult : Expression
  AtomicResult : Expression
  ArrayLength : (array : ExpressionHandle) → Expression
  RayQueryProceedResult : Expression
  RayQueryGetIntersection : (query : ExpressionHandle) → Expression
  Override : Expression
  SubgroupBallotResult : Expression
  SubgroupOperationResult : Expression
  RayQueryVertexPositions : Expression

pub record SwitchCase : Type 0 where
  -- 65535 is the default
  pub value : ℕ
  pub body : BlockHandle

pub data Statement : Type 0 where
  Emit : (first last : ExpressionHandle) → Statement
  Block : BlockHandle → Statement
  If : (condition : ExpressionHandle) → (accept reject : BlockHandle) → Statement
  Switch : (selector : ExpressionHandle) → (cases : List SwitchCase) → Statement
  Loop : (body continuing : BlockHandle) → (break_if : Option ExpressionHandle) → Statement
  Break : Statement
  Continue : Statement
  Return : (value : Option ExpressionHandle) → Statement
  Kill : Statement
  ControlBarrier : Statement
  MemoryBarrier : Statement
  ImageAtomic : Statement
  Store : (pointer value : ExpressionHandle) → Statement
  AtomicStatement : (pointer value : ExpressionHandle) → (result : Option ExpressionHandle) → Statement
  Call : FunctionHandle → (arguments : List ExpressionHandle) → (result : Option ExpressionHandle) → Statement
  ImageStore : (image coordinate : ExpressionHandle) → (array_index : Option ExpressionHandle) → (value : ExpressionHandle) → Statement
  RayQuery : (query : ExpressionHandle) → Statement
  WorkGroupUniformLoad : (pointer result : ExpressionHandle) → Statement
  SubgroupBallot : (result : ExpressionHandle) → (predicate : Option ExpressionHandle) → Statement
  SubgroupGather : GatherMode → (argument result : ExpressionHandle) → Statement
  SubgroupCollectiveOperation : (argument result : ExpressionHandle) → Statement

-- an expression with the type that its record gives it
pub record Typed : Type 0 where
  pub type : TypeHandle
  pub expression : Expression

-- `count` statements of the function, from the statement `first` on
pub record BlockRange : Type 0 where
  pub first : ℕ
  pub count : ℕ

pub record FunctionArg : Type 0 where
  pub type : TypeHandle
  pub binding : Option Binding

pub record FunctionResult : Type 0 where
  pub type : TypeHandle
  pub binding : Option Binding

-- The statements are in the file's order, which numbers them; the last block is the body.
pub record Function : Type 0 where
  pub entry : Bool
  pub result : Option FunctionResult
  pub arguments : List FunctionArg
  pub locals : List TypeHandle
  pub expressions : List Typed
  pub statements : List Statement
  pub blocks : List BlockRange

pub record Module : Type 0 where
  pub types : List TypeInner
  pub globals : List TypeHandle
  pub functions : List Function
