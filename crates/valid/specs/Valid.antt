-- What reading guarantees of a module: "No reference to nothing", an operand "below that of its expression; likewise types and called
-- functions", "a block's number is below its holder's, each held once", each statement in a block, "no expression in two emits, no call of
-- an entry", "a switch has one default (65535), distinct values", and the limits. What a module cannot say is left out: the records' order,
-- a result's binding without its type.
use Rattle.std.specs.Prelude.{◌≡◌, Bool, true, false, List, map, ℕ, ◌+◌, ◌<◌, ◌≤◌, length, get_or, take}
use Rattle.std.proofs.Math.Option.{Option, some, none as nothing}
use Rattle.field.specs.Limits.{absent, max_types, max_globals, max_functions, max_arguments, max_members, max_components, max_locals, max_expressions, max_statements}
use Rattle.module.specs.Module.{Member, TypeInner, Scalar, Vector, Matrix, Atomic, Pointer, Array, Struct, BindingArray, Opaque, SampleLevel, Auto, Zero, Exact, Bias, Gradient, GatherMode, BroadcastFirst, Broadcast, Expression, Literal, ZeroValue, WorkGroupUniformLoadResult, AccessIndex, Access, Constant, Splat, Swizzle, Compose, FunctionArgument, GlobalVariable, LocalVariable, Load, ImageSample, ImageLoad, ImageQuery, Unary, Binary, Select, Derivative, Relational, Math, As, CallResult, AtomicResult, ArrayLength, RayQueryProceedResult, RayQueryGetIntersection, Override, SubgroupBallotResult, SubgroupOperationResult, RayQueryVertexPositions, SwitchCase, Statement, Emit, Block, If, Switch, Loop, Break, Continue, Return, Kill, ControlBarrier, MemoryBarrier, ImageAtomic, Store, AtomicStatement, Call, ImageStore, RayQuery, WorkGroupUniformLoad, SubgroupBallot, SubgroupGather, SubgroupCollectiveOperation, Typed, FunctionArg, FunctionResult, BlockRange, Function, Module}
use Rattle.module.specs.Operands.{bindings}
use Rattle.module.specs.Blocks.{block_rule}

-- each number of a list, and one that may be absent
abbrev pub EachBelow : ℕ → List ℕ → Type 0
EachBelow n xs = (i : ℕ) → i < length xs → get_or xs i 0 < n

abbrev pub MaybeBelow : ℕ → Option ℕ → Type 0
MaybeBelow n nothing = Unit {0}
MaybeBelow n (some x) = x < n

abbrev pub LevelBelow : ℕ → SampleLevel → Type 0
LevelBelow n Auto = Unit {0}
LevelBelow n Zero = Unit {0}
LevelBelow n (Exact x) = x < n
LevelBelow n (Bias x) = x < n
LevelBelow n (Gradient x y) = (x < n) × (y < n)

abbrev pub ModeBelow : ℕ → GatherMode → Type 0
ModeBelow n BroadcastFirst = Unit {0}
ModeBelow n (Broadcast x) = x < n

-- the type of number n, over lower types
abbrev pub TypeFine : ℕ → TypeInner → Type 0
TypeFine n Scalar = Unit {0}
TypeFine n (Vector size) = (2 ≤ size) × (size ≤ 4)
TypeFine n (Matrix columns rows) = ((2 ≤ columns) × (columns ≤ 4)) × ((2 ≤ rows) × (rows ≤ 4))
TypeFine n Atomic = Unit {0}
TypeFine n (Pointer base) = base < n
TypeFine n (Array base count) = (base < n) × (count < absent)
TypeFine n (Struct members) =
    (i : ℕ) (d : Member) → i < length members → ((get_or members i d).type < n) × MaybeBelow bindings (get_or members i d).binding
TypeFine n (BindingArray base) = base < n
TypeFine n Opaque = Unit {0}

-- the operands of the expression of number e are lower
abbrev pub OperandsBelow : ℕ → Expression → Type 0
OperandsBelow e Literal = Unit {0}
OperandsBelow e ZeroValue = Unit {0}
OperandsBelow e WorkGroupUniformLoadResult = Unit {0}
OperandsBelow e (AccessIndex base index) = (base < e) × (index < absent)
OperandsBelow e (Access base index) = (base < e) × (index < e)
OperandsBelow e Constant = Unit {0}
OperandsBelow e (Splat value) = value < e
OperandsBelow e (Swizzle vector pattern) = (vector < e) × ((2 ≤ length pattern) × (length pattern ≤ 4)) × EachBelow 4 pattern
OperandsBelow e (Compose components) = EachBelow e components
OperandsBelow e (FunctionArgument index) = Unit {0}
OperandsBelow e (GlobalVariable g) = Unit {0}
OperandsBelow e (LocalVariable l) = Unit {0}
OperandsBelow e (Load pointer) = pointer < e
OperandsBelow e (ImageSample image sampler coordinate array_index level depth_ref) =
    (image < e) × (sampler < e) × (coordinate < e) × MaybeBelow e array_index × LevelBelow e level × MaybeBelow e depth_ref
OperandsBelow e (ImageLoad image coordinate array_index sample level) =
    (image < e) × (coordinate < e) × MaybeBelow e array_index × MaybeBelow e sample × MaybeBelow e level
OperandsBelow e (ImageQuery image level) = (image < e) × MaybeBelow e level
OperandsBelow e (Unary expr) = expr < e
OperandsBelow e (Binary left right) = (left < e) × (right < e)
OperandsBelow e (Select condition accept reject) = (condition < e) × (accept < e) × (reject < e)
OperandsBelow e (Derivative expr) = expr < e
OperandsBelow e (Relational argument) = argument < e
OperandsBelow e (Math arg arg1 arg2 arg3) = (arg < e) × MaybeBelow e arg1 × MaybeBelow e arg2 × MaybeBelow e arg3
OperandsBelow e (As expr) = expr < e
OperandsBelow e CallResult = Unit {0}
OperandsBelow e AtomicResult = Unit {0}
OperandsBelow e (ArrayLength array) = array < e
OperandsBelow e RayQueryProceedResult = Unit {0}
OperandsBelow e (RayQueryGetIntersection query) = query < e
OperandsBelow e Override = Unit {0}
OperandsBelow e SubgroupBallotResult = Unit {0}
OperandsBelow e SubgroupOperationResult = Unit {0}
OperandsBelow e RayQueryVertexPositions = Unit {0}

-- the counts of members and of components are within their limits
abbrev pub MembersWithin : TypeInner → Type 0
MembersWithin Scalar = Unit {0}
MembersWithin (Vector size) = Unit {0}
MembersWithin (Matrix columns rows) = Unit {0}
MembersWithin Atomic = Unit {0}
MembersWithin (Pointer base) = Unit {0}
MembersWithin (Array base count) = Unit {0}
MembersWithin (Struct members) = length members ≤ max_members
MembersWithin (BindingArray base) = Unit {0}
MembersWithin Opaque = Unit {0}

abbrev pub ComponentsWithin : Expression → Type 0
ComponentsWithin Literal = Unit {0}
ComponentsWithin ZeroValue = Unit {0}
ComponentsWithin WorkGroupUniformLoadResult = Unit {0}
ComponentsWithin (AccessIndex base index) = Unit {0}
ComponentsWithin (Access base index) = Unit {0}
ComponentsWithin Constant = Unit {0}
ComponentsWithin (Splat value) = Unit {0}
ComponentsWithin (Swizzle vector pattern) = Unit {0}
ComponentsWithin (Compose components) = length components ≤ max_components
ComponentsWithin (FunctionArgument index) = Unit {0}
ComponentsWithin (GlobalVariable g) = Unit {0}
ComponentsWithin (LocalVariable l) = Unit {0}
ComponentsWithin (Load pointer) = Unit {0}
ComponentsWithin (ImageSample image sampler coordinate array_index level depth_ref) = Unit {0}
ComponentsWithin (ImageLoad image coordinate array_index sample level) = Unit {0}
ComponentsWithin (ImageQuery image level) = Unit {0}
ComponentsWithin (Unary expr) = Unit {0}
ComponentsWithin (Binary left right) = Unit {0}
ComponentsWithin (Select condition accept reject) = Unit {0}
ComponentsWithin (Derivative expr) = Unit {0}
ComponentsWithin (Relational argument) = Unit {0}
ComponentsWithin (Math arg arg1 arg2 arg3) = Unit {0}
ComponentsWithin (As expr) = Unit {0}
ComponentsWithin CallResult = Unit {0}
ComponentsWithin AtomicResult = Unit {0}
ComponentsWithin (ArrayLength array) = Unit {0}
ComponentsWithin RayQueryProceedResult = Unit {0}
ComponentsWithin (RayQueryGetIntersection query) = Unit {0}
ComponentsWithin Override = Unit {0}
ComponentsWithin SubgroupBallotResult = Unit {0}
ComponentsWithin SubgroupOperationResult = Unit {0}
ComponentsWithin RayQueryVertexPositions = Unit {0}

-- the argument, global or local that an expression names is there
abbrev pub NamesBelow : (globals arguments locals : ℕ) → Expression → Type 0
NamesBelow globals arguments locals Literal = Unit {0}
NamesBelow globals arguments locals ZeroValue = Unit {0}
NamesBelow globals arguments locals WorkGroupUniformLoadResult = Unit {0}
NamesBelow globals arguments locals (AccessIndex base index) = Unit {0}
NamesBelow globals arguments locals (Access base index) = Unit {0}
NamesBelow globals arguments locals Constant = Unit {0}
NamesBelow globals arguments locals (Splat value) = Unit {0}
NamesBelow globals arguments locals (Swizzle vector pattern) = Unit {0}
NamesBelow globals arguments locals (Compose components) = Unit {0}
NamesBelow globals arguments locals (FunctionArgument index) = index < arguments
NamesBelow globals arguments locals (GlobalVariable g) = g < globals
NamesBelow globals arguments locals (LocalVariable l) = l < locals
NamesBelow globals arguments locals (Load pointer) = Unit {0}
NamesBelow globals arguments locals (ImageSample image sampler coordinate array_index level depth_ref) = Unit {0}
NamesBelow globals arguments locals (ImageLoad image coordinate array_index sample level) = Unit {0}
NamesBelow globals arguments locals (ImageQuery image level) = Unit {0}
NamesBelow globals arguments locals (Unary expr) = Unit {0}
NamesBelow globals arguments locals (Binary left right) = Unit {0}
NamesBelow globals arguments locals (Select condition accept reject) = Unit {0}
NamesBelow globals arguments locals (Derivative expr) = Unit {0}
NamesBelow globals arguments locals (Relational argument) = Unit {0}
NamesBelow globals arguments locals (Math arg arg1 arg2 arg3) = Unit {0}
NamesBelow globals arguments locals (As expr) = Unit {0}
NamesBelow globals arguments locals CallResult = Unit {0}
NamesBelow globals arguments locals AtomicResult = Unit {0}
NamesBelow globals arguments locals (ArrayLength array) = Unit {0}
NamesBelow globals arguments locals RayQueryProceedResult = Unit {0}
NamesBelow globals arguments locals (RayQueryGetIntersection query) = Unit {0}
NamesBelow globals arguments locals Override = Unit {0}
NamesBelow globals arguments locals SubgroupBallotResult = Unit {0}
NamesBelow globals arguments locals SubgroupOperationResult = Unit {0}
NamesBelow globals arguments locals RayQueryVertexPositions = Unit {0}

-- A switch has one default (65535) and distinct values; so it has a case, and no second default. That no case falls through into another is the
-- block rule: each has a block of its own.
pub record CasesFine (cases : List SwitchCase) : Type 0 where
  pub distinct : (i j : ℕ) (d : SwitchCase) → i < j → j < length cases → (get_or cases i d).value ≡ (get_or cases j d).value → ⊥
  pub default : ℕ
  pub default_there : default < length cases
  pub default_is : (d : SwitchCase) → (get_or cases default d).value ≡ absent

-- A statement of a function with n expressions, where `entries` says of each lower function whether it is an entry: a called
-- function is lower and is none. Of blocks the block rule speaks.
abbrev pub UsesBelow : (n : ℕ) → (entries : List Bool) → Statement → Type 0
UsesBelow n entries (Emit first last) = (first ≤ last) × (last < n)
UsesBelow n entries (Block b) = Unit {0}
UsesBelow n entries (If condition accept reject) = condition < n
UsesBelow n entries (Switch selector cases) = (selector < n) × CasesFine cases
UsesBelow n entries (Loop body continuing break_if) = MaybeBelow n break_if
UsesBelow n entries Break = Unit {0}
UsesBelow n entries Continue = Unit {0}
UsesBelow n entries (Return value) = MaybeBelow n value
UsesBelow n entries Kill = Unit {0}
UsesBelow n entries ControlBarrier = Unit {0}
UsesBelow n entries MemoryBarrier = Unit {0}
UsesBelow n entries ImageAtomic = Unit {0}
UsesBelow n entries (Store pointer value) = (pointer < n) × (value < n)
UsesBelow n entries (AtomicStatement pointer value result) = (pointer < n) × (value < n) × MaybeBelow n result
UsesBelow n entries (Call g arguments result) = (get_or entries g true ≡ false) × EachBelow n arguments × MaybeBelow n result
UsesBelow n entries (ImageStore image coordinate array_index value) = (image < n) × (coordinate < n) × MaybeBelow n array_index × (value < n)
UsesBelow n entries (RayQuery query) = query < n
UsesBelow n entries (WorkGroupUniformLoad pointer result) = (pointer < n) × (result < n)
UsesBelow n entries (SubgroupBallot result predicate) = (result < n) × MaybeBelow n predicate
UsesBelow n entries (SubgroupGather mode argument result) = ModeBelow n mode × (argument < n) × (result < n)
UsesBelow n entries (SubgroupCollectiveOperation argument result) = (argument < n) × (result < n)

abbrev pub ArgumentsWithin : Statement → Type 0
ArgumentsWithin (Emit first last) = Unit {0}
ArgumentsWithin (Block b) = Unit {0}
ArgumentsWithin (If condition accept reject) = Unit {0}
ArgumentsWithin (Switch selector cases) = Unit {0}
ArgumentsWithin (Loop body continuing break_if) = Unit {0}
ArgumentsWithin Break = Unit {0}
ArgumentsWithin Continue = Unit {0}
ArgumentsWithin (Return value) = Unit {0}
ArgumentsWithin Kill = Unit {0}
ArgumentsWithin ControlBarrier = Unit {0}
ArgumentsWithin MemoryBarrier = Unit {0}
ArgumentsWithin ImageAtomic = Unit {0}
ArgumentsWithin (Store pointer value) = Unit {0}
ArgumentsWithin (AtomicStatement pointer value result) = Unit {0}
ArgumentsWithin (Call g arguments result) = length arguments ≤ max_arguments
ArgumentsWithin (ImageStore image coordinate array_index value) = Unit {0}
ArgumentsWithin (RayQuery query) = Unit {0}
ArgumentsWithin (WorkGroupUniformLoad pointer result) = Unit {0}
ArgumentsWithin (SubgroupBallot result predicate) = Unit {0}
ArgumentsWithin (SubgroupGather mode argument result) = Unit {0}
ArgumentsWithin (SubgroupCollectiveOperation argument result) = Unit {0}

-- what is true of each element of a list and its number
abbrev pub All : {A : Type 0} → (ℕ → A → Type 0) → List A → Type 0
All {A} P xs = (i : ℕ) (d : A) → i < length xs → P i (get_or xs i d)

-- the expression e stands in an emit
pub data Emits (e : ℕ) : Statement → Type 0 where
  emits : {first last : ℕ} → first ≤ e → e ≤ last → Emits e (Emit first last)

-- no expression stands in two of them
abbrev pub EmittedOnce : List Statement → Type 0
EmittedOnce statements =
    (e i j : ℕ) (d : Statement) → i < j → j < length statements → Emits e (get_or statements i d) → Emits e (get_or statements j d) → ⊥

-- the statement s stands in one of these blocks
pub record InBlock (blocks : List BlockRange) (s : ℕ) : Type 0 where
  pub block : ℕ
  pub there : block < length blocks
  pub from : (d : BlockRange) → (get_or blocks block d).first ≤ s
  pub to : (d : BlockRange) → s < (get_or blocks block d).first + (get_or blocks block d).count

pub record ExpressionValid (types globals arguments locals e : ℕ) (x : Typed) : Type 0 where
  pub type : x.type < types
  pub operands : OperandsBelow e x.expression
  pub names : NamesBelow globals arguments locals x.expression
  pub components : ComponentsWithin x.expression

pub record StatementValid (expressions : ℕ) (entries : List Bool) (x : Statement) : Type 0 where
  pub uses : UsesBelow expressions entries x
  pub arguments : ArgumentsWithin x

-- what a function has, but its blocks
pub record PartsValid (types globals : ℕ) (entries : List Bool) (arguments : List FunctionArg) (locals : List ℕ) (expressions : List Typed) (statements : List Statement) : Type 0 where
  pub each_argument : All (λ i x. (x.type < types) × MaybeBelow bindings x.binding) arguments
  pub each_local : All (λ i x. x < types) locals
  pub each_expression : All (ExpressionValid types globals (length arguments) (length locals)) expressions
  pub each_statement : All (λ s. StatementValid (length expressions) entries) statements
  pub few_arguments : length arguments ≤ max_arguments
  pub few_locals : length locals ≤ max_locals
  pub few_expressions : length expressions ≤ max_expressions
  pub few_statements : length statements ≤ max_statements

-- the result's type and binding, where there is a result
abbrev pub ResultBelow : ℕ → Option FunctionResult → Type 0
ResultBelow types nothing = Unit {0}
ResultBelow types (some r) = (r.type < types) × MaybeBelow bindings r.binding

pub record FunctionValid (types globals : ℕ) (entries : List Bool) (f : Function) : Type 0 where
  pub parts : PartsValid types globals entries f.arguments f.locals f.expressions f.statements
  pub result : ResultBelow types f.result
  pub blocks : block_rule f ≡ true
  pub ranges : All (λ b x. x.first + x.count ≤ length f.statements) f.blocks
  pub emits : EmittedOnce f.statements
  pub in_blocks : (s : ℕ) → s < length f.statements → InBlock f.blocks s
  pub apart : (a b : ℕ) (d : BlockRange) → a < b → b < length f.blocks → (get_or f.blocks a d).first + (get_or f.blocks a d).count ≤ (get_or f.blocks b d).first

pub record TypeValid (n : ℕ) (x : TypeInner) : Type 0 where
  pub fine : TypeFine n x
  pub few : MembersWithin x

-- which of the functions below f are entries
abbrev pub entries_below : ℕ → List Function → List Bool
entries_below f functions = map (λ x. x.entry) (take f functions)

pub record Valid (m : Module) : Type 0 where
  pub types : All TypeValid m.types
  pub globals : All (λ g x. x < length m.types) m.globals
  pub functions : All (λ f. FunctionValid (length m.types) (length m.globals) (entries_below f m.functions)) m.functions
  pub few_types : length m.types ≤ max_types
  pub few_globals : length m.globals ≤ max_globals
  pub few_functions : length m.functions ≤ max_functions
