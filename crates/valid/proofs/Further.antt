-- What is below a bound is below a greater one: what has been found of a function's expressions and statements stays true while
-- more is read.
use mathlib.Core.Bool.{Bool}
use mathlib.Core.List.{List}
use mathlib.Core.Option.{Option, some, none as nothing}
use Prim.Native.Nat.{ℕ, ◌<◌, ◌≤◌}
use native.Mathlib.Omega.{arith}
use Rattle.module.specs.Module.{GatherMode, BroadcastFirst, Broadcast, Expression, Literal, ZeroValue, WorkGroupUniformLoadResult, AccessIndex, Access, Constant, Splat, Swizzle, Compose, FunctionArgument, GlobalVariable, LocalVariable, Load, ImageSample, ImageLoad, ImageQuery, Unary, Binary, Select, Derivative, Relational, Math, As, CallResult, AtomicResult, ArrayLength, RayQueryProceedResult, RayQueryGetIntersection, Override, SubgroupBallotResult, SubgroupOperationResult, RayQueryVertexPositions, Statement, Emit, Block, If, Switch, Loop, Break, Continue, Return, Kill, ControlBarrier, MemoryBarrier, ImageAtomic, Store, AtomicStatement, Call, ImageStore, RayQuery, WorkGroupUniformLoad, SubgroupBallot, SubgroupGather, SubgroupCollectiveOperation}
use Rattle.valid.specs.Valid.{MaybeBelow, ModeBelow, NamesBelow, UsesBelow}

pub further : {x m n : ℕ} → x < m → m ≤ n → x < n
further h l = omega arith

maybe_further : {m n : ℕ} (o : Option ℕ) → MaybeBelow m o → m ≤ n → MaybeBelow n o
maybe_further nothing h l = tt
maybe_further (some x) h l = further h l

mode_further : {m n : ℕ} (g : GatherMode) → ModeBelow m g → m ≤ n → ModeBelow n g
mode_further BroadcastFirst h l = tt
mode_further (Broadcast x) h l = further h l

pub names_further : (x : Expression) {g g' a a' l l' : ℕ} → g ≤ g' → a ≤ a' → l ≤ l' → NamesBelow g a l x → NamesBelow g' a' l' x
names_further Literal p q r h = tt
names_further ZeroValue p q r h = tt
names_further WorkGroupUniformLoadResult p q r h = tt
names_further (AccessIndex base index) p q r h = tt
names_further (Access base index) p q r h = tt
names_further Constant p q r h = tt
names_further (Splat value) p q r h = tt
names_further (Swizzle vector pattern) p q r h = tt
names_further (Compose components) p q r h = tt
names_further (FunctionArgument index) p q r h = further h q
names_further (GlobalVariable g) p q r h = further h p
names_further (LocalVariable l) p q r h = further h r
names_further (Load pointer) p q r h = tt
names_further (ImageSample image sampler coordinate array_index level depth_ref) p q r h = tt
names_further (ImageLoad image coordinate array_index sample level) p q r h = tt
names_further (ImageQuery image level) p q r h = tt
names_further (Unary expr) p q r h = tt
names_further (Binary left right) p q r h = tt
names_further (Select condition accept reject) p q r h = tt
names_further (Derivative expr) p q r h = tt
names_further (Relational argument) p q r h = tt
names_further (Math arg arg1 arg2 arg3) p q r h = tt
names_further (As expr) p q r h = tt
names_further CallResult p q r h = tt
names_further AtomicResult p q r h = tt
names_further (ArrayLength array) p q r h = tt
names_further RayQueryProceedResult p q r h = tt
names_further (RayQueryGetIntersection query) p q r h = tt
names_further Override p q r h = tt
names_further SubgroupBallotResult p q r h = tt
names_further SubgroupOperationResult p q r h = tt
names_further RayQueryVertexPositions p q r h = tt

pub uses_further : (x : Statement) (entries : List Bool) {m n : ℕ} → m ≤ n → UsesBelow m entries x → UsesBelow n entries x
uses_further (Emit first last) entries l h = (h.0, further h.1 l)
uses_further (Block b) entries l h = tt
uses_further (If condition accept reject) entries l h = further h l
uses_further (Switch selector cases) entries l h = (further h.0 l, h.1)
uses_further (Loop body continuing break_if) entries l h = maybe_further break_if h l
uses_further Break entries l h = tt
uses_further Continue entries l h = tt
uses_further (Return value) entries l h = maybe_further value h l
uses_further Kill entries l h = tt
uses_further ControlBarrier entries l h = tt
uses_further MemoryBarrier entries l h = tt
uses_further ImageAtomic entries l h = tt
uses_further (Store pointer value) entries l h = (further h.0 l, further h.1 l)
uses_further (AtomicStatement pointer value result) entries l h = (further h.0 l, further h.1 l, maybe_further result h.2 l)
uses_further (Call g arguments result) entries l h = (h.0, λ i k. further (h.1 i k) l, maybe_further result h.2 l)
uses_further (ImageStore image coordinate array_index value) entries l h = (further h.0 l, further h.1 l, maybe_further array_index h.2 l, further h.3 l)
uses_further (RayQuery query) entries l h = further h l
uses_further (WorkGroupUniformLoad pointer result) entries l h = (further h.0 l, further h.1 l)
uses_further (SubgroupBallot result predicate) entries l h = (further h.0 l, maybe_further predicate h.1 l)
uses_further (SubgroupGather mode argument result) entries l h = (mode_further mode h.0 l, further h.1 l, further h.2 l)
uses_further (SubgroupCollectiveOperation argument result) entries l h = (further h.0 l, further h.1 l)
