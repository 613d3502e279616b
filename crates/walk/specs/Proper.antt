-- What is true of every state that a walk reaches from a fresh pruner: parts are maps within the limits, and lists have the module's lengths.
use Rattle.std.specs.Prelude.{◌≡◌, false, List, [], ◌∷◌, ℕ, suc, ◌<◌, ◌≤◌, length, get_or}
use Rattle.std.proofs.Math.Option.{Option, some, none as nothing}
use Rattle.field.specs.Limits.{absent, max_visits}
use Rattle.part.specs.PartReq.{PartReq, all, exist, none, more, over, spine}
use Rattle.part.specs.Ascending.{Ascending}
use Rattle.part.specs.Limited.{Plain}
use Rattle.module.specs.Module.{ExpressionHandle, FunctionHandle, TypeHandle, Opaque, Module, AccessIndex, Swizzle, FunctionArgument, GlobalVariable, LocalVariable}
use Rattle.context.specs.RequiredContext.{RequiredContext, variable}
use Rattle.context.specs.Remove.{type_to_parts}
use Rattle.walk.specs.State.{Records, FunctionReq, State}
use Rattle.walk.specs.Resolve.{function_at, expression_at}
use Rattle.walk.specs.Marks.{stretch}
use Rattle.request.specs.Request.{Request}
use Rattle.walk.specs.Requests.{Pruner}

-- What a walk takes from the reading of a module: its numbers name what is there, and indexes are a file's.
pub record Sound (m : Module) : Type 0 where
  pub index : (f : FunctionHandle) (e base : ExpressionHandle) (i : ℕ) → expression_at m f e ≡ AccessIndex base i → i < absent
  pub letter : (f : FunctionHandle) (e vector : ExpressionHandle) (pattern : List ℕ) (k : ℕ) → expression_at m f e ≡ Swizzle vector pattern → get_or pattern k 0 < absent
  pub argument : (f : FunctionHandle) (e : ExpressionHandle) (i : ℕ) → expression_at m f e ≡ FunctionArgument i → i < length (function_at m f).arguments
  pub global : (f : FunctionHandle) (e : ExpressionHandle) (g : ℕ) → expression_at m f e ≡ GlobalVariable g → g < length m.globals
  pub local : (f : FunctionHandle) (e : ExpressionHandle) (l : ℕ) → expression_at m f e ≡ LocalVariable l → l < length (function_at m f).locals
  pub parts : (t : TypeHandle) → Plain (type_to_parts (get_or m.types t Opaque))

-- a part as files have it, within the limits
pub record Fine (p : PartReq) : Type 0 where
  pub ascends : Ascending p
  pub plain : Plain p
  pub within : over p ≡ false

-- entries of variables from the index k on, of n variables, each with a fine part
abbrev pub VariablesFrom : (n k : ℕ) → PartReq → Type 0
VariablesFrom n k all = ⊥
VariablesFrom n k exist = ⊥
VariablesFrom n k none = Unit {0}
VariablesFrom n k (more i p r) = (k ≤ i) × (i < variable n) × Fine p × VariablesFrom n (suc i) r

abbrev pub Variables : ℕ → PartReq → Type 0
Variables n q = VariablesFrom n spine q

pub record FineContext (m : Module) (f : FunctionHandle) (c : RequiredContext) : Type 0 where
  pub globals : Variables (length m.globals) c.globals
  pub locals : Variables (length (function_at m f).locals) c.locals
  pub args : Variables (length (function_at m f).arguments) c.args
  pub retval : Variables 1 c.retval

abbrev pub FineRecord : Option PartReq → Type 0
FineRecord nothing = Unit {0}
FineRecord (some p) = Fine p

abbrev pub EachRecord : Records → Type 0
EachRecord [] = Unit {0}
EachRecord (o ∷ es) = FineRecord o × EachRecord es

pub record FineRecords (m : Module) (f : FunctionHandle) (es : Records) : Type 0 where
  pub long : length es ≡ length (function_at m f).expressions
  pub each : EachRecord es

abbrev pub EachMark : List ℕ → Type 0
EachMark [] = Unit {0}
EachMark (b ∷ bs) = (b ≤ 1) × EachMark bs

pub record FineMarks (m : Module) (f : FunctionHandle) (ms : List ℕ) : Type 0 where
  pub long : length ms ≡ stretch m f
  pub each : EachMark ms

pub record FineFunction (m : Module) (f : FunctionHandle) (total : FunctionReq) : Type 0 where
  pub marks : FineMarks m f total.marks
  pub context : FineContext m f total.context
  pub exprs : FineRecords m f total.exprs

pub record FineTotals (m : Module) (fs : List (Option FunctionReq)) : Type 0 where
  pub long : length fs ≡ length m.functions
  pub each : (f : FunctionHandle) (total : FunctionReq) → get_or fs f nothing ≡ some total → FineFunction m f total

-- the visits of a request, from the count v on
pub record FineVisits (v n : ℕ) : Type 0 where
  pub more : v ≤ n
  pub few : n ≤ max_visits

-- a state in which the function f is open, with at least v visits
pub record ProperState (m : Module) (v : ℕ) (f : FunctionHandle) (st : State) : Type 0 where
  pub context : FineContext m f st.context
  pub exprs : FineRecords m f st.exprs
  pub marks : FineMarks m f st.marks
  pub globals : Variables (length m.globals) st.globals
  pub functions : FineTotals m st.functions
  pub visits : FineVisits v st.visits

-- totals as requests over one pruner leave them
pub record FinePruner (m : Module) (pruner : Pruner) : Type 0 where
  pub globals : Variables (length m.globals) pruner.globals
  pub functions : FineTotals m pruner.functions

-- a request as reading leaves it
pub record FineRequest (m : Module) (q : Request) : Type 0 where
  pub retval : FineRecord q.retval
  pub globals : Variables (length m.globals) q.globals

abbrev pub EachRequest : Module → List Request → Type 0
EachRequest m [] = Unit {0}
EachRequest m (q ∷ qs) = FineRequest m q × EachRequest m qs
