-- The walk of an expression, beside `add_expression`.
use Rattle.std.specs.Prelude.{ℕ, cond, List, [], ◌∷◌, set}
use Rattle.std.proofs.Math.Option.{Option, some, none as nothing}
use Rattle.std.proofs.Math.ListN.{get_elem?}
use Rattle.part.specs.PartReq.{PartReq, all, exist, none, more, Subpart, gone, there, get_subpart, add, over}
use Rattle.part.specs.Insert.{insert}
use Rattle.module.specs.Module.{ExpressionHandle, FunctionHandle, GlobalHandle, LocalHandle, Module, SampleLevel, Auto, Zero, Exact, Bias, Gradient, Expression, Literal, ZeroValue, WorkGroupUniformLoadResult, AccessIndex, Access, Constant, Splat, Swizzle, Compose, FunctionArgument, GlobalVariable, LocalVariable, Load, ImageSample, ImageLoad, ImageQuery, Unary, Binary, Select, Derivative, Relational, Math, As, CallResult, AtomicResult, ArrayLength, RayQueryProceedResult, RayQueryGetIntersection, Override, SubgroupBallotResult, SubgroupOperationResult, RayQueryVertexPositions}
use Rattle.context.specs.RequiredContext.{RequiredContext, variable}
use Rattle.context.specs.Swizzle.{Swizzled, asks, panics, swizzled}
use Rattle.module.specs.Knot.{knot}
use Rattle.walk.specs.State.{State, Place, at_expression, went, halt, Walk, ◌>>◌, with_context, with_exprs, with_globals, limited, visit}
use Rattle.walk.specs.Resolve.{expression_at}

-- One thing that an arm does: it asks a part of an operand, or of a variable, or refuses.
pub data Ask : Type 0 where
  of_operand : ExpressionHandle → PartReq → Ask
  of_argument : ℕ → PartReq → Ask
  of_global : GlobalHandle → PartReq → Ask
  of_local : LocalHandle → PartReq → Ask
  refuse : ℕ → Ask

-- all of an operand that may be absent, then the rest
unfoldable pub optional : Option ExpressionHandle → List Ask → List Ask
optional nothing rest = rest
optional (some e) rest = of_operand e all ∷ rest

unfoldable pub leveled : SampleLevel → List Ask → List Ask
leveled Auto rest = rest
leveled Zero rest = rest
leveled (Exact e) rest = of_operand e all ∷ rest
leveled (Bias e) rest = of_operand e all ∷ rest
leveled (Gradient x y) rest = of_operand x all ∷ (of_operand y all ∷ rest)

-- a part that the arm forms, of an operand: 15
unfoldable pub formed : ExpressionHandle → PartReq → List Ask
formed e p = cond (over p) (refuse 15 ∷ []) (of_operand e p ∷ [])

-- the assertion of a constant
unfoldable pub constant_asks : PartReq → List Ask
constant_asks all = []
constant_asks exist = []
constant_asks none = refuse 13 ∷ []
constant_asks (more i p r) = refuse 13 ∷ []

unfoldable pub swizzle_asks : ExpressionHandle → Swizzled → List Ask
swizzle_asks vector (asks p) = formed vector p
swizzle_asks vector panics = refuse 13 ∷ []

unfoldable pub all_of_each : List ExpressionHandle → List Ask
all_of_each [] = []
all_of_each (c ∷ cs) = of_operand c all ∷ all_of_each cs

-- p of the component, where there is one
unfoldable pub component_ask : Option ExpressionHandle → PartReq → Ask
component_ask nothing p = refuse 13
component_ask (some c) p = of_operand c p

-- each entry's component in turn
unfoldable pub entry_asks : List ExpressionHandle → PartReq → List Ask
entry_asks components all = []
entry_asks components exist = []
entry_asks components none = []
entry_asks components (more i p r) = component_ask (get_elem? components i) p ∷ entry_asks components r

unfoldable pub compose_asks : List ExpressionHandle → PartReq → List Ask
compose_asks components all = all_of_each components
compose_asks components exist = []
compose_asks components none = []
compose_asks components (more i p r) = entry_asks components (more i p r)

-- What each arm asks, in order, where p is asked of the expression.
unfoldable pub arm_asks : Expression → PartReq → List Ask
arm_asks Literal p = []
arm_asks ZeroValue p = []
arm_asks WorkGroupUniformLoadResult p = []
arm_asks (AccessIndex base index) p = formed base (more index p none)
arm_asks (Access base index) p = of_operand base all ∷ (of_operand index all ∷ [])
arm_asks Constant p = constant_asks p
arm_asks (Splat value) p = of_operand value all ∷ []
arm_asks (Swizzle vector pattern) p = swizzle_asks vector (swizzled pattern p)
arm_asks (Compose components) p = compose_asks components p
arm_asks (FunctionArgument index) p = of_argument index p ∷ []
arm_asks (GlobalVariable gv) p = of_global gv p ∷ []
arm_asks (LocalVariable lv) p = of_local lv p ∷ []
arm_asks (Load pointer) p = of_operand pointer p ∷ []
arm_asks (ImageSample image sampler coordinate array_index level depth_ref) p =
    of_operand image all ∷ (of_operand sampler all ∷ (of_operand coordinate all ∷ optional array_index (leveled level (optional depth_ref []))))
arm_asks (ImageLoad image coordinate array_index sample level) p =
    of_operand image all ∷ (of_operand coordinate all ∷ optional array_index (optional sample (optional level [])))
arm_asks (ImageQuery image level) p = of_operand image all ∷ optional level []
arm_asks (Unary expr) p = of_operand expr p ∷ []
arm_asks (Binary left right) p = of_operand left p ∷ (of_operand right p ∷ [])
arm_asks (Select condition accept reject) p = of_operand condition all ∷ (of_operand accept p ∷ (of_operand reject p ∷ []))
arm_asks (Derivative expr) p = of_operand expr all ∷ []
arm_asks (Relational argument) p = of_operand argument all ∷ []
arm_asks (Math arg arg1 arg2 arg3) p = of_operand arg all ∷ optional arg1 (optional arg2 (optional arg3 []))
arm_asks (As expr) p = of_operand expr p ∷ []
arm_asks CallResult p = []
arm_asks AtomicResult p = []
arm_asks (ArrayLength array) p = of_operand array exist ∷ []
arm_asks RayQueryProceedResult p = []
arm_asks (RayQueryGetIntersection query) p = of_operand query all ∷ []
arm_asks Override p = []
arm_asks SubgroupBallotResult p = []
arm_asks SubgroupOperationResult p = []
arm_asks RayQueryVertexPositions p = refuse 13 ∷ []

-- a map with p joined to the entry of the variable n
abbrev pub joined : PartReq → ℕ → PartReq → PartReq
joined q n p = add q (more (variable n) p none)

-- contexts with one of their maps changed
abbrev pub with_args : PartReq → RequiredContext → RequiredContext
with_args args c = record { globals = c.globals; locals = c.locals; args = args; retval = c.retval }

abbrev pub with_locals : PartReq → RequiredContext → RequiredContext
with_locals locals c = record { globals = c.globals; locals = locals; args = c.args; retval = c.retval }

abbrev pub with_global_entries : PartReq → RequiredContext → RequiredContext
with_global_entries globals c = record { globals = globals; locals = c.locals; args = c.args; retval = c.retval }

unfoldable pub ask_argument : Place → ℕ → PartReq → Walk (Unit {0})
ask_argument here index p st =
    let args = joined st.context.args index p in
    limited here args (with_context (with_args args st.context) st)

-- The first visit of a global, of all that the pruner has seen, replaces the context's entry; later ones join only the total.
unfoldable pub ask_global : Place → GlobalHandle → PartReq → Subpart → Walk (Unit {0})
ask_global here gv p gone st =
    let globals = insert st.context.globals (variable gv) p in
    went (with_context (with_global_entries globals st.context) (with_globals (insert st.globals (variable gv) p) st)) tt
ask_global here gv p (there current) st =
    let globals = joined st.globals gv p in
    limited here globals (with_globals globals st)

unfoldable pub ask_local : Place → LocalHandle → PartReq → Walk (Unit {0})
ask_local here lv p st =
    let locals = joined st.context.locals lv p in
    limited here locals (with_context (with_locals locals st.context) st)

-- with w the walk of an operand
unfoldable pub add_ask : (ExpressionHandle → PartReq → Walk (Unit {0})) → Place → Ask → Walk (Unit {0})
add_ask w here (of_operand e p) st = w e p st
add_ask w here (of_argument index p) st = ask_argument here index p st
add_ask w here (of_global gv p) st = ask_global here gv p (get_subpart st.globals (variable gv)) st
add_ask w here (of_local lv p) st = ask_local here lv p st
add_ask w here (refuse n) st = halt n here

unfoldable pub add_asks : (ExpressionHandle → PartReq → Walk (Unit {0})) → Place → List Ask → Walk (Unit {0})
add_asks w here [] st = went st tt
add_asks w here (a ∷ rest) st = add_ask w here a st >> add_asks w here rest

-- the record of e: its last part
abbrev pub recorded : ExpressionHandle → PartReq → State → State
recorded e p st = with_exprs (set st.exprs e (some p)) st

unfoldable pub step_expression : Module → FunctionHandle → (held : ℕ) → (ExpressionHandle → PartReq → Walk (Unit {0})) → ExpressionHandle → PartReq → Walk (Unit {0})
step_expression m f held w e p st =
    let here = at_expression f e in
    visit held here (λ begun. add_asks w here (arm_asks (expression_at m f e) p) begun >> λ ended. went (recorded e p ended) tt) st

-- an operand that is not below its expression: no module that was read has one
abbrev pub no_operand : PartReq → Walk (Unit {0})
no_operand p st = halt 5 Place.nowhere

-- `add_expression`
unfoldable pub add_expression : Module → FunctionHandle → (held : ℕ) → ExpressionHandle → PartReq → Walk (Unit {0})
add_expression m f held = knot (step_expression m f held) no_operand
