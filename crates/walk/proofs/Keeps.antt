-- What every walk keeps: a property of each piece of the state that single changes keep is kept by the walk of any expression. By one pass over
-- the definition, arm by arm, and induction on the number of the expression.
use mathlib.Core.Path.{◌≡◌, refl}
use mathlib.Core.Bool.{Bool, true, false, cond}
use mathlib.Core.List.{List, [], ◌∷◌}
use mathlib.Core.Option.{Option, some, none as nothing}
use Prim.Native.Nat.{ℕ, suc, ◌<◌}
use lib.ListN.{length, get_or, set, replicate, get_elem?}
use Rattle.field.specs.Limits.{max_visits}
use Rattle.part.specs.PartReq.{PartReq, all, exist, none, more, Subpart, gone, there, get_subpart, over}
use Rattle.part.specs.Insert.{insert}
use Rattle.module.specs.Module.{ExpressionHandle, FunctionHandle, Module, SampleLevel, Auto, Zero, Exact, Bias, Gradient, Expression, Literal, ZeroValue, WorkGroupUniformLoadResult, AccessIndex, Access, Constant, Splat, Swizzle, Compose, FunctionArgument, GlobalVariable, LocalVariable, Load, ImageSample, ImageLoad, ImageQuery, Unary, Binary, Select, Derivative, Relational, Math, As, CallResult, AtomicResult, ArrayLength, RayQueryProceedResult, RayQueryGetIntersection, Override, SubgroupBallotResult, SubgroupOperationResult, RayQueryVertexPositions}
use Rattle.context.specs.RequiredContext.{RequiredContext, merge_context, variable, over_context, VarRef, left_context, remove_var}
use Rattle.context.specs.Swizzle.{Swizzled, asks, panics, swizzled}
use Rattle.walk.specs.State.{Records, FunctionReq, State, Place, at_expression, Out, went, Walk, ◌>>◌, visited, with_context, with_globals}
use Rattle.walk.specs.Resolve.{function_at, expression_at, resolved, resolve_var, store_required}
use Rattle.walk.specs.Expression.{Ask, of_operand, of_argument, of_global, of_local, refuse, optional, leveled, formed, constant_asks, swizzle_asks, all_of_each, component_ask, entry_asks, compose_asks, arm_asks, joined, with_args, with_locals, with_global_entries, ask_argument, ask_global, ask_local, add_ask, add_asks, recorded, step_expression, no_operand, add_expression}
use Rattle.walk.specs.StatementReq.{StatementReq, own_marks}
use Rattle.walk.specs.Marks.{stretch, add_marks, write_marks}
use Rattle.walk.specs.Statement.{retval_of}
use Rattle.walk.specs.Function.{extend}
use Rattle.module.proofs.Knot.{knot-all}
use Rattle.walk.proofs.Ends.{Ends, ends, stops, Told, ends_next, ends_limited, ends_visit}

-- q of each entry of a list
abbrev pub EachEntry : (PartReq → Type 0) → PartReq → Type 0
EachEntry Q all = Unit {0}
EachEntry Q exist = Unit {0}
EachEntry Q none = Unit {0}
EachEntry Q (more i p r) = Q p × EachEntry Q r

-- q of what is needed, if anything is
abbrev pub Needs : (PartReq → Type 0) → Subpart → Type 0
Needs Q gone = Unit {0}
Needs Q (there p) = Q p

-- Properties of the parts that are asked, of a function's context, records and marks, of the totals and of the visits; and that each single change keeps them.
pub record Kept (m : Module) : Type 1 where
  pub Asked : PartReq → Type 0
  pub Context : FunctionHandle → RequiredContext → Type 0
  pub Exprs : FunctionHandle → Records → Type 0
  pub Marks : FunctionHandle → List ℕ → Type 0
  pub Globals : PartReq → Type 0
  pub Functions : List (Option FunctionReq) → Type 0
  pub Visits : ℕ → Type 0
  -- parts
  pub all_asked : Asked all
  pub exist_asked : Asked exist
  pub index_asked : (f : FunctionHandle) (e base : ExpressionHandle) (i : ℕ) (p : PartReq) → expression_at m f e ≡ AccessIndex base i → Asked p → over (more i p none) ≡ false → Asked (more i p none)
  pub swizzle_asked : (f : FunctionHandle) (e vector : ExpressionHandle) (pattern : List ℕ) (p q : PartReq) → expression_at m f e ≡ Swizzle vector pattern → Asked p → swizzled pattern p ≡ asks q → over q ≡ false → Asked q
  pub entries_asked : (p : PartReq) → Asked p → EachEntry Asked p
  -- visits and records
  pub visits_more : (n : ℕ) → Visits n → n < max_visits → Visits (suc n)
  pub exprs_set : (f : FunctionHandle) (es : Records) (e : ExpressionHandle) (p : PartReq) → Exprs f es → Asked p → Exprs f (set es e (some p))
  pub exprs_need : (f : FunctionHandle) (es : Records) (e : ExpressionHandle) (p : PartReq) → Exprs f es → get_or es e nothing ≡ some p → Asked p
  -- variables
  pub argument_joined : (f : FunctionHandle) (e : ExpressionHandle) (c : RequiredContext) (i : ℕ) (p : PartReq) → expression_at m f e ≡ FunctionArgument i → Context f c → Asked p → over (joined c.args i p) ≡ false → Context f (with_args (joined c.args i p) c)
  pub local_joined : (f : FunctionHandle) (e : ExpressionHandle) (c : RequiredContext) (l : ℕ) (p : PartReq) → expression_at m f e ≡ LocalVariable l → Context f c → Asked p → over (joined c.locals l p) ≡ false → Context f (with_locals (joined c.locals l p) c)
  pub global_put : (f : FunctionHandle) (e : ExpressionHandle) (c : RequiredContext) (g : ℕ) (p : PartReq) → expression_at m f e ≡ GlobalVariable g → Context f c → Asked p → Context f (with_global_entries (insert c.globals (variable g) p) c)
  pub total_put : (f : FunctionHandle) (e : ExpressionHandle) (gs : PartReq) (g : ℕ) (p : PartReq) → expression_at m f e ≡ GlobalVariable g → Globals gs → Asked p → Globals (insert gs (variable g) p)
  pub total_joined : (f : FunctionHandle) (e : ExpressionHandle) (gs : PartReq) (g : ℕ) (p : PartReq) → expression_at m f e ≡ GlobalVariable g → Globals gs → Asked p → over (joined gs g p) ≡ false → Globals (joined gs g p)
  -- contexts
  pub context_merged : (f : FunctionHandle) (c d : RequiredContext) → Context f c → Context f d → over_context (merge_context c d) ≡ false → Context f (merge_context c d)
  pub retval_need : (f : FunctionHandle) (c : RequiredContext) → Context f c → Needs Asked (get_subpart c.retval (variable 0))
  pub args_need : (f : FunctionHandle) (c : RequiredContext) (i : ℕ) → Context f c → Needs Asked (get_subpart c.args (variable i))
  pub store_need : (f : FunctionHandle) (c : RequiredContext) (var : VarRef) (part : PartReq) → Context f c → Needs Asked (store_required c var part)
  pub context_taken : (f : FunctionHandle) (e : ExpressionHandle) (c d : RequiredContext) (var : VarRef) (part : PartReq) → Context f c → resolve_var m f e [] ≡ resolved var part → remove_var m (function_at m f) c var part ≡ left_context d → over_context d ≡ false → Context f d
  pub context_called : (f g : FunctionHandle) (c : RequiredContext) (need : Subpart) → Context f c → Needs Asked need → Context g (record { globals = c.globals; locals = none; args = none; retval = retval_of need })
  -- marks and totals
  pub marks_written : (f : FunctionHandle) (ms : List ℕ) (from : ℕ) (r : StatementReq) → Marks f ms → Marks f (write_marks ms from (own_marks r))
  pub exprs_fresh : (f : FunctionHandle) → Exprs f (replicate (length (function_at m f).expressions) nothing)
  pub marks_fresh : (f : FunctionHandle) → Marks f (replicate (stretch m f) 0)
  pub total_kept : (fs : List (Option FunctionReq)) (f : FunctionHandle) (ms : List ℕ) (c : RequiredContext) (es : Records) → Functions fs → Marks f ms → Context f c → Exprs f es → Functions (set fs f (some (record { marks = ms; context = c; exprs = es })))
  pub total_extended : (fs : List (Option FunctionReq)) (f : FunctionHandle) (total : FunctionReq) (ms : List ℕ) (c : RequiredContext) (es : Records) → Functions fs → get_or fs f nothing ≡ some total → Marks f ms → Context f c → Exprs f es → over_context (merge_context total.context c) ≡ false → Functions (set fs f (some (record { marks = add_marks total.marks ms; context = merge_context total.context c; exprs = extend total.exprs es })))

-- the properties, of a state in which the function f is open
pub record Good {m : Module} (K : Kept m) (f : FunctionHandle) (st : State) : Type 0 where
  pub context : K.Context f st.context
  pub exprs : K.Exprs f st.exprs
  pub marks : K.Marks f st.marks
  pub globals : K.Globals st.globals
  pub functions : K.Functions st.functions
  pub visits : K.Visits st.visits

abbrev pub Goes : {m : Module} {A : Type 0} → Kept m → FunctionHandle → Out A → Type 0
Goes K f x = Ends Told (λ st a. Good K f st) x

module _ {m : Module} (K : Kept m) (f : FunctionHandle) where
  pub good_context : (c : RequiredContext) (st : State) → Good K f st → K.Context f c → Good K f (with_context c st)
  good_context c st h hc =
      record { context = hc; exprs = h.exprs; marks = h.marks; globals = h.globals; functions = h.functions; visits = h.visits }

  pub good_visited : (st : State) → Good K f st → st.visits < max_visits → Good K f (visited st)
  good_visited st h few =
      record { context = h.context; exprs = h.exprs; marks = h.marks; globals = h.globals; functions = h.functions; visits = K.visits_more st.visits h.visits few }

  good_recorded : (e : ExpressionHandle) (p : PartReq) (st : State) → Good K f st → K.Asked p → Good K f (recorded e p st)
  good_recorded e p st h q =
      record { context = h.context; exprs = K.exprs_set f st.exprs e p h.exprs q; marks = h.marks; globals = h.globals; functions = h.functions; visits = h.visits }

  -- what an arm of the expression e asks
  abbrev AskedAll : ExpressionHandle → List Ask → Type 0
  AskedAll e [] = Unit {0}
  AskedAll e (of_operand a p ∷ rest) = K.Asked p × AskedAll e rest
  AskedAll e (of_argument i p ∷ rest) = (expression_at m f e ≡ FunctionArgument i) × K.Asked p × AskedAll e rest
  AskedAll e (of_global g p ∷ rest) = (expression_at m f e ≡ GlobalVariable g) × K.Asked p × AskedAll e rest
  AskedAll e (of_local l p ∷ rest) = (expression_at m f e ≡ LocalVariable l) × K.Asked p × AskedAll e rest
  AskedAll e (refuse n ∷ rest) = Told n × AskedAll e rest

  optional-asked : (e : ExpressionHandle) (o : Option ExpressionHandle) (rest : List Ask) → AskedAll e rest → AskedAll e (optional o rest)
  unfolding optional
  optional-asked e nothing rest h = h
  optional-asked e (some a) rest h = (K.all_asked, h)

  leveled-asked : (e : ExpressionHandle) (l : SampleLevel) (rest : List Ask) → AskedAll e rest → AskedAll e (leveled l rest)
  unfolding leveled
  leveled-asked e Auto rest h = h
  leveled-asked e Zero rest h = h
  leveled-asked e (Exact a) rest h = (K.all_asked, h)
  leveled-asked e (Bias a) rest h = (K.all_asked, h)
  leveled-asked e (Gradient x y) rest h = (K.all_asked, (K.all_asked, h))

  formed-asked : (e a : ExpressionHandle) (p : PartReq) → (over p ≡ false → K.Asked p) → AskedAll e (formed a p)
  unfolding formed
  formed-asked e a p h = go (over p) refl
    where
      go : (b : Bool) → over p ≡ b → AskedAll e (cond (over p) (refuse 15 ∷ []) (of_operand a p ∷ []))
      go true o = rw o (refl, tt)
      go false o = rw o (h o, tt)

  swizzle-asks : (e vector : ExpressionHandle) (pattern : List ℕ) (p : PartReq) (s : Swizzled) → expression_at m f e ≡ Swizzle vector pattern → K.Asked p → swizzled pattern p ≡ s → AskedAll e (swizzle_asks vector s)
  unfolding swizzle_asks
  swizzle-asks e vector pattern p (asks q) is h picked = formed-asked e vector q (K.swizzle_asked f e vector pattern p q is h picked)
  swizzle-asks e vector pattern p panics is h picked = (refl, tt)

  constant-asks : (e : ExpressionHandle) (p : PartReq) → AskedAll e (constant_asks p)
  unfolding constant_asks
  constant-asks e all = tt
  constant-asks e exist = tt
  constant-asks e none = (refl, tt)
  constant-asks e (more i p r) = (refl, tt)

  each_asked : (e : ExpressionHandle) (cs : List ExpressionHandle) → AskedAll e (all_of_each cs)
  unfolding all_of_each
  each_asked e [] = tt
  each_asked e (c ∷ cs) = (K.all_asked, each_asked e cs)

  component_asked : (e : ExpressionHandle) (c : Option ExpressionHandle) (p : PartReq) (rest : List Ask) → K.Asked p → AskedAll e rest → AskedAll e (component_ask c p ∷ rest)
  unfolding component_ask
  component_asked e nothing p rest q h = (refl, h)
  component_asked e (some c) p rest q h = (q, h)

  entry-asks : (e : ExpressionHandle) (cs : List ExpressionHandle) (p : PartReq) → EachEntry K.Asked p → AskedAll e (entry_asks cs p)
  unfolding entry_asks
  entry-asks e cs all h = tt
  entry-asks e cs exist h = tt
  entry-asks e cs none h = tt
  entry-asks e cs (more i p r) h = component_asked e (get_elem? cs i) p (entry_asks cs r) h.0 (entry-asks e cs r h.1)

  compose-asks : (e : ExpressionHandle) (cs : List ExpressionHandle) (p : PartReq) → K.Asked p → AskedAll e (compose_asks cs p)
  unfolding compose_asks
  compose-asks e cs all h = each_asked e cs
  compose-asks e cs exist h = tt
  compose-asks e cs none h = tt
  compose-asks e cs (more i p r) h = entry-asks e cs (more i p r) (K.entries_asked (more i p r) h)

  -- each arm asks parts that have the property
  arm-asks : (e : ExpressionHandle) (x : Expression) (p : PartReq) → expression_at m f e ≡ x → K.Asked p → AskedAll e (arm_asks x p)
  unfolding arm_asks
  arm-asks e Literal p is h = tt
  arm-asks e ZeroValue p is h = tt
  arm-asks e WorkGroupUniformLoadResult p is h = tt
  arm-asks e (AccessIndex base index) p is h = formed-asked e base (more index p none) (K.index_asked f e base index p is h)
  arm-asks e (Access base index) p is h = (K.all_asked, (K.all_asked, tt))
  arm-asks e Constant p is h = constant-asks e p
  arm-asks e (Splat value) p is h = (K.all_asked, tt)
  arm-asks e (Swizzle vector pattern) p is h = swizzle-asks e vector pattern p (swizzled pattern p) is h refl
  arm-asks e (Compose components) p is h = compose-asks e components p h
  arm-asks e (FunctionArgument index) p is h = (is, h, tt)
  arm-asks e (GlobalVariable gv) p is h = (is, h, tt)
  arm-asks e (LocalVariable lv) p is h = (is, h, tt)
  arm-asks e (Load pointer) p is h = (h, tt)
  arm-asks e (ImageSample image sampler coordinate array_index level depth_ref) p is h =
      (K.all_asked, (K.all_asked, (K.all_asked, optional-asked e array_index (leveled level (optional depth_ref [])) (leveled-asked e level (optional depth_ref []) (optional-asked e depth_ref [] tt)))))
  arm-asks e (ImageLoad image coordinate array_index sample level) p is h =
      (K.all_asked, (K.all_asked, optional-asked e array_index (optional sample (optional level [])) (optional-asked e sample (optional level []) (optional-asked e level [] tt))))
  arm-asks e (ImageQuery image level) p is h = (K.all_asked, optional-asked e level [] tt)
  arm-asks e (Unary expr) p is h = (h, tt)
  arm-asks e (Binary left right) p is h = (h, (h, tt))
  arm-asks e (Select condition accept reject) p is h = (K.all_asked, (h, (h, tt)))
  arm-asks e (Derivative expr) p is h = (K.all_asked, tt)
  arm-asks e (Relational argument) p is h = (K.all_asked, tt)
  arm-asks e (Math arg arg1 arg2 arg3) p is h =
      (K.all_asked, optional-asked e arg1 (optional arg2 (optional arg3 [])) (optional-asked e arg2 (optional arg3 []) (optional-asked e arg3 [] tt)))
  arm-asks e (As expr) p is h = (h, tt)
  arm-asks e CallResult p is h = tt
  arm-asks e AtomicResult p is h = tt
  arm-asks e (ArrayLength array) p is h = (K.exist_asked, tt)
  arm-asks e RayQueryProceedResult p is h = tt
  arm-asks e (RayQueryGetIntersection query) p is h = (K.all_asked, tt)
  arm-asks e Override p is h = tt
  arm-asks e SubgroupBallotResult p is h = tt
  arm-asks e SubgroupOperationResult p is h = tt
  arm-asks e RayQueryVertexPositions p is h = (refl, tt)

  -- the walk of an expression, by what it is asked
  abbrev pub Walks : (PartReq → Walk (Unit {0})) → Type 0
  Walks w = (p : PartReq) (st : State) → K.Asked p → Good K f st → Goes K f (w p st)

  argument_goes : (e : ExpressionHandle) (here : Place) (i : ℕ) (p : PartReq) (st : State) → expression_at m f e ≡ FunctionArgument i → K.Asked p → Good K f st → Goes K f (ask_argument here i p st)
  unfolding ask_argument
  argument_goes e here i p st is q h =
      let args = joined st.context.args i p in
      ends_limited here args (with_context (with_args args st.context) st)
      (λ o. good_context (with_args args st.context) st h (K.argument_joined f e st.context i p is h.context q o))

  local_goes : (e : ExpressionHandle) (here : Place) (l : ℕ) (p : PartReq) (st : State) → expression_at m f e ≡ LocalVariable l → K.Asked p → Good K f st → Goes K f (ask_local here l p st)
  unfolding ask_local
  local_goes e here l p st is q h =
      let locals = joined st.context.locals l p in
      ends_limited here locals (with_context (with_locals locals st.context) st)
      (λ o. good_context (with_locals locals st.context) st h (K.local_joined f e st.context l p is h.context q o))

  global_goes : (e : ExpressionHandle) (here : Place) (g : ℕ) (p : PartReq) (seen : Subpart) (st : State) → expression_at m f e ≡ GlobalVariable g → K.Asked p → Good K f st → Goes K f (ask_global here g p seen st)
  unfolding ask_global
  global_goes e here g p gone st is q h =
      ends (record {
        context = K.global_put f e st.context g p is h.context q;
        exprs = h.exprs;
        marks = h.marks;
        globals = K.total_put f e st.globals g p is h.globals q;
        functions = h.functions;
        visits = h.visits;
      })
  global_goes e here g p (there current) st is q h =
      let globals = joined st.globals g p in
      ends_limited here globals (with_globals globals st)
      (λ o. record {
        context = h.context;
        exprs = h.exprs;
        marks = h.marks;
        globals = K.total_joined f e st.globals g p is h.globals q o;
        functions = h.functions;
        visits = h.visits;
      })

  asks_go : (w : ExpressionHandle → PartReq → Walk (Unit {0})) (e : ExpressionHandle) (here : Place) → ((a : ExpressionHandle) → Walks (w a)) → (as₁ : List Ask) (st : State) → AskedAll e as₁ → Good K f st → Goes K f (add_asks w here as₁ st)
  unfolding add_asks add_ask
  asks_go w e here hw [] st q h = ends h
  asks_go w e here hw (of_operand a p ∷ rest) st q h =
      ends_next (add_asks w here rest) (hw a p st q.0 h) (λ left good. asks_go w e here hw rest left q.1 good)
  asks_go w e here hw (of_argument i p ∷ rest) st q h =
      ends_next (add_asks w here rest) (argument_goes e here i p st q.0 q.1 h) (λ left good. asks_go w e here hw rest left q.2 good)
  asks_go w e here hw (of_global g p ∷ rest) st q h =
      ends_next (add_asks w here rest) (global_goes e here g p (get_subpart st.globals (variable g)) st q.0 q.1 h)
      (λ left good. asks_go w e here hw rest left q.2 good)
  asks_go w e here hw (of_local l p ∷ rest) st q h =
      ends_next (add_asks w here rest) (local_goes e here l p st q.0 q.1 h) (λ left good. asks_go w e here hw rest left q.2 good)
  asks_go w e here hw (refuse n ∷ rest) st q h = stops q.0

  step_goes : (held : ℕ) (w : ExpressionHandle → PartReq → Walk (Unit {0})) (e : ExpressionHandle) → ((a : ExpressionHandle) → Walks (w a)) → Walks (step_expression m f held w e)
  unfolding step_expression
  step_goes held w e hw p st q h =
      let here = at_expression f e in
      let asked = arm_asks (expression_at m f e) p in
      ends_visit (λ n t. t) held here (λ begun. add_asks w here asked begun >> λ ended. went (recorded e p ended) tt) st
      (λ few.
      ends_next (λ ended. went (recorded e p ended) tt)
      (asks_go w e here hw asked (visited st) (arm-asks e (expression_at m f e) p refl q) (good_visited st h few))
      (λ ended good. ends (good_recorded e p ended good q)))
      (λ left a good few. good)

  -- the walk of an expression keeps what single changes keep
  pub expression_keeps : (held : ℕ) (e : ExpressionHandle) → Walks (add_expression m f held e)
  unfolding add_expression
  expression_keeps held e = knot-all (λ a w. Walks w) (step_expression m f held) no_operand (λ a p st q h. stops refl) (step_goes held) e
