-- The walk of a statement and of a block, beside `add_statement` and `add_block`.
use Rattle.std.specs.Prelude.{ℕ, zero, suc, ◌+◌, ◌-◌, Bool, true, false, ◌||◌, List, [], ◌∷◌, length, get_or}
use Rattle.std.proofs.Math.Option.{Option, some, none as nothing}
use Rattle.field.specs.Limits.{max_turns}
use Rattle.part.specs.PartReq.{PartReq, all, exist, none, more, Subpart, gone, there, get_subpart}
use Rattle.module.specs.Module.{ExpressionHandle, FunctionHandle, BlockHandle, Module, GatherMode, BroadcastFirst, Broadcast, SwitchCase, Statement, Emit, Block, If, Switch, Loop, Break, Continue, Return, Kill, ControlBarrier, MemoryBarrier, ImageAtomic, Store, AtomicStatement, Call, ImageStore, RayQuery, WorkGroupUniformLoad, SubgroupBallot, SubgroupGather, SubgroupCollectiveOperation}
use Rattle.context.specs.RequiredContext.{RequiredContext, merge_context, contains_context, pieces, variable, VarRef, RemovedContext, left_context, panic_context, refusal_context, remove_var}
use Rattle.module.specs.Knot.{knot}
use Rattle.walk.specs.State.{Records, State, Place, at_statement, nowhere, went, halt, Walk, ◌>>=◌, ◌>>◌, with_context, with_marks, record_pieces, limited, limited_context, visit}
use Rattle.walk.specs.Resolve.{VarRefPart, resolved, unresolved, refusal, resolve_var, store_required, function_at, is_there}
use Rattle.walk.specs.Expression.{add_expression}
use Rattle.walk.specs.StatementReq.{StatementReq, required, own_marks}
use Rattle.module.specs.Marks.{marks_before}
use Rattle.walk.specs.Marks.{write_marks, statement_at, block_at}

-- The walk of a block of the open function: what frames outside hold, `base_context`, `break_required`. It leaves the block's context as the current
-- one, and answers `is_required`.
abbrev pub BlockWalk : Type 0
BlockWalk = BlockHandle → (held : ℕ) → (base : RequiredContext) → (break_required : Bool) → Walk Bool

-- The walk of a called function: where it is called, what frames outside hold, and what is asked of the globals and of the return value. It leaves the called
-- function's context and records as the current ones, and answers whether it is required.
abbrev pub FunctionWalk : Type 0
FunctionWalk = FunctionHandle → Place → (held : ℕ) → (globals retval : PartReq) → Walk Bool

-- Where a statement stands: its function and number; what frames hold beside the current context of the block that it is in; `break_context`, the base of
-- that block; and `break_required`.
pub record Frame : Type 0 where
  pub function : FunctionHandle
  pub statement : ℕ
  pub held : ℕ
  pub base : RequiredContext
  pub break_required : Bool

abbrev pub here : Frame → Place
here fr = at_statement fr.function fr.statement

-- the same place, where n pieces more are held
abbrev pub holding : ℕ → Frame → Frame
holding n fr =
    record { function = fr.function; statement = fr.statement; held = fr.held + n; base = fr.base; break_required = fr.break_required }

-- p of an expression
abbrev pub ask : Module → Frame → ExpressionHandle → PartReq → Walk (Unit {0})
ask m fr e p = add_expression m fr.function fr.held e p

-- p of an expression that may be absent
unfoldable pub ask_optional : Module → Frame → Option ExpressionHandle → PartReq → Walk (Unit {0})
ask_optional m fr nothing p st = went st tt
ask_optional m fr (some e) p st = ask m fr e p st

-- what is needed of an expression, if anything is
unfoldable pub ask_needed : Module → Frame → ExpressionHandle → Subpart → Walk (Unit {0})
ask_needed m fr e gone st = went st tt
ask_needed m fr e (there p) st = ask m fr e p st

-- an expression's record, where there is one
unfoldable pub need_of : Option PartReq → Subpart
need_of nothing = gone
need_of (some p) = there p

abbrev pub record_at : Records → ExpressionHandle → Subpart
record_at exprs e = need_of (get_or exprs e nothing)

-- the record of a result, which may be absent
unfoldable pub record_of : Records → Option ExpressionHandle → Subpart
record_of exprs nothing = gone
record_of exprs (some result) = record_at exprs result

unfoldable pub ask_result : Module → Frame → Option ExpressionHandle → Subpart → Walk (Unit {0})
ask_result m fr nothing p st = went st tt
ask_result m fr (some result) p st = ask_needed m fr result p st

-- which of n expressions from `first` on have a record
unfoldable pub are_recorded : Records → (first n : ℕ) → List Bool
are_recorded exprs first zero = []
are_recorded exprs first (suc n) = is_there (record_at exprs first) ∷ are_recorded exprs (suc first) n

-- the join of two contexts: 15
unfoldable pub merged : Frame → RequiredContext → RequiredContext → Walk (Unit {0})
merged fr c d st = let joined = merge_context c d in limited_context (here fr) joined (with_context joined st)

-- `Block`
unfoldable pub add_nested : BlockWalk → Frame → BlockHandle → Walk StatementReq
add_nested block fr b st =
    block b (fr.held + pieces st.context) st.context fr.break_required st >>= λ ended is_required.
    went ended (StatementReq.BlockStmt is_required)

-- `If`, once its blocks are walked: whether it is required
unfoldable pub end_if : Module → Frame → ExpressionHandle → (before accepted : RequiredContext) → Bool → Walk StatementReq
end_if m fr condition before accepted true rejected =
    merged fr accepted rejected.context rejected >> ask m fr condition all >> λ left. went left (StatementReq.If true)
end_if m fr condition before accepted false rejected = went (with_context before rejected) (StatementReq.If false)

-- `If`. While `reject` is walked, `accept`'s context is held.
unfoldable pub add_if : Module → BlockWalk → Frame → ExpressionHandle → (accept reject : BlockHandle) → Walk StatementReq
add_if m block fr condition accept reject st =
    let outside = fr.held + pieces st.context in
    block accept outside st.context fr.break_required st >>= λ accepted accept_required.
    block reject (outside + pieces accepted.context) st.context fr.break_required accepted >>= λ rejected reject_required.
    end_if m fr condition st.context accepted.context (accept_required || reject_required) rejected

-- The first n cases of a switch, the last first, each from the context `outer`; the current context is `input_context`, joined so far and held, and the
-- answer is `any_req`.
unfoldable pub add_cases : BlockWalk → Frame → RequiredContext → List SwitchCase → (n : ℕ) → Bool → Walk Bool
add_cases block fr outer cases zero any st = went st any
add_cases block fr outer cases (suc n) any st =
    block (get_or cases n (record { value = 0; body = 0 })).body (fr.held + pieces outer + pieces st.context) outer false st >>= λ walked is_required.
    merged fr st.context walked.context walked >> add_cases block fr outer cases n (any || is_required)

-- `Switch`, once its cases are walked. What the selector needs goes into the context that is then overwritten.
unfoldable pub end_switch : Module → Frame → ExpressionHandle → (before : RequiredContext) → Bool → Walk StatementReq
end_switch m fr selector before true walked =
    ask m fr selector all (with_context before walked) >> λ asked.
    went (with_context walked.context asked) (StatementReq.Switch true)
end_switch m fr selector before false walked = went (with_context before walked) (StatementReq.Switch false)

-- `Switch`
unfoldable pub add_switch : Module → BlockWalk → Frame → ExpressionHandle → List SwitchCase → Walk StatementReq
add_switch m block fr selector cases st =
    add_cases block fr st.context cases (length cases) false st >>= λ walked any. end_switch m fr selector st.context any walked

-- a turn's end: whether the working context contains what the turn has joined
unfoldable pub end_turn : RequiredContext → (again : Walk StatementReq) → Bool → Walk StatementReq
end_turn working again true st = went (with_context working st) (StatementReq.Loop true)
end_turn working again false st = again st

-- The turns of a loop, at most n more, each from the working context, which no turn changes. `held` has the working context too.
unfoldable pub turns : BlockWalk → Frame → (held : ℕ) → (body continuing : BlockHandle) → RequiredContext → (n : ℕ) → Walk StatementReq
turns block fr held body continuing working zero st = halt 14 (here fr)
turns block fr held body continuing working (suc n) st =
    let again = turns block fr held body continuing working n in
    block body held working true st >>= λ walked body_required.
    block continuing (held + pieces walked.context) working true walked >>= λ continued continuing_required.
    merged fr walked.context continued.context continued >> λ joined.
    end_turn working again (contains_context working joined.context) joined

-- from the joined context on: it is the working context
unfoldable pub start_turns : BlockWalk → Frame → (asked : ℕ) → (body continuing : BlockHandle) → Walk StatementReq
start_turns block fr asked body continuing st =
    turns block fr (fr.held + asked + pieces st.context) body continuing st.context max_turns st

-- `Loop`, once its first pass has walked body and continuing. What `break_if` needs goes into a context that is then overwritten.
unfoldable pub end_loop : Module → BlockWalk → Frame → (body continuing : BlockHandle) → Option ExpressionHandle → (before walked : RequiredContext) → Bool → Walk StatementReq
end_loop m block fr body continuing break_if before walked true st =
    ask_optional m (holding (pieces walked + pieces st.context) fr) break_if all (with_context before st) >> λ asked.
    merged fr walked st.context asked >> start_turns block fr (pieces asked.context) body continuing
end_loop m block fr body continuing break_if before walked false st = went (with_context before st) (StatementReq.Loop false)

-- `Loop`: the first pass
unfoldable pub add_loop : Module → BlockWalk → Frame → (body continuing : BlockHandle) → Option ExpressionHandle → Walk StatementReq
add_loop m block fr body continuing break_if st =
    let outside = fr.held + pieces st.context in
    block body outside st.context false st >>= λ walked body_required.
    block continuing (outside + pieces walked.context) st.context false walked >>= λ continued continuing_required.
    end_loop m block fr body continuing break_if st.context walked.context (body_required || continuing_required) continued

-- `Return`: p is what is asked of the returned value
unfoldable pub add_return : Module → Frame → Option ExpressionHandle → Subpart → Walk StatementReq
add_return m fr nothing p st = went (with_context fr.base st) (StatementReq.Return fr.break_required)
add_return m fr (some value) gone st = went (with_context fr.base st) (StatementReq.Return fr.break_required)
add_return m fr (some value) (there p) st = ask m fr value p st >> λ left. went left (StatementReq.Return true)

-- A store's target: the variable, its part, and what is needed of that. 13 at a pointer that names no variable, 15 at a path that is too long.
pub record Target : Type 0 where
  pub var : VarRef
  pub part : PartReq
  pub needed : Subpart

unfoldable pub target_of : Frame → VarRefPart → Walk Target
target_of fr unresolved st = halt (refusal unresolved) (here fr)
target_of fr (resolved var part) st =
    limited (here fr) part st >> λ left. went left (record { var = var; part = part; needed = store_required left.context var part })

abbrev pub target : Module → Frame → ExpressionHandle → Walk Target
target m fr e st = target_of fr (resolve_var m fr.function e []) st

-- the target's part taken out of the context: 13, 15
unfoldable pub taken_out : Frame → RemovedContext → Walk (Unit {0})
taken_out fr panic_context st = halt (refusal_context panic_context) (here fr)
taken_out fr (left_context c) st = limited_context (here fr) c (with_context c st)

-- a store into a target of which p is needed, if anything is; `accessors` is what is asked beside pointer and value
unfoldable pub add_store : Module → Frame → (pointer : ExpressionHandle) → Walk (Unit {0}) → (value : ExpressionHandle) → VarRef → PartReq → Subpart → Walk Bool
add_store m fr pointer accessors value var part gone st = went st false
add_store m fr pointer accessors value var part (there p) st =
    taken_out fr (remove_var m (function_at m fr.function) st.context var part) st >> ask m fr pointer exist >> accessors >> ask m fr value p >> λ left.
    went left true

abbrev pub store : Module → Frame → (pointer : ExpressionHandle) → Walk (Unit {0}) → (value : ExpressionHandle) → Walk Bool
store m fr pointer accessors value st =
    target m fr pointer st >>= λ found t. add_store m fr pointer accessors value t.var t.part t.needed found

-- `Atomic`
unfoldable pub add_atomic : Module → Frame → (pointer value : ExpressionHandle) → Option ExpressionHandle → Walk StatementReq
add_atomic m fr pointer value result st =
    target m fr pointer st >>= λ found t.
    let load = record_of found.exprs result in
    ask_result m fr result load found >> ask_needed m fr value t.needed >> λ left.
    went left (StatementReq.Atomic (is_there load || is_there t.needed))

-- what a called function needs of its arguments, from argument i on
unfoldable pub ask_arguments : Module → Frame → List ExpressionHandle → (i : ℕ) → PartReq → Walk (Unit {0})
ask_arguments m fr [] i args st = went st tt
ask_arguments m fr (e ∷ es) i args st = ask_needed m fr e (get_subpart args (variable i)) st >> ask_arguments m fr es (suc i) args

-- the caller's context, records and marks, with the totals and visits that a call has left
abbrev pub back : State → State → State
back caller ended =
    record {
      context = caller.context;
      exprs = caller.exprs;
      marks = caller.marks;
      globals = ended.globals;
      functions = ended.functions;
      visits = ended.visits;
    }

-- the return value's entry in a context
unfoldable pub retval_of : Subpart → PartReq
retval_of gone = none
retval_of (there p) = more (variable 0) p none

-- `Call`, once the function is walked, with `args` what it needs of its arguments: of its context nothing else comes back
unfoldable pub end_call : Module → Frame → List ExpressionHandle → Option ExpressionHandle → (req : Subpart) → (args : PartReq) → Bool → Walk StatementReq
end_call m fr arguments result req args true st =
    ask_arguments m fr arguments 0 args st >> ask_result m fr result req >> λ left. went left (StatementReq.Call true (is_there req))
end_call m fr arguments result req args false st = went st (StatementReq.Call false false)

-- `Call`
unfoldable pub add_call : Module → FunctionWalk → Frame → FunctionHandle → List ExpressionHandle → Option ExpressionHandle → Walk StatementReq
add_call m call fr g arguments result st =
    let req = record_of st.exprs result in
    call g (here fr) (fr.held + pieces st.context + record_pieces st.exprs) st.context.globals (retval_of req) st >>= λ ended func_required.
    end_call m fr arguments result req ended.context.args func_required (back st ended)

-- a statement that is required if anything is needed of its target, and then does `asks`
unfoldable pub when_needed : Walk (Unit {0}) → Subpart → Walk StatementReq
when_needed asks gone st = went st (StatementReq.RayQuery false)
when_needed asks (there p) st = asks st >> λ left. went left (StatementReq.RayQuery true)

abbrev pub ray : Module → Frame → ExpressionHandle → Walk (Unit {0}) → Walk StatementReq
ray m fr result asks st = target m fr result st >>= λ found t. when_needed asks t.needed found

unfoldable pub ask_mode : Module → Frame → GatherMode → Walk (Unit {0})
ask_mode m fr BroadcastFirst st = went st tt
ask_mode m fr (Broadcast e) st = ask m fr e all st

-- `add_statement`
unfoldable pub add_statement : Module → FunctionWalk → BlockWalk → Frame → Statement → Walk StatementReq
add_statement m call block fr (Emit first last) st = went st (StatementReq.Emit (are_recorded st.exprs first (suc last - first)))
add_statement m call block fr (Block b) st = add_nested block fr b st
add_statement m call block fr (If condition accept reject) st = add_if m block fr condition accept reject st
add_statement m call block fr (Switch selector cases) st = add_switch m block fr selector cases st
add_statement m call block fr (Loop body continuing break_if) st = add_loop m block fr body continuing break_if st
add_statement m call block fr Break st = went (with_context fr.base st) (StatementReq.Break fr.break_required)
add_statement m call block fr Continue st = went (with_context fr.base st) (StatementReq.Continue fr.break_required)
add_statement m call block fr (Return value) st = add_return m fr value (get_subpart st.context.retval (variable 0)) st
add_statement m call block fr Kill st = went st StatementReq.Kill
add_statement m call block fr ControlBarrier st = went st StatementReq.Barrier
add_statement m call block fr MemoryBarrier st = went st StatementReq.Barrier
add_statement m call block fr ImageAtomic st = halt 13 (here fr)
add_statement m call block fr (Store pointer value) st =
    store m fr pointer (λ asked. went asked tt) value st >>= λ left required. went left (StatementReq.Store required)
add_statement m call block fr (AtomicStatement pointer value result) st = add_atomic m fr pointer value result st
add_statement m call block fr (Call function arguments result) st = add_call m call fr function arguments result st
add_statement m call block fr (ImageStore image coordinate array_index value) st =
    store m fr image (λ asked. ask m fr coordinate all asked >> ask_optional m fr array_index exist) value st >>= λ left required.
    went left (StatementReq.ImageStore required)
add_statement m call block fr (RayQuery query) st = ray m fr query (λ asked. went asked tt) st
add_statement m call block fr (WorkGroupUniformLoad pointer result) st = ray m fr result (ask m fr pointer all) st
add_statement m call block fr (SubgroupBallot result predicate) st = ray m fr result (ask_optional m fr predicate all) st
add_statement m call block fr (SubgroupGather mode argument result) st = ray m fr result (λ asked. ask_mode m fr mode asked >> ask m fr argument all) st
add_statement m call block fr (SubgroupCollectiveOperation argument result) st = ray m fr result (ask m fr argument all) st

-- a visit of a statement: its arm, and its marks; the answer is `required`
unfoldable pub visit_statement : Module → FunctionWalk → BlockWalk → Frame → Walk Bool
visit_statement m call block fr st =
    visit fr.held (here fr)
    (λ begun.
    add_statement m call block fr (statement_at m fr.function fr.statement) begun >>= λ ended req.
    let from = marks_before (function_at m fr.function).statements fr.statement in
    went (with_marks (write_marks ended.marks from (own_marks req)) ended) (required req))
    st

-- n statements from `first` on, the last first; `visit_one` visits one, given `break_required`
unfoldable pub add_statements : (ℕ → Bool → Walk Bool) → (first n : ℕ) → (break_required is_required : Bool) → Walk Bool
add_statements visit_one first zero break_required is_required st = went st is_required
add_statements visit_one first (suc n) break_required is_required st =
    visit_one (first + n) break_required st >>= λ left r. add_statements visit_one first n (break_required || r) (is_required || r) left

unfoldable pub step_block : Module → FunctionWalk → FunctionHandle → BlockWalk → BlockWalk
step_block m call f block b held base break_required st =
    let range = block_at m f b in
    add_statements
    (λ s r. visit_statement m call block (record { function = f; statement = s; held = held + pieces base; base = base; break_required = r }))
    range.first range.count break_required false (with_context base st)

-- a block that is not below its holder's: no module that was read has one
abbrev pub no_block : (held : ℕ) → RequiredContext → Bool → Walk Bool
no_block held base break_required st = halt 5 nowhere

-- `add_block`
unfoldable pub add_block : Module → FunctionWalk → FunctionHandle → BlockWalk
add_block m call f = knot (step_block m call f) no_block
