-- The definition's walks of blocks, step by step, as code goes through them: after each block and each join that went, what is left gives the whole; one that did not
-- gives it. Each law rewrites one outcome.
use Prim.Native.Nat.{ℕ, suc, ◌+◌}
use mathlib.Core.Path.{◌≡◌, refl}
use mathlib.Core.Bool.{Bool, true, false, ◌||◌}
use mathlib.Core.List.{List}
use mathlib.Core.Option.{Option}
use lib.ListN.{length, get_or}
use Rattle.part.specs.PartReq.{all}
use Rattle.module.specs.Module.{ExpressionHandle, FunctionHandle, BlockHandle, Module, SwitchCase}
use Rattle.context.specs.RequiredContext.{RequiredContext, merge_context, over_context, pieces}
use Rattle.walk.specs.State.{State, Place, Out, went, halt, Walk, ◌>>◌, with_context, record_pieces, limited_context}
use Rattle.walk.specs.StatementReq.{StatementReq}
use Rattle.walk.specs.Statement.{BlockWalk, FunctionWalk, Frame, here, ask, record_of, merged, add_nested, end_if, add_cases, end_switch, add_switch, end_turn, turns, end_loop, back, retval_of, end_call, add_call, add_statements}

-- 15: the limit of a join
module _ (at : Place) (c : RequiredContext) (st : State) where
  pub limited_within : false ≡ over_context c → went st tt ≡ limited_context at c st
  unfolding limited_context
  limited_within e = rw (← e)

  pub limited_over : true ≡ over_context c → halt 15 at ≡ limited_context at c st
  unfolding limited_context
  limited_over e = rw (← e)

module _ (fr : Frame) (c d : RequiredContext) (st : State) where
  pub merged-within : false ≡ over_context (merge_context c d) → went (with_context (merge_context c d) st) tt ≡ merged fr c d st
  unfolding merged
  merged-within e = limited_within (here fr) (merge_context c d) (with_context (merge_context c d) st) e

  pub merged-over : true ≡ over_context (merge_context c d) → halt 15 (here fr) ≡ merged fr c d st
  unfolding merged
  merged-over e = limited_over (here fr) (merge_context c d) (with_context (merge_context c d) st) e

-- the statements of a block
module _ (visit_one : ℕ → Bool → Walk Bool) (first : ℕ) (break_required is_required : Bool) (st : State) where
  pub statements_done : add_statements visit_one first 0 break_required is_required st ≡ went st is_required
  unfolding add_statements
  statements_done = refl

  module _ (n : ℕ) where
    pub statements_again : {left : State} {r : Bool} → went left r ≡ visit_one (first + n) break_required st
        → add_statements visit_one first (suc n) break_required is_required st ≡ add_statements visit_one first n (break_required || r) (is_required || r) left
    unfolding add_statements
    statements_again e = rw (← e)

    pub statements_halt : {k : ℕ} {at : Place} → halt k at ≡ visit_one (first + n) break_required st → add_statements visit_one first (suc n) break_required is_required st ≡ halt k at
    unfolding add_statements
    statements_halt e = rw (← e)

-- a block in a block
module _ (block : BlockWalk) (fr : Frame) (b : BlockHandle) (st : State) where
  abbrev Nested : Out Bool
  Nested = block b (fr.held + pieces st.context) st.context fr.break_required st

  pub nested_done : {ended : State} {r : Bool} → went ended r ≡ Nested → add_nested block fr b st ≡ went ended (StatementReq.BlockStmt r)
  unfolding add_nested
  nested_done e = rw (← e)

  pub nested_halt : {k : ℕ} {at : Place} → halt k at ≡ Nested → add_nested block fr b st ≡ halt k at
  unfolding add_nested
  nested_halt e = rw (← e)

-- `If`: its end
module _ (m : Module) (fr : Frame) (condition : ExpressionHandle) (before accepted : RequiredContext) (rejected : State) where
  pub if_over : true ≡ over_context (merge_context accepted rejected.context) → end_if m fr condition before accepted true rejected ≡ halt 15 (here fr)
  unfolding end_if
  if_over e = rw (← merged-over fr accepted rejected.context rejected e)

  pub if_asks : false ≡ over_context (merge_context accepted rejected.context)
      → end_if m fr condition before accepted true rejected
      ≡ (ask m fr condition all (with_context (merge_context accepted rejected.context) rejected) >> λ left. went left (StatementReq.If true))
  unfolding end_if
  if_asks e = rw (← merged-within fr accepted rejected.context rejected e)

  pub if_not : end_if m fr condition before accepted false rejected ≡ went (with_context before rejected) (StatementReq.If false)
  unfolding end_if
  if_not = refl

-- `Switch`: the cases, the last first
module _ (block : BlockWalk) (fr : Frame) (outer : RequiredContext) (cases : List SwitchCase) (any : Bool) (st : State) where
  pub cases_done : add_cases block fr outer cases 0 any st ≡ went st any
  unfolding add_cases
  cases_done = refl

  module _ (n : ℕ) where
    abbrev Case : Out Bool
    Case = block (get_or cases n (record { value = 0; body = 0 })).body (fr.held + pieces outer + pieces st.context) outer false st

    pub cases-halt : {k : ℕ} {at : Place} → halt k at ≡ Case → add_cases block fr outer cases (suc n) any st ≡ halt k at
    unfolding add_cases
    cases-halt e = rw (← e)

    module _ {walked : State} {r : Bool} (e : went walked r ≡ Case) where
      pub cases-over : true ≡ over_context (merge_context st.context walked.context) → add_cases block fr outer cases (suc n) any st ≡ halt 15 (here fr)
      unfolding add_cases
      cases-over o = rw (← e) (rw (← merged-over fr st.context walked.context walked o))

      pub cases_again : false ≡ over_context (merge_context st.context walked.context)
          → add_cases block fr outer cases (suc n) any st ≡ add_cases block fr outer cases n (any || r) (with_context (merge_context st.context walked.context) walked)
      unfolding add_cases
      cases_again o = rw (← e) (rw (← merged-within fr st.context walked.context walked o))

module _ (m : Module) (block : BlockWalk) (fr : Frame) (selector : ExpressionHandle) (cases : List SwitchCase) (st : State) where
  pub switch-ends : {walked : State} {any : Bool} → went walked any ≡ add_cases block fr st.context cases (length cases) false st
      → add_switch m block fr selector cases st ≡ end_switch m fr selector st.context any walked
  unfolding add_switch
  switch-ends e = rw (← e)

  pub switch_halt : {k : ℕ} {at : Place} → halt k at ≡ add_cases block fr st.context cases (length cases) false st → add_switch m block fr selector cases st ≡ halt k at
  unfolding add_switch
  switch_halt e = rw (← e)

-- `Loop`: a first pass that is not required, and turns that are used up
pub loop_not : (m : Module) (block : BlockWalk) (fr : Frame) (body continuing : BlockHandle) (break_if : Option ExpressionHandle) (before walked : RequiredContext) (st : State)
    → end_loop m block fr body continuing break_if before walked false st ≡ went (with_context before st) (StatementReq.Loop false)
unfolding end_loop
loop_not m block fr body continuing break_if before walked st = refl

pub turns-none : (block : BlockWalk) (fr : Frame) (held : ℕ) (body continuing : BlockHandle) (working : RequiredContext) (st : State)
    → turns block fr held body continuing working 0 st ≡ halt 14 (here fr)
unfolding turns
turns-none block fr held body continuing working st = refl

-- a turn's end
pub turn_settled : (working : RequiredContext) (again : Walk StatementReq) (st : State) → end_turn working again true st ≡ went (with_context working st) (StatementReq.Loop true)
unfolding end_turn
turn_settled working again st = refl

pub turn_again : (working : RequiredContext) (again : Walk StatementReq) (st : State) → end_turn working again false st ≡ again st
unfolding end_turn
turn_again working again st = refl

-- `Call`: the called function, and the end
module _ (m : Module) (call : FunctionWalk) (fr : Frame) (g : FunctionHandle) (arguments : List ExpressionHandle) (result : Option ExpressionHandle) (st : State) where
  abbrev Called : Out Bool
  Called = call g (here fr) (fr.held + pieces st.context + record_pieces st.exprs) st.context.globals (retval_of (record_of st.exprs result)) st

  pub call-halt : {k : ℕ} {at : Place} → halt k at ≡ Called → add_call m call fr g arguments result st ≡ halt k at
  unfolding add_call
  call-halt e = rw (← e)

  pub call_ends : {ended : State} {r : Bool} → went ended r ≡ Called
      → add_call m call fr g arguments result st ≡ end_call m fr arguments result (record_of st.exprs result) ended.context.args r (back st ended)
  unfolding add_call
  call_ends e = rw (← e)
