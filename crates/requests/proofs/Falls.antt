-- Where the refusal of a walk of one statement falls: at no place, or at an expression or a statement that is there. A walk refuses at the visit that is open, so this is by one pass over the definition's
-- arms: an expression's walk only goes on to lower ones, and a statement asks expressions that are there.
use mathlib.Core.Path.{◌≡◌, refl}
use mathlib.Core.Bool.{Bool, true, false, cond, ◌||◌}
use mathlib.Core.List.{List, [], ◌∷◌}
use mathlib.Core.Option.{Option, some, none as nothing}
use Prim.Native.Nat.{ℕ, zero, suc, ◌+◌, ◌<◌}
use native.Mathlib.Omega.{arith}
use lib.Dec.{ltb}
use lib.ListN.{length}
use borrow.Author.Tests.{ltb-true}
use Rattle.field.specs.Limits.{max_pieces, max_visits, max_turns}
use Rattle.part.specs.PartReq.{PartReq, all, exist, Subpart, gone, there, get_subpart, over}
use Rattle.module.specs.Module.{ExpressionHandle, FunctionHandle, BlockHandle, Module, GatherMode, BroadcastFirst, Broadcast, SwitchCase, Statement, Emit, Block, If, Switch, Loop, Break, Continue, Return, Kill, ControlBarrier, MemoryBarrier, ImageAtomic, Store, AtomicStatement, Call, ImageStore, RayQuery, WorkGroupUniformLoad, SubgroupBallot, SubgroupGather, SubgroupCollectiveOperation}
use Rattle.module.specs.Knot.{knot, below}
use Rattle.module.proofs.Knot.{knot-is}
use Rattle.context.specs.RequiredContext.{RequiredContext, contains_context, pieces, over_context, variable, VarRef, RemovedContext, left_context, panic_context, remove_var}
use Rattle.valid.specs.Valid.{EachBelow, MaybeBelow, ModeBelow, UsesBelow}
use Rattle.walk.specs.State.{State, Place, at_expression, at_statement, nowhere, Out, went, halt, Walk, ◌>>=◌, ◌>>◌, visited, with_context, count, counted, limited, limited_context, visit_when, visit}
use Rattle.walk.specs.Resolve.{VarRefPart, resolved, unresolved, resolve_var, function_at, expression_at, is_there, store_required}
use Rattle.walk.specs.Expression.{Ask, of_operand, of_argument, of_global, of_local, refuse, arm_asks, ask_argument, ask_global, ask_local, add_ask, add_asks, recorded, step_expression, no_operand, add_expression}
use Rattle.walk.specs.StatementReq.{StatementReq}
use Rattle.walk.specs.Marks.{statement_at}
use Rattle.walk.specs.Statement.{BlockWalk, FunctionWalk, Frame, here, holding, ask, ask_optional, ask_needed, ask_result, record_of, merged, add_nested, end_if, add_if, add_cases, end_switch, add_switch, end_turn, turns, start_turns, end_loop, add_loop, add_return, target_of, taken_out, add_store, store, add_atomic, ask_arguments, back, end_call, add_call, when_needed, ray, ask_mode, add_statement, visit_statement}
use Rattle.sound.proofs.There.{has_expressions}

-- a place that the module has
abbrev pub InModule : Module → Place → Type 0
InModule m nowhere = Unit {0}
InModule m (at_expression f e) = (f < length m.functions) × (e < length (function_at m f).expressions)
InModule m (at_statement f s) = (f < length m.functions) × (s < length (function_at m f).statements)

-- P of the place, where a walk is refused
pub data Falls {A : Type 0} (P : Place → Type 0) : Out A → Type 0 where
  goes : {st : State} {a : A} → Falls P (went st a)
  falls : {n : ℕ} {at : Place} → P at → Falls P (halt n at)

pub falls_then : {A B : Type 0} {P : Place → Type 0} {x : Out A} (k : State → A → Out B) → Falls P x → ((st : State) (a : A) → Falls P (k st a)) → Falls P (x >>= k)
falls_then k (goes {st} {a}) hk = hk st a
falls_then k (falls h) hk = falls h

pub falls_next : {B : Type 0} {P : Place → Type 0} {x : Out (Unit {0})} (k : Walk B) → Falls P x → ((st : State) → Falls P (k st)) → Falls P (x >> k)
falls_next k (goes {st} {a}) hk = hk st
falls_next k (falls h) hk = falls h

-- a test that refuses here, or goes on
pub falls_when : {A : Type 0} {P : Place → Type 0} (b : Bool) (n : ℕ) (at : Place) (st : State) (a : A) → P at → Falls P (cond b (halt n at) (went st a))
falls_when true n at st a h = falls h
falls_when false n at st a h = goes

module _ {P : Place → Type 0} (at : Place) (h : P at) where
  limited-falls : (p : PartReq) (st : State) → Falls P (limited at p st)
  unfolding limited
  limited-falls p st = falls_when (over p) 15 at st tt h

  pub context_falls : (c : RequiredContext) (st : State) → Falls P (limited_context at c st)
  unfolding limited_context
  context_falls c st = falls_when (over_context c) 15 at st tt h

  counted-falls : (held : ℕ) (st : State) → Falls P (counted held at st)
  unfolding counted
  counted-falls held st = falls_when (ltb max_pieces (count held st)) 16 at st tt h

  visit-falls : {A : Type 0} (held : ℕ) (arm : Walk A) (st : State) → ((u : State) → Falls P (arm u)) → Falls P (visit held at arm st)
  unfolding visit_when
  visit-falls held arm st ha = go (ltb st.visits max_visits)
    where
      go : (b : Bool) → Falls P (visit_when b held at arm st)
      go true =
          falls_then (λ ended a. counted held at ended >> λ left. went left a) (falls_next arm (counted-falls held (visited st)) ha)
          (λ ended a. falls_next (λ left. went left a) (counted-falls held ended) (λ left. goes))
      go false = falls h

  -- what an arm of an expression asks
  module _ (w : ExpressionHandle → PartReq → Walk (Unit {0})) (hw : (e : ExpressionHandle) (p : PartReq) (u : State) → Falls P (w e p u)) where
    global_falls : (g : ℕ) (p : PartReq) (current : Subpart) (st : State) → Falls P (ask_global at g p current st)
    unfolding ask_global
    global_falls g p gone st = goes
    global_falls g p (there q) st = limited-falls _ _

    ask_falls : (a : Ask) (st : State) → Falls P (add_ask w at a st)
    unfolding add_ask ask_argument ask_local
    ask_falls (of_operand e p) st = hw e p st
    ask_falls (of_argument i p) st = limited-falls _ _
    ask_falls (of_global g p) st = global_falls g p (get_subpart st.globals (variable g)) st
    ask_falls (of_local l p) st = limited-falls _ _
    ask_falls (refuse n) st = falls h

    asks_fall : (as₁ : List Ask) (st : State) → Falls P (add_asks w at as₁ st)
    unfolding add_asks
    asks_fall [] st = goes
    asks_fall (a ∷ rest) st = falls_next (add_asks w at rest) (ask_falls a st) (λ u. asks_fall rest u)

-- of a number that is lower, or not
lower-at : {A : Type 0} (Q : A → Type 0) (w : ℕ → A) (d : A) (a e : ℕ) → (a < e → Q (w a)) → Q d → Q (below w d e a)
unfolding below
lower-at Q w d a e h hd = go (ltb a e) refl
  where
    go : (b : Bool) → ltb a e ≡ b → Q (cond b (w a) d)
    go true t = h (ltb-true a e t)
    go false t = hd

-- Induction over a recursion that goes on to lower numbers: what holds of d, and at each number below n wherever it holds at the calls, holds at every number below n.
lower_all : {A : Type 0} (Q : A → Type 0) (step : (ℕ → A) → ℕ → A) (d : A) (n : ℕ) → Q d → ((w : ℕ → A) (e : ℕ) → e < n → ((a : ℕ) → Q (w a)) → Q (step w e)) → (e : ℕ) → e < n → Q (knot step d e)
lower_all Q step d n hd hs e l = go (suc e) e (omega arith) l
  where
    go : (k e : ℕ) → e < k → e < n → Q (knot step d e)
    go zero e l h = absurd (omega arith)
    go (suc k) e l h =
        rw (knot-is step d e)
        (hs (below (knot step d) d e) e h (λ a. lower-at Q (knot step d) d a e (λ lower. go k a (omega arith) (omega arith)) hd))

module _ (m : Module) (f : FunctionHandle) where
  abbrev expressions : ℕ
  expressions = length (function_at m f).expressions

  abbrev statements : ℕ
  statements = length (function_at m f).statements

  expression_falls : (held : ℕ) (e : ExpressionHandle) → e < expressions → (p : PartReq) (st : State) → Falls (InModule m) (add_expression m f held e p st)
  unfolding add_expression step_expression
  expression_falls held = lower_all (λ w. (p : PartReq) (st : State) → Falls (InModule m) (w p st)) (step_expression m f held) no_operand expressions (λ p st. falls tt) step
    where
      step : (w : ExpressionHandle → PartReq → Walk (Unit {0})) (e : ExpressionHandle) → e < expressions → ((a : ExpressionHandle) (p : PartReq) (st : State) → Falls (InModule m) (w a p st)) → (p : PartReq) (st : State) → Falls (InModule m) (step_expression m f held w e p st)
      step w e l hw p st =
          let inside : InModule m (at_expression f e) = (has_expressions m f e l, l) in
          visit-falls (at_expression f e) inside held (λ begun. add_asks w (at_expression f e) (arm_asks (expression_at m f e) p) begun >> λ ended. went (recorded e p ended) tt) st
          (λ begun. falls_next (λ ended. went (recorded e p ended) tt) (asks_fall (at_expression f e) inside w hw (arm_asks (expression_at m f e) p) begun) (λ ended. goes))

-- the walk of a statement that stands in the function
module _ (m : Module) (fr : Frame) (inside : InModule m (here fr)) where
  abbrev n : ℕ
  n = length (function_at m fr.function).expressions

  asked_falls : (e : ExpressionHandle) (p : PartReq) (st : State) → e < n → Falls (InModule m) (ask m fr e p st)
  asked_falls e p st l = expression_falls m fr.function fr.held e l p st

  optional_falls : (o : Option ExpressionHandle) (p : PartReq) (st : State) → MaybeBelow n o → Falls (InModule m) (ask_optional m fr o p st)
  unfolding ask_optional
  optional_falls nothing p st l = goes
  optional_falls (some e) p st l = asked_falls e p st l

  needed_falls : (e : ExpressionHandle) (need : Subpart) (st : State) → e < n → Falls (InModule m) (ask_needed m fr e need st)
  unfolding ask_needed
  needed_falls e gone st l = goes
  needed_falls e (there p) st l = asked_falls e p st l

  result_falls : (o : Option ExpressionHandle) (need : Subpart) (st : State) → MaybeBelow n o → Falls (InModule m) (ask_result m fr o need st)
  unfolding ask_result
  result_falls nothing need st l = goes
  result_falls (some e) need st l = needed_falls e need st l

  mode-falls : (mode : GatherMode) (st : State) → ModeBelow n mode → Falls (InModule m) (ask_mode m fr mode st)
  unfolding ask_mode
  mode-falls BroadcastFirst st l = goes
  mode-falls (Broadcast e) st l = asked_falls e all st l

  merged-falls : (c d : RequiredContext) (st : State) → Falls (InModule m) (merged fr c d st)
  unfolding merged
  merged-falls c d st = context_falls (here fr) inside _ _

  -- stores
  target_falls : (v : VarRefPart) (st : State) → Falls (InModule m) (target_of fr v st)
  unfolding target_of
  target_falls unresolved st = falls inside
  target_falls (resolved var part) st = falls_next (λ left. went left (record { var = var; part = part; needed = store_required left.context var part })) (limited-falls (here fr) inside part st) (λ left. goes)

  taken_falls : (d : RemovedContext) (st : State) → Falls (InModule m) (taken_out fr d st)
  unfolding taken_out
  taken_falls panic_context st = falls inside
  taken_falls (left_context c) st = context_falls (here fr) inside _ _

  stored_falls : (pointer : ExpressionHandle) (accessors : Walk (Unit {0})) (value : ExpressionHandle) (var : VarRef) (part : PartReq) (need : Subpart) (st : State) → pointer < n → value < n → ((u : State) → Falls (InModule m) (accessors u)) → Falls (InModule m) (add_store m fr pointer accessors value var part need st)
  unfolding add_store
  stored_falls pointer accessors value var part gone st p v ha = goes
  stored_falls pointer accessors value var part (there q) st p v ha =
      falls_next (λ left. went left true)
      (falls_next (ask m fr value q)
      (falls_next accessors
      (falls_next (ask m fr pointer exist) (taken_falls (remove_var m (function_at m fr.function) st.context var part) st) (λ u. asked_falls pointer exist u p))
      ha)
      (λ u. asked_falls value q u v))
      (λ u. goes)

  store-falls : (pointer : ExpressionHandle) (accessors : Walk (Unit {0})) (value : ExpressionHandle) (st : State) → pointer < n → value < n → ((u : State) → Falls (InModule m) (accessors u)) → Falls (InModule m) (store m fr pointer accessors value st)
  store-falls pointer accessors value st p v ha =
      falls_then (λ found t. add_store m fr pointer accessors value t.var t.part t.needed found) (target_falls (resolve_var m fr.function pointer []) st)
      (λ found t. stored_falls pointer accessors value t.var t.part t.needed found p v ha)

  atomic_falls : (pointer value : ExpressionHandle) (o : Option ExpressionHandle) (st : State) → value < n → MaybeBelow n o → Falls (InModule m) (add_atomic m fr pointer value o st)
  unfolding add_atomic
  atomic_falls pointer value o st v r =
      falls_then
      (λ found t.
      let load = record_of found.exprs o in
      ask_result m fr o load found >> ask_needed m fr value t.needed >> λ left.
      went left (StatementReq.Atomic (is_there load || is_there t.needed)))
      (target_falls (resolve_var m fr.function pointer []) st)
      (λ found t.
      falls_next (λ left. went left (StatementReq.Atomic (is_there (record_of found.exprs o) || is_there t.needed)))
      (falls_next (ask_needed m fr value t.needed) (result_falls o (record_of found.exprs o) found r) (λ u. needed_falls value t.needed u v))
      (λ u. goes))

  -- rays
  when_falls : (asks : Walk (Unit {0})) (need : Subpart) (st : State) → ((u : State) → Falls (InModule m) (asks u)) → Falls (InModule m) (when_needed asks need st)
  unfolding when_needed
  when_falls asks gone st ha = goes
  when_falls asks (there p) st ha = falls_next (λ left. went left (StatementReq.RayQuery true)) (ha st) (λ left. goes)

  ray-falls : (e : ExpressionHandle) (asks : Walk (Unit {0})) (st : State) → ((u : State) → Falls (InModule m) (asks u)) → Falls (InModule m) (ray m fr e asks st)
  ray-falls e asks st ha = falls_then (λ found t. when_needed asks t.needed found) (target_falls (resolve_var m fr.function e []) st) (λ found t. when_falls asks t.needed found ha)

  -- calls
  arguments_fall : (es : List ExpressionHandle) (i : ℕ) (args : PartReq) (st : State) → EachBelow n es → Falls (InModule m) (ask_arguments m fr es i args st)
  unfolding ask_arguments
  arguments_fall [] i args st l = goes
  arguments_fall (e ∷ es) i args st l =
      falls_next (ask_arguments m fr es (suc i) args) (needed_falls e (get_subpart args (variable i)) st (l 0 (omega arith))) (λ u. arguments_fall es (suc i) args u (λ k h. l (suc k) (omega arith)))

  end_call_falls : (es : List ExpressionHandle) (o : Option ExpressionHandle) (req : Subpart) (args : PartReq) (r : Bool) (st : State) → EachBelow n es → MaybeBelow n o → Falls (InModule m) (end_call m fr es o req args r st)
  unfolding end_call
  end_call_falls es o req args true st l h =
      falls_next (λ left. went left (StatementReq.Call true (is_there req))) (falls_next (ask_result m fr o req) (arguments_fall es 0 args st l) (λ u. result_falls o req u h)) (λ u. goes)
  end_call_falls es o req args false st l h = goes

  return_falls : (o : Option ExpressionHandle) (need : Subpart) (st : State) → MaybeBelow n o → Falls (InModule m) (add_return m fr o need st)
  unfolding add_return
  return_falls nothing need st l = goes
  return_falls (some e) gone st l = goes
  return_falls (some e) (there p) st l = falls_next (λ left. went left (StatementReq.Return true)) (asked_falls e p st l) (λ left. goes)

  -- what holds blocks, and what calls functions
  module _ (call : FunctionWalk) (block : BlockWalk)
      (hc : (g : FunctionHandle) (at : Place) (held : ℕ) (globals retval : PartReq) (st : State) → InModule m at → Falls (InModule m) (call g at held globals retval st))
      (hb : (b : BlockHandle) (held : ℕ) (base : RequiredContext) (r : Bool) (st : State) → Falls (InModule m) (block b held base r st)) where
    call-falls : (g : FunctionHandle) (es : List ExpressionHandle) (o : Option ExpressionHandle) (st : State) → EachBelow n es → MaybeBelow n o → Falls (InModule m) (add_call m call fr g es o st)
    unfolding add_call
    call-falls g es o st l h =
        let req = record_of st.exprs o in
        falls_then (λ ended r. end_call m fr es o req ended.context.args r (back st ended)) (hc g (here fr) _ _ _ st inside) (λ ended r. end_call_falls es o req ended.context.args r (back st ended) l h)

    nested_falls : (b : BlockHandle) (st : State) → Falls (InModule m) (add_nested block fr b st)
    unfolding add_nested
    nested_falls b st = falls_then (λ ended r. went ended (StatementReq.BlockStmt r)) (hb b _ _ _ st) (λ ended r. goes)

    end_if_falls : (e : ExpressionHandle) (before accepted : RequiredContext) (r : Bool) (st : State) → e < n → Falls (InModule m) (end_if m fr e before accepted r st)
    unfolding end_if
    end_if_falls e before accepted true st l =
        falls_next (λ left. went left (StatementReq.If true)) (falls_next (ask m fr e all) (merged-falls accepted st.context st) (λ u. asked_falls e all u l)) (λ u. goes)
    end_if_falls e before accepted false st l = goes

    if_falls : (e : ExpressionHandle) (a r : BlockHandle) (st : State) → e < n → Falls (InModule m) (add_if m block fr e a r st)
    unfolding add_if
    if_falls e a r st l =
        falls_then _ (hb a _ _ _ st) (λ accepted p. falls_then _ (hb r _ _ _ accepted) (λ rejected q. end_if_falls e st.context accepted.context (p || q) rejected l))

    cases-fall : (outer : RequiredContext) (cases : List SwitchCase) (k : ℕ) (any : Bool) (st : State) → Falls (InModule m) (add_cases block fr outer cases k any st)
    unfolding add_cases
    cases-fall outer cases zero any st = goes
    cases-fall outer cases (suc k) any st =
        falls_then _ (hb _ _ _ _ st) (λ walked r. falls_next (add_cases block fr outer cases k (any || r)) (merged-falls st.context walked.context walked) (λ u. cases-fall outer cases k (any || r) u))

    end_switch_falls : (e : ExpressionHandle) (before : RequiredContext) (r : Bool) (st : State) → e < n → Falls (InModule m) (end_switch m fr e before r st)
    unfolding end_switch
    end_switch_falls e before true st l = falls_next _ (asked_falls e all (with_context before st) l) (λ u. goes)
    end_switch_falls e before false st l = goes

    switch_falls : (e : ExpressionHandle) (cases : List SwitchCase) (st : State) → e < n → Falls (InModule m) (add_switch m block fr e cases st)
    unfolding add_switch
    switch_falls e cases st l = falls_then _ (cases-fall st.context cases (length cases) false st) (λ walked any. end_switch_falls e st.context any walked l)

    turn_falls : (working : RequiredContext) (again : Walk StatementReq) (r : Bool) (st : State) → ((u : State) → Falls (InModule m) (again u)) → Falls (InModule m) (end_turn working again r st)
    unfolding end_turn
    turn_falls working again true st h = goes
    turn_falls working again false st h = h st

    turns-fall : (held : ℕ) (body continuing : BlockHandle) (working : RequiredContext) (k : ℕ) (st : State) → Falls (InModule m) (turns block fr held body continuing working k st)
    unfolding turns
    turns-fall held body continuing working zero st = falls inside
    turns-fall held body continuing working (suc k) st =
        falls_then _ (hb body _ _ _ st)
        (λ walked a.
        falls_then _ (hb continuing _ _ _ walked)
        (λ continued b.
        falls_next _ (merged-falls walked.context continued.context continued)
        (λ joined. turn_falls working (turns block fr held body continuing working k) (contains_context working joined.context) joined (λ u. turns-fall held body continuing working k u))))

    end_loop_falls : (body continuing : BlockHandle) (o : Option ExpressionHandle) (before walked : RequiredContext) (r : Bool) (st : State) → MaybeBelow n o → Falls (InModule m) (end_loop m block fr body continuing o before walked r st)
    unfolding end_loop start_turns
    end_loop_falls body continuing o before walked true st l =
        falls_next _ (held_falls o l)
        (λ asked. falls_next _ (merged-falls walked st.context asked) (λ joined. turns-fall _ body continuing joined.context max_turns joined))
      where
        held_falls : (o : Option ExpressionHandle) → MaybeBelow n o → Falls (InModule m) (ask_optional m (holding (pieces walked + pieces st.context) fr) o all (with_context before st))
        held_falls nothing l = unfold ask_optional in goes
        held_falls (some e) l = unfold ask_optional in expression_falls m fr.function (fr.held + (pieces walked + pieces st.context)) e l all (with_context before st)
    end_loop_falls body continuing o before walked false st l = goes

    loop_falls : (body continuing : BlockHandle) (o : Option ExpressionHandle) (st : State) → MaybeBelow n o → Falls (InModule m) (add_loop m block fr body continuing o st)
    unfolding add_loop
    loop_falls body continuing o st l =
        falls_then _ (hb body _ _ _ st)
        (λ walked a. falls_then _ (hb continuing _ _ _ walked) (λ continued b. end_loop_falls body continuing o st.context walked.context (a || b) continued l))

    -- every arm
    statement_falls : (entries : List Bool) (s : Statement) (st : State) → UsesBelow n entries s → Falls (InModule m) (add_statement m call block fr s st)
    unfolding add_statement
    statement_falls entries (Emit first last) st u = goes
    statement_falls entries (Block b) st u = nested_falls b st
    statement_falls entries (If condition accept reject) st u = if_falls condition accept reject st u
    statement_falls entries (Switch selector cases) st u = switch_falls selector cases st u.0
    statement_falls entries (Loop body continuing break_if) st u = loop_falls body continuing break_if st u
    statement_falls entries Break st u = goes
    statement_falls entries Continue st u = goes
    statement_falls entries (Return value) st u = return_falls value (get_subpart st.context.retval (variable 0)) st u
    statement_falls entries Kill st u = goes
    statement_falls entries ControlBarrier st u = goes
    statement_falls entries MemoryBarrier st u = goes
    statement_falls entries ImageAtomic st u = falls inside
    statement_falls entries (Store pointer value) st u = falls_then _ (store-falls pointer (λ asked. went asked tt) value st u.0 u.1 (λ t. goes)) (λ left r. goes)
    statement_falls entries (AtomicStatement pointer value result) st u = atomic_falls pointer value result st u.1 u.2
    statement_falls entries (Call g arguments result) st u = call-falls g arguments result st u.1 u.2
    statement_falls entries (ImageStore image coordinate array_index value) st u =
        falls_then _
        (store-falls image (λ asked. ask m fr coordinate all asked >> ask_optional m fr array_index exist) value st u.0 u.3
        (λ t. falls_next (ask_optional m fr array_index exist) (asked_falls coordinate all t u.1) (λ v. optional_falls array_index exist v u.2)))
        (λ left r. goes)
    statement_falls entries (RayQuery query) st u = ray-falls query (λ asked. went asked tt) st (λ t. goes)
    statement_falls entries (WorkGroupUniformLoad pointer result) st u = ray-falls result (ask m fr pointer all) st (λ t. asked_falls pointer all t u.0)
    statement_falls entries (SubgroupBallot result predicate) st u = ray-falls result (ask_optional m fr predicate all) st (λ t. optional_falls predicate all t u.1)
    statement_falls entries (SubgroupGather mode argument result) st u =
        ray-falls result (λ asked. ask_mode m fr mode asked >> ask m fr argument all) st (λ t. falls_next (ask m fr argument all) (mode-falls mode t u.0) (λ v. asked_falls argument all v u.1))
    statement_falls entries (SubgroupCollectiveOperation argument result) st u = ray-falls result (ask m fr argument all) st (λ t. asked_falls argument all t u.0)

    pub visited_falls : (entries : List Bool) (st : State) → UsesBelow n entries (statement_at m fr.function fr.statement) → Falls (InModule m) (visit_statement m call block fr st)
    unfolding visit_statement
    visited_falls entries st u =
        visit-falls (here fr) inside fr.held _ st (λ begun. falls_then _ (statement_falls entries (statement_at m fr.function fr.statement) begun u) (λ left req. goes))
