-- What single changes keep, the walk of any statement, block, function and request keeps (Keeps has it of expressions): arm by arm, and by induction on
-- the numbers of block and function.
use mathlib.Core.Path.{◌≡◌, refl}
use mathlib.Core.Bool.{Bool, true, false, ◌||◌}
use mathlib.Core.List.{List, [], ◌∷◌}
use mathlib.Core.Option.{Option, some, none as nothing}
use Prim.Native.Nat.{ℕ, zero, suc, ◌+◌}
use lib.ListN.{length, get_or}
use Rattle.field.specs.Limits.{max_turns}
use Rattle.part.specs.PartReq.{PartReq, all, exist, none, Subpart, gone, there, get_subpart}
use Rattle.module.specs.Module.{ExpressionHandle, FunctionHandle, BlockHandle, Module, GatherMode, BroadcastFirst, Broadcast, SwitchCase, Statement, Emit, Block, If, Switch, Loop, Break, Continue, Return, Kill, ControlBarrier, MemoryBarrier, ImageAtomic, Store, AtomicStatement, Call, ImageStore, RayQuery, WorkGroupUniformLoad, SubgroupBallot, SubgroupGather, SubgroupCollectiveOperation}
use Rattle.context.specs.RequiredContext.{RequiredContext, merge_context, contains_context, pieces, variable, VarRef, RemovedContext, left_context, panic_context, remove_var}
use Rattle.walk.specs.State.{Records, State, Place, went, Walk, ◌>>=◌, ◌>>◌, visited, with_context, with_marks, record_pieces}
use Rattle.walk.specs.Resolve.{function_at, VarRefPart, resolved, unresolved, resolve_var, store_required, is_there}
use Rattle.walk.specs.StatementReq.{StatementReq, required, own_marks}
use Rattle.module.specs.Marks.{marks_before}
use Rattle.walk.specs.Marks.{write_marks, statement_at, block_at}
use Rattle.walk.specs.Statement.{BlockWalk, FunctionWalk, Frame, here, holding, ask, ask_optional, ask_needed, need_of, record_of, ask_result, merged, add_nested, end_if, add_if, add_cases, end_switch, add_switch, end_turn, turns, start_turns, end_loop, add_loop, add_return, Target, target_of, taken_out, add_store, store, add_atomic, ask_arguments, back, retval_of, end_call, add_call, when_needed, ray, ask_mode, add_statement, visit_statement, add_statements, step_block, no_block, add_block}
use Rattle.module.proofs.Knot.{knot-all}
use Rattle.walk.proofs.Ends.{Ends, ends, stops, Told, ends_then, ends_next, ends_limited, ends_limited_context, ends_visit}
use Rattle.walk.proofs.Keeps.{Needs, Kept, Good, Goes, good_context, good_visited, expression_keeps}

-- the properties of the totals and the visits alone
pub record Totals {m : Module} (K : Kept m) (st : State) : Type 0 where
  pub globals : K.Globals st.globals
  pub functions : K.Functions st.functions
  pub visits : K.Visits st.visits

module _ {m : Module} (K : Kept m) where
  pub totals : (f : FunctionHandle) (st : State) → Good K f st → Totals K st
  totals f st h = record { globals = h.globals; functions = h.functions; visits = h.visits }

  -- the walks of blocks and of called functions
  abbrev pub Blocks : FunctionHandle → ((held : ℕ) → RequiredContext → Bool → Walk Bool) → Type 0
  Blocks f w = (held : ℕ) (base : RequiredContext) (r : Bool) (st : State) → K.Context f base → Good K f st → Goes K f (w held base r st)

  abbrev pub Calls : FunctionHandle → (Place → (held : ℕ) → (globals retval : PartReq) → Walk Bool) → Type 0
  Calls g w = (at : Place) (held : ℕ) (globals retval : PartReq) (st : State) → K.Context g (record { globals = globals; locals = none; args = none; retval = retval }) → Totals K st → Goes K g (w at held globals retval st)

  -- what a statement asks
  pub ask-goes : (fr : Frame) (e : ExpressionHandle) (p : PartReq) (st : State) → K.Asked p → Good K fr.function st → Goes K fr.function (ask m fr e p st)
  ask-goes fr e p st q h = expression_keeps K fr.function fr.held e p st q h

  pub optional_goes : (fr : Frame) (o : Option ExpressionHandle) (p : PartReq) (st : State) → K.Asked p → Good K fr.function st → Goes K fr.function (ask_optional m fr o p st)
  unfolding ask_optional
  optional_goes fr nothing p st q h = ends h
  optional_goes fr (some e) p st q h = ask-goes fr e p st q h

  pub needed_goes : (fr : Frame) (e : ExpressionHandle) (need : Subpart) (st : State) → Needs K.Asked need → Good K fr.function st → Goes K fr.function (ask_needed m fr e need st)
  unfolding ask_needed
  needed_goes fr e gone st q h = ends h
  needed_goes fr e (there p) st q h = ask-goes fr e p st q h

  pub result_goes : (fr : Frame) (o : Option ExpressionHandle) (need : Subpart) (st : State) → Needs K.Asked need → Good K fr.function st → Goes K fr.function (ask_result m fr o need st)
  unfolding ask_result
  result_goes fr nothing need st q h = ends h
  result_goes fr (some e) need st q h = needed_goes fr e need st q h

  need-of : (f : FunctionHandle) (es : Records) (e : ExpressionHandle) (o : Option PartReq) → K.Exprs f es → get_or es e nothing ≡ o → Needs K.Asked (need_of o)
  unfolding need_of
  need-of f es e nothing h q = tt
  need-of f es e (some p) h q = K.exprs_need f es e p h q

  pub record_needs : (f : FunctionHandle) (es : Records) (o : Option ExpressionHandle) → K.Exprs f es → Needs K.Asked (record_of es o)
  unfolding record_of
  record_needs f es nothing h = tt
  record_needs f es (some e) h = need-of f es e (get_or es e nothing) h refl

  pub merged-goes : (fr : Frame) (c d : RequiredContext) (st : State) → K.Context fr.function c → K.Context fr.function d → Good K fr.function st → Goes K fr.function (merged fr c d st)
  unfolding merged
  merged-goes fr c d st hc hd h =
      ends_limited_context (here fr) (merge_context c d) (with_context (merge_context c d) st)
      (λ o. good_context K fr.function (merge_context c d) st h (K.context_merged fr.function c d hc hd o))

  -- the arms
  pub nested_goes : (block : BlockWalk) (fr : Frame) (b : BlockHandle) (st : State) → Blocks fr.function (block b) → Good K fr.function st → Goes K fr.function (add_nested block fr b st)
  unfolding add_nested
  nested_goes block fr b st hb h =
      ends_then (λ ended is_required. went ended (StatementReq.BlockStmt is_required))
      (hb (fr.held + pieces st.context) st.context fr.break_required st h.context h)
      (λ ended r good. ends good)

  pub if_ends : (fr : Frame) (e : ExpressionHandle) (before accepted : RequiredContext) (r : Bool) (st : State) → K.Context fr.function before → K.Context fr.function accepted → Good K fr.function st → Goes K fr.function (end_if m fr e before accepted r st)
  unfolding end_if
  if_ends fr e before accepted true st hb ha h =
      ends_next (λ left. went left (StatementReq.If true))
      (ends_next (ask m fr e all) (merged-goes fr accepted st.context st ha h.context h) (λ joined hj. ask-goes fr e all joined K.all_asked hj))
      (λ left hl. ends hl)
  if_ends fr e before accepted false st hb ha h = ends (good_context K fr.function before st h hb)

  pub if_goes : (block : BlockWalk) (fr : Frame) (e : ExpressionHandle) (accept reject : BlockHandle) (st : State) → ((b : BlockHandle) → Blocks fr.function (block b)) → Good K fr.function st → Goes K fr.function (add_if m block fr e accept reject st)
  unfolding add_if
  if_goes block fr e accept reject st hb h =
      let outside = fr.held + pieces st.context in
      ends_then
      (λ accepted a.
      block reject (outside + pieces accepted.context) st.context fr.break_required accepted >>= λ rejected r.
      end_if m fr e st.context accepted.context (a || r) rejected)
      (hb accept outside st.context fr.break_required st h.context h)
      (λ accepted a good.
      ends_then (λ rejected r. end_if m fr e st.context accepted.context (a || r) rejected)
      (hb reject (outside + pieces accepted.context) st.context fr.break_required accepted h.context good)
      (λ rejected r fine. if_ends fr e st.context accepted.context (a || r) rejected h.context good.context fine))

  pub cases-go : (block : BlockWalk) (fr : Frame) (outer : RequiredContext) (cases : List SwitchCase) (n : ℕ) (any : Bool) (st : State) → ((b : BlockHandle) → Blocks fr.function (block b)) → K.Context fr.function outer → Good K fr.function st → Goes K fr.function (add_cases block fr outer cases n any st)
  unfolding add_cases
  cases-go block fr outer cases zero any st hb ho h = ends h
  cases-go block fr outer cases (suc n) any st hb ho h =
      ends_then (λ walked r. merged fr st.context walked.context walked >> add_cases block fr outer cases n (any || r))
      (hb (get_or cases n (record { value = 0; body = 0 })).body (fr.held + pieces outer + pieces st.context) outer false st ho h)
      (λ walked r good.
      ends_next (add_cases block fr outer cases n (any || r))
      (merged-goes fr st.context walked.context walked h.context good.context good)
      (λ joined hj. cases-go block fr outer cases n (any || r) joined hb ho hj))

  pub switch-ends : (fr : Frame) (e : ExpressionHandle) (before : RequiredContext) (r : Bool) (st : State) → K.Context fr.function before → Good K fr.function st → Goes K fr.function (end_switch m fr e before r st)
  unfolding end_switch
  switch-ends fr e before true st hb h =
      ends_next (λ asked. went (with_context st.context asked) (StatementReq.Switch true))
      (ask-goes fr e all (with_context before st) K.all_asked (good_context K fr.function before st h hb))
      (λ asked ha. ends (good_context K fr.function st.context asked ha h.context))
  switch-ends fr e before false st hb h = ends (good_context K fr.function before st h hb)

  pub switch_goes : (block : BlockWalk) (fr : Frame) (e : ExpressionHandle) (cases : List SwitchCase) (st : State) → ((b : BlockHandle) → Blocks fr.function (block b)) → Good K fr.function st → Goes K fr.function (add_switch m block fr e cases st)
  unfolding add_switch
  switch_goes block fr e cases st hb h =
      ends_then (λ walked any. end_switch m fr e st.context any walked)
      (cases-go block fr st.context cases (length cases) false st hb h.context h)
      (λ walked any good. switch-ends fr e st.context any walked h.context good)

  pub turn_ends : (f : FunctionHandle) (working : RequiredContext) (again : Walk StatementReq) (r : Bool) (st : State) → K.Context f working → ((s : State) → Good K f s → Goes K f (again s)) → Good K f st → Goes K f (end_turn working again r st)
  unfolding end_turn
  turn_ends f working again true st hw ha h = ends (good_context K f working st h hw)
  turn_ends f working again false st hw ha h = ha st h

  pub turns_go : (block : BlockWalk) (fr : Frame) (held : ℕ) (body continuing : BlockHandle) (working : RequiredContext) (n : ℕ) (st : State) → ((b : BlockHandle) → Blocks fr.function (block b)) → K.Context fr.function working → Good K fr.function st → Goes K fr.function (turns block fr held body continuing working n st)
  unfolding turns
  turns_go block fr held body continuing working zero st hb hw h = stops refl
  turns_go block fr held body continuing working (suc n) st hb hw h =
      let again = turns block fr held body continuing working n in
      ends_then
      (λ walked a.
      block continuing (held + pieces walked.context) working true walked >>= λ continued r.
      merged fr walked.context continued.context continued >> λ joined.
      end_turn working again (contains_context working joined.context) joined)
      (hb body held working true st hw h)
      (λ walked a good.
      ends_then
      (λ continued r.
      merged fr walked.context continued.context continued >> λ joined.
      end_turn working again (contains_context working joined.context) joined)
      (hb continuing (held + pieces walked.context) working true walked hw good)
      (λ continued r fine.
      ends_next (λ joined. end_turn working again (contains_context working joined.context) joined)
      (merged-goes fr walked.context continued.context continued good.context fine.context fine)
      (λ joined hj.
      turn_ends fr.function working again (contains_context working joined.context) joined hw
      (λ s hs. turns_go block fr held body continuing working n s hb hw hs) hj)))

  pub loop_ends : (block : BlockWalk) (fr : Frame) (body continuing : BlockHandle) (o : Option ExpressionHandle) (before walked : RequiredContext) (r : Bool) (st : State) → ((b : BlockHandle) → Blocks fr.function (block b)) → K.Context fr.function before → K.Context fr.function walked → Good K fr.function st → Goes K fr.function (end_loop m block fr body continuing o before walked r st)
  unfolding end_loop start_turns
  loop_ends block fr body continuing o before walked true st hb hbefore hw h =
      ends_next
      (λ asked. merged fr walked st.context asked >> start_turns block fr (pieces asked.context) body continuing)
      (optional_goes (holding (pieces walked + pieces st.context) fr) o all (with_context before st) K.all_asked (good_context K fr.function before st h hbefore))
      (λ asked ha.
      ends_next (start_turns block fr (pieces asked.context) body continuing)
      (merged-goes fr walked st.context asked hw h.context ha)
      (λ joined hj.
      turns_go block fr (fr.held + pieces asked.context + pieces joined.context) body continuing joined.context max_turns joined hb hj.context hj))
  loop_ends block fr body continuing o before walked false st hb hbefore hw h = ends (good_context K fr.function before st h hbefore)

  pub loop_goes : (block : BlockWalk) (fr : Frame) (body continuing : BlockHandle) (o : Option ExpressionHandle) (st : State) → ((b : BlockHandle) → Blocks fr.function (block b)) → Good K fr.function st → Goes K fr.function (add_loop m block fr body continuing o st)
  unfolding add_loop
  loop_goes block fr body continuing o st hb h =
      let outside = fr.held + pieces st.context in
      ends_then
      (λ walked a.
      block continuing (outside + pieces walked.context) st.context false walked >>= λ continued r.
      end_loop m block fr body continuing o st.context walked.context (a || r) continued)
      (hb body outside st.context false st h.context h)
      (λ walked a good.
      ends_then (λ continued r. end_loop m block fr body continuing o st.context walked.context (a || r) continued)
      (hb continuing (outside + pieces walked.context) st.context false walked h.context good)
      (λ continued r fine. loop_ends block fr body continuing o st.context walked.context (a || r) continued hb h.context good.context fine))

  pub return_goes : (fr : Frame) (o : Option ExpressionHandle) (need : Subpart) (st : State) → K.Context fr.function fr.base → Needs K.Asked need → Good K fr.function st → Goes K fr.function (add_return m fr o need st)
  unfolding add_return
  return_goes fr nothing need st hb q h = ends (good_context K fr.function fr.base st h hb)
  return_goes fr (some e) gone st hb q h = ends (good_context K fr.function fr.base st h hb)
  return_goes fr (some e) (there p) st hb q h = ends_next (λ left. went left (StatementReq.Return true)) (ask-goes fr e p st q h) (λ left hl. ends hl)

  -- a target's need, and how it was found
  pub record Found (fr : Frame) (e : ExpressionHandle) (st : State) (t : Target) : Type 0 where
    pub good : Good K fr.function st
    pub path : resolve_var m fr.function e [] ≡ resolved t.var t.part
    pub need : Needs K.Asked t.needed

  pub target_found : (fr : Frame) (e : ExpressionHandle) (v : VarRefPart) (st : State) → resolve_var m fr.function e [] ≡ v → Good K fr.function st → Ends Told (Found fr e) (target_of fr v st)
  unfolding target_of
  target_found fr e unresolved st path h = stops refl
  target_found fr e (resolved var part) st path h =
      ends_next {P = λ s u. Good K fr.function s}
      (λ left. went left (record { var = var; part = part; needed = store_required left.context var part }))
      (ends_limited (here fr) part st (λ o. h))
      (λ left hl. ends (record { good = hl; path = path; need = K.store_need fr.function left.context var part hl.context }))

  pub taken_goes : (fr : Frame) (e : ExpressionHandle) (c : RequiredContext) (var : VarRef) (part : PartReq) (d : RemovedContext) (st : State) → resolve_var m fr.function e [] ≡ resolved var part → remove_var m (function_at m fr.function) c var part ≡ d → K.Context fr.function c → Good K fr.function st → Goes K fr.function (taken_out fr d st)
  unfolding taken_out
  taken_goes fr e c var part (left_context d) st path left hc h =
      ends_limited_context (here fr) d (with_context d st)
      (λ o. good_context K fr.function d st h (K.context_taken fr.function e c d var part hc path left o))
  taken_goes fr e c var part panic_context st path left hc h = stops refl

  -- what a statement asks besides
  abbrev pub Also : FunctionHandle → Walk (Unit {0}) → Type 0
  Also f w = (st : State) → Good K f st → Goes K f (w st)

  pub store_ends : (fr : Frame) (pointer : ExpressionHandle) (accessors : Walk (Unit {0})) (value : ExpressionHandle) (var : VarRef) (part : PartReq) (need : Subpart) (st : State) → resolve_var m fr.function pointer [] ≡ resolved var part → Needs K.Asked need → Also fr.function accessors → Good K fr.function st → Goes K fr.function (add_store m fr pointer accessors value var part need st)
  unfolding add_store
  store_ends fr pointer accessors value var part gone st path q ha h = ends h
  store_ends fr pointer accessors value var part (there p) st path q ha h =
      ends_next (λ left. went left true)
      (ends_next (ask m fr value p)
      (ends_next accessors
      (ends_next (ask m fr pointer exist)
      (taken_goes fr pointer st.context var part (remove_var m (function_at m fr.function) st.context var part) st path refl h.context h)
      (λ s hs. ask-goes fr pointer exist s K.exist_asked hs))
      ha)
      (λ s hs. ask-goes fr value p s q hs))
      (λ s hs. ends hs)

  pub store_goes : (fr : Frame) (pointer : ExpressionHandle) (accessors : Walk (Unit {0})) (value : ExpressionHandle) (st : State) → Also fr.function accessors → Good K fr.function st → Goes K fr.function (store m fr pointer accessors value st)
  store_goes fr pointer accessors value st ha h =
      ends_then (λ found t. add_store m fr pointer accessors value t.var t.part t.needed found)
      (target_found fr pointer (resolve_var m fr.function pointer []) st refl h)
      (λ found t hf. store_ends fr pointer accessors value t.var t.part t.needed found hf.path hf.need ha hf.good)

  pub atomic_goes : (fr : Frame) (pointer value : ExpressionHandle) (o : Option ExpressionHandle) (st : State) → Good K fr.function st → Goes K fr.function (add_atomic m fr pointer value o st)
  unfolding add_atomic
  atomic_goes fr pointer value o st h =
      ends_then
      (λ found t.
      let load = record_of found.exprs o in
      ask_result m fr o load found >> ask_needed m fr value t.needed >> λ left.
      went left (StatementReq.Atomic (is_there load || is_there t.needed)))
      (target_found fr pointer (resolve_var m fr.function pointer []) st refl h)
      (λ found t hf.
      ends_next (λ left. went left (StatementReq.Atomic (is_there (record_of found.exprs o) || is_there t.needed)))
      (ends_next (ask_needed m fr value t.needed)
      (result_goes fr o (record_of found.exprs o) found (record_needs fr.function found.exprs o hf.good.exprs) hf.good)
      (λ s hs. needed_goes fr value t.needed s hf.need hs))
      (λ s hs. ends hs))

  pub arguments_go : (fr : Frame) (g : FunctionHandle) (es : List ExpressionHandle) (i : ℕ) (c : RequiredContext) (st : State) → K.Context g c → Good K fr.function st → Goes K fr.function (ask_arguments m fr es i c.args st)
  unfolding ask_arguments
  arguments_go fr g [] i c st hc h = ends h
  arguments_go fr g (e ∷ es) i c st hc h =
      ends_next (ask_arguments m fr es (suc i) c.args)
      (needed_goes fr e (get_subpart c.args (variable i)) st (K.args_need g c i hc) h)
      (λ s hs. arguments_go fr g es (suc i) c s hc hs)

  pub call_ends : (fr : Frame) (g : FunctionHandle) (es : List ExpressionHandle) (o : Option ExpressionHandle) (req : Subpart) (c : RequiredContext) (r : Bool) (st : State) → K.Context g c → Needs K.Asked req → Good K fr.function st → Goes K fr.function (end_call m fr es o req c.args r st)
  unfolding end_call
  call_ends fr g es o req c true st hc q h =
      ends_next (λ left. went left (StatementReq.Call true (is_there req)))
      (ends_next (ask_result m fr o req) (arguments_go fr g es 0 c st hc h) (λ s hs. result_goes fr o req s q hs))
      (λ s hs. ends hs)
  call_ends fr g es o req c false st hc q h = ends h

  pub good_back : (f g : FunctionHandle) (caller ended : State) → Good K f caller → Good K g ended → Good K f (back caller ended)
  good_back f g caller ended h he =
      record { context = h.context; exprs = h.exprs; marks = h.marks; globals = he.globals; functions = he.functions; visits = he.visits }

  pub call-goes : (call : FunctionWalk) (fr : Frame) (g : FunctionHandle) (es : List ExpressionHandle) (o : Option ExpressionHandle) (st : State) → Calls g (call g) → Good K fr.function st → Goes K fr.function (add_call m call fr g es o st)
  unfolding add_call
  call-goes call fr g es o st hc h =
      let req = record_of st.exprs o in
      let needs = record_needs fr.function st.exprs o h.exprs in
      ends_then (λ ended r. end_call m fr es o req ended.context.args r (back st ended))
      (hc (here fr) (fr.held + pieces st.context + record_pieces st.exprs) st.context.globals (retval_of req) st
      (K.context_called fr.function g st.context req h.context needs) (totals fr.function st h))
      (λ ended r he. call_ends fr g es o req ended.context r (back st ended) he.context needs (good_back fr.function g st ended h he))

  pub when_goes : (f : FunctionHandle) (asks : Walk (Unit {0})) (need : Subpart) (st : State) → Also f asks → Good K f st → Goes K f (when_needed asks need st)
  unfolding when_needed
  when_goes f asks gone st ha h = ends h
  when_goes f asks (there p) st ha h = ends_next (λ left. went left (StatementReq.RayQuery true)) (ha st h) (λ left hl. ends hl)

  pub ray-goes : (fr : Frame) (e : ExpressionHandle) (asks : Walk (Unit {0})) (st : State) → Also fr.function asks → Good K fr.function st → Goes K fr.function (ray m fr e asks st)
  ray-goes fr e asks st ha h =
      ends_then (λ found t. when_needed asks t.needed found)
      (target_found fr e (resolve_var m fr.function e []) st refl h)
      (λ found t hf. when_goes fr.function asks t.needed found ha hf.good)

  pub mode-goes : (fr : Frame) (mode : GatherMode) (st : State) → Good K fr.function st → Goes K fr.function (ask_mode m fr mode st)
  unfolding ask_mode
  mode-goes fr BroadcastFirst st h = ends h
  mode-goes fr (Broadcast e) st h = ask-goes fr e all st K.all_asked h

  -- every arm
  pub statement_goes : (call : FunctionWalk) (block : BlockWalk) (fr : Frame) (s : Statement) (st : State) → ((g : FunctionHandle) → Calls g (call g)) → ((b : BlockHandle) → Blocks fr.function (block b)) → K.Context fr.function fr.base → Good K fr.function st → Goes K fr.function (add_statement m call block fr s st)
  unfolding add_statement
  statement_goes call block fr (Emit first last) st hc hb hbase h = ends h
  statement_goes call block fr (Block b) st hc hb hbase h = nested_goes block fr b st (hb b) h
  statement_goes call block fr (If condition accept reject) st hc hb hbase h = if_goes block fr condition accept reject st hb h
  statement_goes call block fr (Switch selector cases) st hc hb hbase h = switch_goes block fr selector cases st hb h
  statement_goes call block fr (Loop body continuing break_if) st hc hb hbase h = loop_goes block fr body continuing break_if st hb h
  statement_goes call block fr Break st hc hb hbase h = ends (good_context K fr.function fr.base st h hbase)
  statement_goes call block fr Continue st hc hb hbase h = ends (good_context K fr.function fr.base st h hbase)
  statement_goes call block fr (Return value) st hc hb hbase h =
      return_goes fr value (get_subpart st.context.retval (variable 0)) st hbase (K.retval_need fr.function st.context h.context) h
  statement_goes call block fr Kill st hc hb hbase h = ends h
  statement_goes call block fr ControlBarrier st hc hb hbase h = ends h
  statement_goes call block fr MemoryBarrier st hc hb hbase h = ends h
  statement_goes call block fr ImageAtomic st hc hb hbase h = stops refl
  statement_goes call block fr (Store pointer value) st hc hb hbase h =
      ends_then (λ left r. went left (StatementReq.Store r)) (store_goes fr pointer (λ asked. went asked tt) value st (λ s hs. ends hs) h) (λ left r hl. ends hl)
  statement_goes call block fr (AtomicStatement pointer value result) st hc hb hbase h = atomic_goes fr pointer value result st h
  statement_goes call block fr (Call function arguments result) st hc hb hbase h = call-goes call fr function arguments result st (hc function) h
  statement_goes call block fr (ImageStore image coordinate array_index value) st hc hb hbase h =
      ends_then (λ left r. went left (StatementReq.ImageStore r))
      (store_goes fr image (λ asked. ask m fr coordinate all asked >> ask_optional m fr array_index exist) value st
      (λ s hs. ends_next (ask_optional m fr array_index exist) (ask-goes fr coordinate all s K.all_asked hs) (λ t ht. optional_goes fr array_index exist t K.exist_asked ht)) h)
      (λ left r hl. ends hl)
  statement_goes call block fr (RayQuery query) st hc hb hbase h = ray-goes fr query (λ asked. went asked tt) st (λ s hs. ends hs) h
  statement_goes call block fr (WorkGroupUniformLoad pointer result) st hc hb hbase h =
      ray-goes fr result (ask m fr pointer all) st (λ s hs. ask-goes fr pointer all s K.all_asked hs) h
  statement_goes call block fr (SubgroupBallot result predicate) st hc hb hbase h =
      ray-goes fr result (ask_optional m fr predicate all) st (λ s hs. optional_goes fr predicate all s K.all_asked hs) h
  statement_goes call block fr (SubgroupGather mode argument result) st hc hb hbase h =
      ray-goes fr result (λ asked. ask_mode m fr mode asked >> ask m fr argument all) st
      (λ s hs. ends_next (ask m fr argument all) (mode-goes fr mode s hs) (λ t ht. ask-goes fr argument all t K.all_asked ht)) h
  statement_goes call block fr (SubgroupCollectiveOperation argument result) st hc hb hbase h =
      ray-goes fr result (ask m fr argument all) st (λ s hs. ask-goes fr argument all s K.all_asked hs) h

  pub good_marked : (f : FunctionHandle) (from : ℕ) (r : StatementReq) (st : State) → Good K f st → Good K f (with_marks (write_marks st.marks from (own_marks r)) st)
  good_marked f from r st h =
      record { context = h.context; exprs = h.exprs; marks = K.marks_written f st.marks from r h.marks; globals = h.globals; functions = h.functions; visits = h.visits }

  -- a visit of a statement
  pub visit_goes : (call : FunctionWalk) (block : BlockWalk) (fr : Frame) (st : State) → ((g : FunctionHandle) → Calls g (call g)) → ((b : BlockHandle) → Blocks fr.function (block b)) → K.Context fr.function fr.base → Good K fr.function st → Goes K fr.function (visit_statement m call block fr st)
  unfolding visit_statement
  visit_goes call block fr st hc hb hbase h =
      let s = statement_at m fr.function fr.statement in
      let from = marks_before (function_at m fr.function).statements fr.statement in
      ends_visit (λ n t. t) fr.held (here fr)
      (λ begun. add_statement m call block fr s begun >>= λ ended req. went (with_marks (write_marks ended.marks from (own_marks req)) ended) (required req)) st
      (λ few.
      ends_then (λ ended req. went (with_marks (write_marks ended.marks from (own_marks req)) ended) (required req))
      (statement_goes call block fr s (visited st) hc hb hbase (good_visited K fr.function st h few))
      (λ ended req he. ends (good_marked fr.function from req ended he)))
      (λ left r hl few. hl)

  pub statements_go : (f : FunctionHandle) (visit_one : ℕ → Bool → Walk Bool) (first n : ℕ) (b r : Bool) (st : State) → ((s : ℕ) (q : Bool) (u : State) → Good K f u → Goes K f (visit_one s q u)) → Good K f st → Goes K f (add_statements visit_one first n b r st)
  unfolding add_statements
  statements_go f visit_one first zero b r st hv h = ends h
  statements_go f visit_one first (suc n) b r st hv h =
      ends_then (λ left q. add_statements visit_one first n (b || q) (r || q) left) (hv (first + n) b st h)
      (λ left q hl. statements_go f visit_one first n (b || q) (r || q) left hv hl)

  block-step : (call : FunctionWalk) (f : FunctionHandle) (block : BlockWalk) (b : BlockHandle) → ((g : FunctionHandle) → Calls g (call g)) → ((a : BlockHandle) → Blocks f (block a)) → Blocks f (step_block m call f block b)
  unfolding step_block
  block-step call f block b hc hb held base r st hbase h =
      statements_go f
      (λ s q. visit_statement m call block (record { function = f; statement = s; held = held + pieces base; base = base; break_required = q }))
      (block_at m f b).first (block_at m f b).count r false (with_context base st)
      (λ s q u hu. visit_goes call block (record { function = f; statement = s; held = held + pieces base; base = base; break_required = q }) u hc hb hbase hu)
      (good_context K f base st h hbase)

  -- the walk of a block keeps what single changes keep
  pub block_keeps : (call : FunctionWalk) (f : FunctionHandle) → ((g : FunctionHandle) → Calls g (call g)) → (b : BlockHandle) → Blocks f (add_block m call f b)
  unfolding add_block
  block_keeps call f hc b =
      knot-all (λ a w. Blocks f w) (step_block m call f) no_block (λ a held base r st hbase h. stops refl) (λ block a hb. block-step call f block a hc hb) b
