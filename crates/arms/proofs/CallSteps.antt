-- The statement Call step by step: the called function is entered, its walk is that of the definition, it is left, and the call ends.
use Prim.Native.Nat.{ℕ, ◌+◌, ◌-◌, ◌*◌, ◌<◌, ◌≤◌}
use native.Mathlib.Omega.{arith}
use mathlib.Core.Path.{◌≡◌, sym, ap, ◌∙◌, subst}
use mathlib.Core.Bool.{Bool}
use mathlib.Core.List.{List}
use mathlib.Core.Option.{Option}
use lib.ListN.{length, get_or, replicate}
use Rattle.std.specs.Prelude.{Result, Ok, Err}
use Rattle.field.specs.Refusal.{number}
use Rattle.field.specs.Limits.{max_pieces}
use Rattle.part.specs.PartReq.{PartReq, Subpart, none, entries, spine}
use Rattle.part.specs.Store.{part}
use Rattle.module.specs.Module.{FunctionHandle, ExpressionHandle, BlockHandle, Module}
use Rattle.module.specs.Decode.{statement_of}
use Rattle.module.specs.Tables.{module_of, row_at, expressions_from}
use Rattle.access.specs.Access.{operand_at}
use Rattle.access.specs.declared.kinded.Kinded.{Kinded}
use Rattle.valid.proofs.Accepted.{valid}
use Rattle.context.specs.RequiredContext.{RequiredContext, pieces}
use Rattle.walk.specs.State.{Records, State, Place, Out, went, halt, with_marks, record_pieces}
use Rattle.walk.specs.Resolve.{function_at}
use Rattle.walk.specs.Marks.{body_of, write_marks}
use Rattle.walk.specs.StatementReq.{StatementReq, required, own_marks}
use Rattle.walk.specs.Statement.{here, retval_of, record_of, end_call, add_call, add_statement, back}
use Rattle.walk.specs.Statement as walk
use Rattle.walk.specs.Function.{entered, step_function, add_function}
use Rattle.walk.specs.Proper.{Sound, FineContext}
use Rattle.walk.proofs.Bind.{then_halt}
use Rattle.walk.proofs.Statements.{record_needs}
use Rattle.walk.proofs.Proper.{proper, good, context_fine}
use Rattle.module.specs.Marks.{marks_before}
use Rattle.sound.specs.Sizes.{record_number}
use Rattle.sound.proofs.Parts.{variables_within}
use Rattle.sound.proofs.Walks.{module_sound, function_is}
use Rattle.memory.specs.Layout.{exprs_slot, returned}
use Rattle.memory.specs.Memory.{read, context_at}
use Rattle.memory.proofs.Slots.{read_at, read-long}
use Rattle.memory.proofs.Records.{records_pieces}
use Rattle.memory.proofs.Runs.{context_put}
use Rattle.marks.specs.declared.places.MarkPlaces.{MarkPlaces}
use Rattle.marks.specs.declared.totals.MarkTotals.{MarkTotals}
use Rattle.marks.specs.Places.{start_in, size_in}
use Rattle.state.specs.State.{records_in, place_of}
use Rattle.state.specs.Frame.{frame_of}
use Rattle.state.specs.declared.answer.Tally.{Tally}
use Rattle.state.specs.declared.frame.Frame.{Frame}
use Rattle.state.specs.declared.answer.Halt.{Halt}
use Rattle.state.specs.declared.answer.Answer.{Answer}
use Rattle.state.proofs.Own.{fits, records_there}
use Rattle.call.specs.Calls.{frame_over, arguments_of}
use Rattle.leave.specs.Leave.{own_in, Leaving}
use Rattle.leave.proofs.Leaving.{left_returned}
use Rattle.block.specs.Standing.{state_in, Standing}
use Rattle.block.specs.Blocks.{context_in, Beside, StatementEnds}
use Rattle.block.specs.Visiting.{block_in, marked, Arms}
use Rattle.block.specs.Functions.{FunctionEntered, FunctionEnded, FunctionEnds}
use Rattle.block.specs.Left.{held_by, Left}
use Rattle.block.proofs.Calling.{entered-state, entered_standing}
use Rattle.block.proofs.Left.{left-state, left-standing, left-beside, beside_entered}
use Rattle.block.proofs.Steps.{beside_then, beside_context, ends_from}
use Rattle.block.proofs.Unroll.{call-halt, call_ends}
use Rattle.arms.specs.Calls.{result_of, result_need, called_context, CallBegins, CallBegan, LeavesCall, LeftCall, Returns, Returned}
use Rattle.arms.proofs.CallRows.{callee_lower, body_lower, arm_row}
use Rattle.arms.proofs.CallBegins.{called_few}

-- a function's walk looks at the totals and visits alone
function_from : (m : Module) (g : FunctionHandle) (at : Place) (held : ℕ) (globals retval : PartReq) (base : RequiredContext) (st : State)
    → ((x : State) → add_function m g at held globals retval x ≡ step_function m (add_function m) g at held globals retval x)
    → add_function m g at held globals retval (entered m g base st) ≡ add_function m g at held globals retval st
unfolding step_function entered
function_from m g at held globals retval base st is = is (entered m g base st) ∙ sym (is st)

-- the end of a call from equal things
end_same : (m : Module) {fr fs : walk.Frame} (es : List ExpressionHandle) (o : Option ExpressionHandle) {n k : Subpart} {p q : PartReq} (r : Bool) {st su : State}
    → fr ≡ fs → n ≡ k → p ≡ q → st ≡ su → end_call m fr es o n p r st ≡ end_call m fs es o k q r su
end_same m es o r a b c d = rw (a, b, c, d)

module _ {bytes t types : List ℕ} {places : MarkPlaces} {s rs open_marks : List ℕ} {totals : MarkTotals} {fr : Frame} {b : BlockHandle} {row : Kinded} {sum visits : ℕ} (A : Arms bytes t types places s rs open_marks totals fr b row sum visits) (kind : row.kind ≡ 14) where
  abbrev f : ℕ
  f = fr.function.0

  abbrev at : ℕ
  at = fr.at

  abbrev m : Module
  m = module_of bytes t

  abbrev o : ℕ → ℕ
  o = operand_at bytes row

  abbrev st : State
  st = state_in bytes t s rs open_marks totals f at visits

  abbrev need : Subpart
  need = result_need bytes t s rs f row

  abbrev base : RequiredContext
  base = called_context bytes t s rs f at row

  abbrev own_records : ℕ
  own_records = record_pieces (records_in t exprs_slot f (read s rs))

  abbrev Whole : Out StatementReq
  Whole = add_statement m (add_function m) (block_in bytes t f) (frame_of s rs fr) (statement_of row.kind (operand_at bytes row)) st

  standing : Standing bytes t types places s rs open_marks totals f at fr.held sum visits
  standing = A.begins.standing

  few : fr.held + (pieces (context_at (read s rs) at) + sum) ≤ max_pieces
  few = A.begins.begun.few

  own_few : own_records ≤ sum
  own_few = omega (arith, standing.ready.sums)

  high : at + 6 * (record_number m f b + 1) ≤ length rs
  high = A.begins.deep

  sound : Sound m
  sound = module_sound bytes m standing.ready.was_read.module_is

  pub call_high : at + 12 ≤ length rs
  call_high = omega (arith, high)

  pub call_begins : CallBegins bytes t places.starts s rs open_marks fr row sum
  call_begins = record { types = types; firsts = places.firsts; totals = totals; block = b; visits = visits; arms = A; kind = kind }

  -- the measure: the function's number falls
  pub callee_below : o 0 < f
  callee_below = callee_lower (arm_row A kind)

  whole_is : Whole ≡ add_call m (add_function m) (frame_of s rs fr) (o 0) (arguments_of bytes row (o 1)) (result_of bytes row) st
  unfolding add_statement statement_of
  whole_is = rw kind

  base_fine : (g : ℕ) → FineContext m g base
  base_fine g =
      let K = proper m sound 0 in
      let G = good m sound 0 f st standing.proper in
      context_fine m sound 0 g base
      (K.context_called f g (context_at (read s rs) at) need G.context (record_needs K f (records_in t exprs_slot f (read s rs)) (result_of bytes row) G.exprs))

  module _ {g : ℕ} (callee : g ≡ o 0) {held own : ℕ} {u us open-1 : List ℕ} (C : CallBegan bytes t places.starts s rs open_marks fr row held own u us open-1) where
    lower : g < f
    lower = rw callee callee_below

    cleared : open-1 ≡ write_marks open_marks (start_in places.starts g) (replicate (size_in places.starts g) 0)
    cleared = rw callee C.marks

    new_context : context_at (read u us) (at + 4) ≡ base
    new_context = rw C.saved.reads (context_put (read s rs) (at + 4) base (omega (arith, high, read-long s rs)))

    new_state : state_in bytes t u us open-1 totals g (at + 4) visits ≡ entered m g base st
    new_state = entered-state standing lower C.saved (omega (arith, high)) cleared

    pub call_own : own ≤ sum
    call_own = omega (arith, C.own_is, own_few)

    pub function_enters : FunctionEntered bytes t types places u us open-1 totals g (at + 4) held (sum - own) visits
    unfolding entered
    function_enters =
        let l = called_few bytes t s rs f at row in
        let i = C.own_is in
        let body : record_number m g (body_of m g) + 2 ≤ record_number m f b =
        rw callee (body_lower (arm_row A kind) b (omega (arith, A.within.low, A.within.high))) in
        record {
          standing = rw C.held_is (entered_standing standing lower C.saved (omega (arith, high)) cleared (omega (arith, own_few, i)) sound (base_fine g) (omega (arith, few, own_few, l, i)));
          no_locals = ap (λ (c : RequiredContext). c.locals) new_context;
          no_args = ap (λ (c : RequiredContext). c.args) new_context;
          no_records = ap (λ (x : State). x.exprs) new_state;
          no_marks = ap (λ (x : State). x.marks) new_state;
          base_few = omega (arith, ap pieces new_context, l, few, own_few);
          few = omega (arith, C.held_is, few, own_few);
          sum_few = omega (arith, few);
          deep = omega (arith, high, C.saved.long, body);
          roomy = C.roomy;
        }

    abbrev Called : Out Bool
    Called = add_function m g (here (frame_of s rs fr)) held (get_or (read u us) (at + 4) none) (get_or (read u us) (at + 4 + 3) none) (state_in bytes t u us open-1 totals g (at + 4) visits)

    called_is : Called ≡ add_function m (o 0) (here (frame_of s rs fr)) (held_by t s rs f at fr.held) st.context.globals (retval_of need) st
    called_is =
        rw (C.held_is, new_state, ap (λ (c : RequiredContext). c.globals) new_context, ap (λ (c : RequiredContext). c.retval) new_context, callee)
        (function_from m (o 0) (here (frame_of s rs fr)) (held_by t s rs f at fr.held) st.context.globals (retval_of need) base st
        (function_is bytes m standing.ready.was_read.module_is (o 0) (here (frame_of s rs fr)) (held_by t s rs f at fr.held) st.context.globals (retval_of need)))

    module _ {r : Result Answer Halt} {v vs open-2 : List ℕ} {totals-2 : MarkTotals} (F : FunctionEnds bytes t types places u us open-1 totals g (at + 4) held Called r v vs open-2 totals-2) where
      pub call_stops : {stop : Halt} → r ≡ Err stop
          → StatementEnds bytes t types places s rs open_marks totals fr (marked m (frame_of s rs fr) Whole) (λ x. x) (Err stop) v vs open-2 totals-2
      call_stops {stop} e =
          let h : halt (number stop.refusal) (place_of stop.place) ≡ Called = (rw e at F).by in
          record {
            by = sym (then_halt (λ ended req. went (with_marks (write_marks ended.marks (marks_before (function_at m f).statements fr.statement) (own_marks req)) ended) (required req))
                (whole_is ∙ call-halt m (add_function m) (frame_of s rs fr) (o 0) (arguments_of bytes row (o 1)) (result_of bytes row) st (h ∙ called_is)));
          }

      module _ {tally : Tally} {req : Bool} (e : r ≡ Ok (record { tally = tally; required = req })) where
        ended : FunctionEnded bytes t types places u us open-1 totals g (at + 4) held Called tally.visits tally.sum req v vs open-2 totals-2
        ended = (rw e at F).by

        eight : at + 4 + 4 ≡ at + 8
        eight = omega arith

        callee_standing : Standing bytes t types places v vs open-2 totals-2 g (at + 8) (held + context_in v vs (at + 4)) tally.sum tally.visits
        callee_standing =
            subst (λ (k : ℕ). Standing bytes t types places v vs open-2 totals-2 g k (held + context_in v vs (at + 4)) tally.sum tally.visits) eight ended.standing

        leaving : Leaving bytes t v vs g (at + 4) (at + 8)
        leaving =
            let S = callee_standing in
            let l = standing.ready.low in
            let h = S.ready.high in
            record {
              was_read = S.ready.was_read;
              function = S.ready.function;
              memory = S.ready.memory;
              base_low = omega arith;
              base_high = omega arith;
              low = S.ready.low;
              high = h;
              few = omega (arith, ended.args_few, ap (λ (k : ℕ). entries (get_or (read v vs) (k + 2) none)) eight);
              within = variables_within _ spine (get_or (read v vs) (at + 8 + 2) none) (omega arith) S.proper.context.args;
            }

        left : Left bytes t types places s rs open_marks totals f at fr.held sum visits g (held + context_in v vs (at + 4)) tally.sum tally.visits v vs open-2 totals-2
        left = record {
          caller = standing;
          callee = callee_standing;
          lower = lower;
          least = omega (arith, C.held_is);
          most = omega (arith, C.held_is);
          beside = beside_then (at + 4 + 4) (beside_entered standing lower C.saved cleared) ended.beside (omega arith);
          leaving = leaving;
        }

        callee_own : own_in t v vs g ≡ record_pieces (records_in t exprs_slot g (read v vs))
        callee_own =
            let R = callee_standing.ready in
            sym (records_pieces (read v vs) (exprs_slot + expressions_from (row_at t g)) (row_at t g).expressions (records_there t g (fits g R.was_read R.function) R.memory))

        pub call_sum : tally.sum + own ≤ 5 * max_pieces
        call_sum = omega (arith, ended.sum_few, call_own, few)

        pub call_leaves : LeavesCall t v vs g at (tally.sum + own)
        call_leaves =
            let R = callee_standing.ready in
            let l = R.function in
            let h = R.high in
            record {
              memory = R.memory;
              placed = record {
                few = omega (arith, (valid bytes m R.was_read.module_is).few_functions);
                records = fits g R.was_read l;
                slots = R.memory.slots;
              };
              high = omega arith;
              few = omega (arith, callee_own, R.sums, ended.sum_few);
              counts = omega (arith, callee_own, R.sums);
            }

        module _ {n : ℕ} {ws : List ℕ} (D : LeftCall t v vs g at (tally.sum + own) n ws) where
          back-state : state_in bytes t v ws open-2 totals-2 f at tally.visits ≡ back st (state_in bytes t v vs open-2 totals-2 g (at + 8) tally.visits)
          back-state = rw D.slots (left-state left)

          back_standing : Standing bytes t types places v ws open-2 totals-2 f at fr.held n tally.visits
          back_standing = rw D.slots (left-standing left (omega (arith, D.sums, callee_own, C.own_is)))

          back_beside : Beside bytes t f at s rs open_marks v ws open-2
          back_beside = rw D.slots (left-beside left)

          args_back : part v (get_or ws returned 0) ≡ get_or (read v vs) (at + 8 + 2) none
          args_back = sym (read_at v ws returned (omega (arith, back_standing.ready.memory.slots))) ∙ rw D.slots (left_returned leaving)

          records_back : records_in t exprs_slot f (read v ws) ≡ records_in t exprs_slot f (read s rs)
          records_back = ap (λ (x : State). x.exprs) back-state

          pub call_returns : Returns bytes t places.firsts v ws open-2 fr row tally.visits n
          call_returns = record {
            types = types;
            starts = places.starts;
            totals = totals-2;
            standing = back_standing;
            statement = A.begins.begun.statement;
            is = A.is;
            kind = kind;
            callee = g;
            args = rw args_back callee_standing.proper.context.args;
            few = omega (arith, ap record_pieces records_back, own_few, few);
          }

          frame_back : frame_of s rs fr ≡ frame_of v ws fr
          frame_back =
              ap (λ (c : RequiredContext). frame_over fr c) (sym (beside_context back_beside fr.base A.begins.begun.base_low A.begins.begun.base_below))

          whole_ends : Whole ≡ end_call m (frame_of v ws fr) (arguments_of bytes row (o 1)) (result_of bytes row) (result_need bytes t v ws f row) (part v (get_or ws returned 0)) req (state_in bytes t v ws open-2 totals-2 f at tally.visits)
          whole_ends =
              whole_is ∙ call_ends m (add_function m) (frame_of s rs fr) (o 0) (arguments_of bytes row (o 1)) (result_of bytes row) st (ended.is ∙ called_is)
              ∙ end_same m (arguments_of bytes row (o 1)) (result_of bytes row) req frame_back (ap (λ (es : Records). record_of es (result_of bytes row)) (sym records_back))
              (ap (λ (k : ℕ). get_or (read v vs) (k + 2) none) eight ∙ sym args_back) (sym back-state)

          pub call_ended : {a : Result Answer Halt} {x xs open-3 : List ℕ} → Returned bytes t places.firsts v ws open-2 fr row req tally.visits n a x xs open-3
              → StatementEnds bytes t types places s rs open_marks totals fr (marked m (frame_of s rs fr) Whole) (λ x. x) a x xs open-3 totals-2
          call_ended {a} R =
              ends_from a back_beside (sym (ap (λ (y : Out StatementReq). marked m (frame_of s rs fr) y) whole_ends)) (R.by types places.starts totals-2 back_standing)
