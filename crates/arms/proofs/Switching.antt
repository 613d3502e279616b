-- The end of a case, and of a Switch: the joined cases are put aside while the selector is asked in the statement's context, and then take that one's place.
use Prim.Native.Nat.{ℕ, ◌+◌, ◌-◌, ◌≤◌}
use native.Mathlib.Nat.{le_refl}
use native.Mathlib.Omega.{arith}
use mathlib.Core.Path.{◌≡◌, refl, sym, ap, subst, ◌∙◌}
use mathlib.Core.Bool.{Bool, true, false}
use mathlib.Core.List.{List}
use lib.ListN.{length, get_or}
use Rattle.walk.specs.Resolve.{function_at}
use lib.Seq.{get_or-set_same, get_or-set_other}
use Rattle.std.specs.Prelude.{Result, Ok, Err}
use Rattle.field.specs.Refusal.{number}
use Rattle.part.specs.PartReq.{PartReq, all, none, spine}
use Rattle.part.specs.Store.{part}
use Rattle.module.specs.Module.{ExpressionHandle, Module}
use Rattle.module.specs.Tables.{module_of}
use Rattle.context.specs.RequiredContext.{RequiredContext, over_context, pieces}
use Rattle.walk.specs.State.{State, Place, Out, went, halt, with_context}
use Rattle.walk.specs.StatementReq.{StatementReq}
use Rattle.walk.specs.Statement.{Frame as WalkFrame, ask, end_switch}
use Rattle.walk.specs.Expression.{add_expression}
use Rattle.walk.specs.Proper.{FineContext}
use Rattle.walk.proofs.Parts.{fine_all}
use Rattle.walk.proofs.Room.{pieces-merge}
use Rattle.sound.proofs.Parts.{variables_within}
use Rattle.memory.specs.Layout.{globals_slot, stack_slot, result, most}
use Rattle.memory.specs.Memory.{read, counted, context_at, Memory, Tidied}
use Rattle.memory.specs.Want.{asked, Wants, want_of}
use Rattle.memory.proofs.Slots.{read_at, read-long, asked-slot}
use Rattle.memory.proofs.Runs.{context_same}
use Rattle.marks.specs.declared.places.MarkPlaces.{MarkPlaces}
use Rattle.marks.specs.declared.totals.MarkTotals.{MarkTotals}
use Rattle.state.specs.State.{place_of}
use Rattle.state.specs.Ready.{Ready, Ended, Ending, Ends}
use Rattle.state.specs.Frame.{frame_of, Apart}
use Rattle.state.specs.declared.answer.Tally.{Tally}
use Rattle.state.specs.declared.frame.Frame.{Frame}
use Rattle.state.specs.declared.answer.Halt.{Halt}
use Rattle.state.proofs.Others.{sum_same}
use Rattle.expression.specs.Walks.{Walks}
use Rattle.statement.proofs.Asking.{slot_wants}
use Rattle.block.specs.Aside.{aside, from_aside, Asiding, Aside}
use Rattle.block.specs.Saved.{Saved, Popped, Dropped, Joined}
use Rattle.block.specs.Standing.{rest_in, state_in, Standing}
use Rattle.block.specs.Blocks.{context_in, Beside, StatementEnded}
use Rattle.block.proofs.Same.{own_sum, state_same}
use Rattle.block.proofs.Sides.{aside-back}
use Rattle.block.proofs.Tops.{one_counted, put_below, popped_below, popped_state, popped_standing, saved_state, saved_standing}
use Rattle.block.proofs.Steps.{beside_same, beside_then, beside_popped, apart_standing, beside_apart}
use Rattle.block.proofs.Asked.{Asks, asked_state, asked_standing, asked_beside}
use Rattle.arms.specs.Switches.{Casing, with_case, CaseEnds, Switched, SwitchEnds}

-- a case is joined
module _ {s rs : List ℕ} {k : ℕ} (C : Casing s rs k) {r : Bool} {u us : List ℕ} (J : Joined s rs k r u us) where
  pub case_over : r ≡ true → CaseEnds s rs k true u us
  case_over e = record { by = sym J.over ∙ e }

  pub case_tidies : Memory u us × (counted (read u us) ≤ most)
  case_tidies =
      let lower = context_at (read s rs) k in
      let upper = context_at (read s rs) (k + 4) in
      let low = C.low in
      (J.popped.memory, omega (arith, C.few, ap counted J.popped.reads, one_counted (read s rs) k (with_case s rs k) (omega (arith, C.high, read-long s rs)) (omega arith), pieces-merge lower upper))

  pub case_joined : {w ws : List ℕ} → r ≡ false → Tidied u us w ws → CaseEnds s rs k false w ws
  case_joined e T = record {
    by = record {
      within = sym J.over ∙ e;
      popped = record { memory = T.memory; reads = T.same ∙ J.popped.reads; long = T.long ∙ J.popped.long };
      roomy = T.roomy;
    };
  }

context_within : {m : Module} {f : ℕ} (c : RequiredContext) → FineContext m f c → over_context c ≡ false
unfolding over_context
context_within {m} {f} c h =
    rw (
      variables_within (length m.globals) spine c.globals (le_refl spine) h.globals,
      variables_within (length (function_at m f).locals) spine c.locals (le_refl spine) h.locals,
      variables_within (length (function_at m f).arguments) spine c.args (le_refl spine) h.args,
      variables_within 1 spine c.retval (le_refl spine) h.retval,
    )

-- the definition's end
module _ (m : Module) (fr : WalkFrame) (selector : ExpressionHandle) (before : RequiredContext) (walked : State) where
  switch_not : end_switch m fr selector before false walked ≡ went (with_context before walked) (StatementReq.Switch false)
  unfolding end_switch
  switch_not = refl

  abbrev Selector : Out (Unit {0})
  Selector = ask m fr selector all (with_context before walked)

  selector-halts : {k : ℕ} {at : Place} → halt k at ≡ Selector → end_switch m fr selector before true walked ≡ halt k at
  unfolding end_switch
  selector-halts e = rw (← e)

  selector-asked : {left : State} {u : Unit {0}} → went left u ≡ Selector
      → end_switch m fr selector before true walked ≡ went (with_context walked.context left) (StatementReq.Switch true)
  unfolding end_switch
  selector-asked e = rw (← e)

-- a context put at the top leaves what is below
pub beside_saved : {bytes t : List ℕ} {f at : ℕ} {c : RequiredContext} {s rs u us open_marks : List ℕ} → stack_slot ≤ at → Saved s rs at c u us
    → Beside bytes t f at s rs open_marks u us open_marks
beside_saved {at = at} {c = c} {s = s} {rs = rs} low d = record {
  long = d.long;
  stack = λ k a b. rw d.reads (put_below (read s rs) at c k b);
  records = λ k a b n. rw d.reads (put_below (read s rs) at c k (omega arith));
  marks_long = refl;
  marks = λ k a. refl;
}

module _ {bytes t types : List ℕ} {places : MarkPlaces} {s rs open_marks : List ℕ} {totals : MarkTotals} {fr : Frame} {sum visits : ℕ} (W : Switched bytes t types places s rs open_marks totals fr sum visits) where
  abbrev at : ℕ
  at = fr.at

  abbrev f : ℕ
  f = fr.function.0

  abbrev m : Module
  m = module_of bytes t

  abbrev outer : RequiredContext
  outer = context_at (read s rs) at

  abbrev joined : RequiredContext
  joined = context_at (read s rs) (at + 4)

  abbrev walked : State
  walked = state_in bytes t s rs open_marks totals f (at + 4) visits

  abbrev Total : (selector : ExpressionHandle) (required : Bool) → Out StatementReq
  Total selector required = end_switch m (frame_of s rs fr) selector outer required walked

  -- not required: they are forgotten
  switch_dropped : {us : List ℕ} (selector : ExpressionHandle) → Dropped rs at us
      → StatementEnded bytes t types places s rs open_marks totals fr (Total selector false) StatementReq.Switch visits sum false s us open_marks totals
  switch_dropped {us} selector D =
      let S = W.standing in
      let P : Popped s rs at outer s us = D.is s S.ready.memory W.low in
      record {
        is = ap (λ (st : State). went st (StatementReq.Switch false)) (popped_state S P W.low) ∙ sym (switch_not m (frame_of s rs fr) selector outer walked);
        standing = popped_standing S P W.low fr.held refl W.outer_fine (omega (arith, S.ready.small));
        beside = beside_popped S P W.low;
      }

  -- required: they are put aside
  pub aside_asks : Asiding s rs (at + 4)
  aside_asks = record {
    memory = W.standing.ready.memory;
    high = W.standing.ready.high;
    few = W.few;
    within = context_within joined W.standing.proper.context;
    roomy = omega (arith, W.roomy);
  }

  module _ {u us : List ℕ} (A : Aside s rs (at + 4) u us) where
    aside_same : (k : ℕ) → globals_slot ≤ k → get_or (read u us) k none ≡ get_or (read s rs) k none
    aside_same k l = ap (λ (ps : List PartReq). get_or ps k none) A.stored.reads ∙ get_or-set_other (read s rs) result k (aside joined) none (omega arith)

    aside_there : get_or (read u us) result none ≡ aside joined
    aside_there =
        ap (λ (ps : List PartReq). get_or ps result none) A.stored.reads
        ∙ get_or-set_same (read s rs) result (aside joined) none (omega (arith, W.standing.ready.memory.slots, read-long s rs))

    aside_apart : Apart t f (at + 4) s rs u us
    aside_apart = record { long = A.stored.long; same = λ k l e. aside_same k l }

    joined_same : context_at (read u us) (at + 4) ≡ joined
    joined_same = let low = W.low in context_same (read s rs) (read u us) (at + 4) (λ i l. aside_same (at + 4 + i) (omega arith))

    outer_same : context_at (read u us) at ≡ outer
    outer_same = let low = W.low in context_same (read s rs) (read u us) at (λ i l. aside_same (at + i) (omega arith))

    aside_counted : counted (read u us) ≡ counted (read s rs)
    aside_counted =
        let e : length (read u us) ≡ length (read s rs) = read-long u us ∙ A.stored.long ∙ sym (read-long s rs) in
        rw e (sum_same (read u us) (read s rs) globals_slot (length (read s rs) - globals_slot) (λ j l. aside_same (globals_slot + j) (omega arith)))

    aside_state : state_in bytes t u us open_marks totals f (at + 4) visits ≡ walked
    aside_state =
        state_same (read s rs) (read u us) W.standing.ready.was_read f W.standing.ready.function (λ k a b. aside_same k a) (at + 4) visits open_marks totals
        ∙ ap (λ (c : RequiredContext). with_context c walked) joined_same

    aside_standing : Standing bytes t types places u us open_marks totals f (at + 4) (fr.held + context_in s rs at) sum visits
    aside_standing =
        let R = W.standing.ready in
        let e = ap pieces joined_same in
        apart_standing W.standing aside_apart
        (record {
          was_read = R.was_read;
          function = R.function;
          memory = A.stored.memory;
          low = R.low;
          high = omega (arith, R.high, A.stored.long);
          sums = R.sums ∙ sym (own_sum (read s rs) (read u us) R.was_read f R.function (λ k a b. aside_same k a));
          owned = omega (arith, R.owned, aside_counted);
          small = omega (arith, R.small);
        })
        (rw aside_state W.standing.proper)

    module _ {vs : List ℕ} (D : Dropped us at vs) where
      popped : Popped u us at (context_at (read u us) at) u vs
      popped = D.is u A.stored.memory W.low

      down : Standing bytes t types places u vs open_marks totals f at fr.held sum visits
      down =
          popped_standing aside_standing popped W.low fr.held (ap (λ (c : RequiredContext). fr.held + pieces c) (sym outer_same)) (rw outer_same W.outer_fine)
          (omega (arith, W.standing.ready.small, ap pieces outer_same))

      down_state : state_in bytes t u vs open_marks totals f at visits ≡ with_context outer walked
      down_state =
          popped_state aside_standing popped W.low
          ∙ ap (λ (c : RequiredContext). with_context c (state_in bytes t u us open_marks totals f (at + 4) visits)) outer_same
          ∙ ap (λ (st : State). with_context outer st) aside_state

      down_beside : Beside bytes t f at s rs open_marks u vs open_marks
      down_beside =
          beside_then at (beside_then (at + 4) (beside_same refl refl) (beside_apart W.standing aside_apart) (omega arith)) (beside_popped aside_standing popped W.low)
          (le_refl at)

      -- the selector is asked
      pub selector_asks : Ready bytes t u vs f at fr.held sum × Wants u vs (want_of 0)
      selector_asks = (down.ready, slot_wants down.ready.memory 0 (omega arith))

      module _ (selector : ExpressionHandle) {r : Result Tally Halt} {x xs : List ℕ}
          (X : Walks bytes t f at fr.held u vs (add_expression m f fr.held selector (asked u vs (want_of 0))) visits r x xs) where
        ends : Ends bytes t f at fr.held u vs (rest_in m t f (read u vs) open_marks totals) (Asks down selector all) r x xs
        ends =
            subst
            (λ (p : PartReq). Ends bytes t f at fr.held u vs (rest_in m t f (read u vs) open_marks totals) (add_expression m f fr.held selector p (state_in bytes t u vs open_marks totals f at visits)) r x xs)
            (asked-slot u vs 0 ∙ down.ready.memory.first) (X.by (rest_in m t f (read u vs) open_marks totals) down.totals-sum)

        asks_is : Asks down selector all ≡ ask m (frame_of s rs fr) selector all (with_context outer walked)
        asks_is = ap (λ (st : State). add_expression m f fr.held selector all st) down_state

        selector-halt : {stop : Halt} → r ≡ Err stop → halt (number stop.refusal) (place_of stop.place) ≡ Total selector true
        selector-halt {stop} e =
            let h : halt (number stop.refusal) (place_of stop.place) ≡ Asks down selector all =
            subst (λ (w : Result Tally Halt). Ending bytes t f at fr.held u vs (rest_in m t f (read u vs) open_marks totals) (Asks down selector all) w x xs) e ends.by in
            sym (selector-halts m (frame_of s rs fr) selector outer walked (h ∙ asks_is))

        module _ {tally : Tally} (e : r ≡ Ok tally) where
          ended : Ended bytes t f at fr.held u vs (rest_in m t f (read u vs) open_marks totals) (Asks down selector all) tally.visits tally.sum x xs
          ended = subst (λ (w : Result Tally Halt). Ending bytes t f at fr.held u vs (rest_in m t f (read u vs) open_marks totals) (Asks down selector all) w x xs) e ends.by

          left : Standing bytes t types places x xs open_marks totals f at fr.held tally.sum tally.visits
          left = asked_standing down selector all ended fine_all

          pub back_asks : Memory x xs × ((stack_slot ≤ at) × (at + 4 ≤ length xs))
          back_asks = (left.ready.memory, (W.low, left.ready.high))

          still_aside : part x (get_or xs result 0) ≡ aside joined
          still_aside =
              let low = W.low in
              sym (read_at x xs result (omega (arith, left.ready.memory.slots)))
              ∙ ended.others.same result (record { no_total = omega arith; no_record = λ i l z. omega arith; no_context = λ i l z. omega arith })
              ∙ popped_below aside_standing popped low result (omega arith)
              ∙ aside_there

          selector-ends : {ys : List ℕ} → Saved x xs at (from_aside (part x (get_or xs result 0))) x ys
              → StatementEnded bytes t types places s rs open_marks totals fr (Total selector true) StatementReq.Switch tally.visits tally.sum true x ys open_marks totals
          selector-ends {ys} B =
              let C : Saved x xs at joined x ys = subst (λ (c : RequiredContext). Saved x xs at c x ys) (ap from_aside still_aside ∙ aside-back joined) B in
              record {
                is = ap (λ (st : State). went st (StatementReq.Switch true)) (saved_state left C)
                    ∙ sym (selector-asked m (frame_of s rs fr) selector outer walked (asked_state down selector all ended ∙ asks_is));
                standing = saved_standing left C W.standing.proper.context (omega (arith, W.few, ended.few));
                beside = beside_then at (beside_then at down_beside (asked_beside down selector all ended) (le_refl at)) (beside_saved W.low C) (le_refl at);
              }

-- what `end_switch` gives
module _ {bytes t s rs : List ℕ} {fr : Frame} {sum visits : ℕ} (selector : ExpressionHandle) where
  pub switch_drops : {required : Bool} {us : List ℕ} → required ≡ false → Dropped rs fr.at us
      → SwitchEnds bytes t s rs fr selector required sum visits (Ok (record { tally = (record { visits = visits; sum = sum }); required = false })) s us
  switch_drops e D = rw e (record { by = λ types places open_marks totals W. record { by = switch_dropped W selector D } })

  module _ {required : Bool} (is : required ≡ true) {u us vs : List ℕ} (A : Aside s rs (fr.at + 4) u us) (D : Dropped us fr.at vs) {r : Result Tally Halt} {x xs : List ℕ}
      (X : Walks bytes t fr.function.0 fr.at fr.held u vs (add_expression (module_of bytes t) fr.function.0 fr.held selector (asked u vs (want_of 0))) visits r x xs) where
    pub switch_halts : {stop : Halt} → r ≡ Err stop → SwitchEnds bytes t s rs fr selector required sum visits (Err stop) x xs
    switch_halts e = rw is (record { by = λ types places open_marks totals W. record { by = selector-halt W A D selector X e } })

    pub switch_takes : {tally : Tally} {ys : List ℕ} → r ≡ Ok tally → Saved x xs fr.at (from_aside (part x (get_or xs result 0))) x ys
        → SwitchEnds bytes t s rs fr selector required sum visits (Ok (record { tally = tally; required = true })) x ys
    switch_takes e B = rw is (record { by = λ types places open_marks totals W. record { by = selector-ends W A D selector X e B } })
