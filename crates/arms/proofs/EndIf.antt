-- `If` ends as the definition's `end_if`, once both blocks have ended: 15 at the join, what its condition asks, or neither where it is not required.
use Prim.Native.Nat.{ℕ, ◌+◌, ◌≤◌}
use native.Mathlib.Nat.{le_refl}
use native.Mathlib.Omega.{arith}
use mathlib.Core.Path.{◌≡◌, refl, sym, ap, ◌∙◌}
use mathlib.Core.Bool.{Bool, true, false}
use mathlib.Core.List.{List}
use lib.ListN.{length}
use Rattle.std.specs.Prelude.{Result, Ok, Err}
use Rattle.field.specs.declared.refusal.Refusal.TheVariants.{PartLimit}
use Rattle.part.specs.PartReq.{all}
use Rattle.part.specs.Store.{Room}
use Rattle.module.specs.Module.{Module, FunctionHandle, ExpressionHandle}
use Rattle.module.specs.Tables.{module_of}
use Rattle.context.specs.RequiredContext.{RequiredContext, merge_context, pieces}
use Rattle.walk.specs.State.{State, Out, went, ◌>>◌, with_context}
use Rattle.walk.specs.StatementReq.{StatementReq}
use Rattle.walk.specs.Statement.{ask}
use Rattle.walk.specs.Expression.{add_expression}
use Rattle.walk.proofs.Parts.{fine_all}
use Rattle.memory.specs.Layout.{all_slot, stack_slot}
use Rattle.memory.specs.Memory.{read, context_at, Memory}
use Rattle.memory.specs.Want.{asked, Wants, want_of}
use Rattle.memory.proofs.Slots.{asked-slot}
use Rattle.marks.specs.declared.places.MarkPlaces.{MarkPlaces}
use Rattle.marks.specs.declared.totals.MarkTotals.{MarkTotals}
use Rattle.state.specs.Ready.{Ready, Ends}
use Rattle.state.specs.Frame.{frame_of}
use Rattle.state.specs.declared.answer.Place.TheVariants as place
use Rattle.state.specs.declared.frame.Frame.{Frame}
use Rattle.state.specs.declared.answer.Halt.{Halt}
use Rattle.state.specs.declared.answer.Tally.{Tally}
use Rattle.state.specs.declared.answer.Answer.{Answer}
use Rattle.expression.specs.Walks.{Walks}
use Rattle.statement.specs.Asks.{answer_of}
use Rattle.statement.proofs.Asking.{slot_wants}
use Rattle.block.specs.Standing.{rest_in, state_in, Standing}
use Rattle.block.specs.Saved.{Popped}
use Rattle.block.specs.Branches.{JoinedUp, BothDropped}
use Rattle.block.specs.Blocks.{context_in, Beside, StatementEnds}
use Rattle.block.specs.Pairing.{Branched}
use Rattle.block.proofs.Tops.{popped_state, popped_standing}
use Rattle.block.proofs.Steps.{beside_then, beside_context, beside_popped}
use Rattle.block.proofs.Joining.{join-room, join_state, join_standing, join_beside}
use Rattle.block.proofs.Unroll.{if_over, if_asks, if_not}
use Rattle.block.proofs.Asked.{Asks, asked_state, asked_standing, asked_beside}
use Rattle.block.proofs.Dropped.{beside_down, dropped}
use Rattle.arms.specs.Ifs.{IfAsked, end_in, IfEnds}

module _ {bytes t types : List ℕ} {places : MarkPlaces} {s rs open_marks : List ℕ} {totals : MarkTotals} {fr : Frame} {sum visits : ℕ} (B : Branched bytes t types places s rs open_marks totals fr sum visits) where
  abbrev m : Module
  m = module_of bytes t

  abbrev f : FunctionHandle
  f = fr.function.0

  abbrev at : ℕ
  at = fr.at

  abbrev outer : RequiredContext
  outer = context_at (read s rs) at

  abbrev first : RequiredContext
  first = context_at (read s rs) (at + 4)

  abbrev rejected : State
  rejected = state_in bytes t s rs open_marks totals f (at + 4 + 4) visits

  -- both contexts joined in the place of the current one
  module _ {r : Bool} {x xs : List ℕ} (J : JoinedUp s rs at r x xs) (e : r ≡ false) where
    low : stack_slot ≤ at + 4
    low = omega (arith, B.low)

    joined : Standing bytes t types places x J.between open_marks totals f (at + 4) (fr.held + context_in s rs at) sum visits
    joined = join_standing B.standing low J.joined (fr.held + context_in s rs at) refl B.first_fine e

    between : Beside bytes t f (at + 4) s rs open_marks x J.between open_marks
    between = join_beside B.standing low J.joined

    outer_same : context_at (read x J.between) at ≡ outer
    outer_same = beside_context between at B.low (omega arith)

    lowered : Popped x J.between at (context_at (read x J.between) (at + 4)) x xs
    lowered = J.lowered.is x joined.ready.memory B.low

    up_state : state_in bytes t x xs open_marks totals f at visits ≡ with_context (merge_context first rejected.context) rejected
    up_state = popped_state joined lowered B.low ∙ join_state B.standing low J.joined

    up : Standing bytes t types places x xs open_marks totals f at fr.held sum visits
    up =
        popped_standing joined lowered B.low fr.held (ap (λ (c : RequiredContext). fr.held + pieces c) (sym outer_same)) joined.proper.context
        (omega (arith, joined.ready.small))

    up_beside : Beside bytes t f at s rs open_marks x xs open_marks
    up_beside = beside_then at (beside_down (omega arith) between) (beside_popped joined lowered B.low) (le_refl at)

  module _ (condition : ExpressionHandle) where
    abbrev Ending : Bool → Out StatementReq
    Ending required = end_in bytes t s rs open_marks totals fr condition required visits

    abbrev Ended : Bool → Result Answer Halt → (u us : List ℕ) → Type 0
    Ended required r u us = StatementEnds bytes t types places s rs open_marks totals fr (Ending required) StatementReq.If r u us open_marks totals

    if_dropped : {us : List ℕ} → BothDropped rs at us → Ended false (Ok (record { tally = (record { visits = visits; sum = sum }); required = false })) s us
    if_dropped D =
        let d = dropped B D StatementReq.If in
        record {
          by = record { is = d.is ∙ sym (if_not m (frame_of s rs fr) condition outer first rejected); standing = d.standing; beside = d.beside };
        }

    module _ {r : Bool} {x xs : List ℕ} (J : JoinedUp s rs at r x xs) where
      if_limit : r ≡ true → Ended true (Err (record { refusal = PartLimit; place = place.Statement fr.function fr.statement })) x xs
      if_limit e = record { by = sym (if_over m (frame_of s rs fr) condition outer first rejected (sym e ∙ J.joined.over)) }

      -- the condition is asked
      module _ (e : r ≡ false) where
        if_then : {o : Out (Unit {0})} → o ≡ Asks (up J e) condition all → (o >> λ left. went left (StatementReq.If true)) ≡ Ending true
        if_then g =
            ap (λ (o : Out (Unit {0})). o >> λ left. went left (StatementReq.If true)) g
            ∙ ap (λ (st : State). ask m (frame_of s rs fr) condition all st >> λ left. went left (StatementReq.If true)) (up_state J e)
            ∙ sym (if_asks m (frame_of s rs fr) condition outer first rejected (sym e ∙ J.joined.over))

        if_answers : (w : Result Tally Halt) {y ys : List ℕ} → Ends bytes t f at fr.held x xs (rest_in m t f (read x xs) open_marks totals) (Asks (up J e) condition all) w y ys
            → Ended true (answer_of w true) y ys
        if_answers (Ok tally) E = record {
          by = record {
            is = if_then (asked_state (up J e) condition all E.by);
            standing = asked_standing (up J e) condition all E.by fine_all;
            beside = beside_then at (up_beside J e) (asked_beside (up J e) condition all E.by) (le_refl at);
          };
        }
        if_answers (Err stop) E = record { by = if_then E.by }

        if_asked : (w : Result Tally Halt) {y ys : List ℕ} → Walks bytes t f at fr.held x xs (add_expression m f fr.held condition (asked x xs (want_of all_slot))) visits w y ys
            → Ended true (answer_of w true) y ys
        if_asked w W =
            if_answers w (rw (asked-slot x xs all_slot, (up J e).ready.memory.first) at (W.by (rest_in m t f (read x xs) open_marks totals) (up J e).totals-sum))

-- what the code comes to
module _ {bytes t s rs : List ℕ} {fr : Frame} {sum visits : ℕ} (I : IfAsked bytes t s rs fr sum visits) where
  pub join-asked : Memory s rs × (((stack_slot ≤ fr.at) × (fr.at + 12 ≤ length rs)) × Room s (context_in s rs (fr.at + 4) + context_in s rs (fr.at + 4 + 4)))
  join-asked =
      let B = I.branched in (
        B.standing.ready.memory,
        ((B.low, omega (arith, B.standing.ready.high)), join-room s rs (fr.at + 4) B.roomy (omega (arith, B.first_few)) (omega (arith, B.second_few))),
      )

  pub condition_asked : {x xs : List ℕ} {over : Bool} → JoinedUp s rs fr.at over x xs → over ≡ false
      → Ready bytes t x xs fr.function.0 fr.at fr.held sum × Wants x xs (want_of all_slot)
  condition_asked J o =
      let r = (up I.branched J o).ready in
      (r, slot_wants r.memory all_slot (omega arith))

  module _ {condition : ExpressionHandle} {required : Bool} where
    pub ends_dropped : required ≡ false → {us : List ℕ} → BothDropped rs fr.at us
        → IfEnds bytes t s rs fr condition required sum visits (Ok (record { tally = (record { visits = visits; sum = sum }); required = false })) s us
    ends_dropped e D = rw e (record { by = λ types places open_marks totals B. if_dropped B condition D })

    module _ (e : required ≡ true) {over : Bool} {x xs : List ℕ} (J : JoinedUp s rs fr.at over x xs) where
      pub ends_over : over ≡ true → IfEnds bytes t s rs fr condition required sum visits (Err (record { refusal = PartLimit; place = place.Statement fr.function fr.statement })) x xs
      ends_over o = rw e (record { by = λ types places open_marks totals B. if_limit B condition J o })

      pub ends_asked : over ≡ false → (w : Result Tally Halt) {y ys : List ℕ}
          → Walks bytes t fr.function.0 fr.at fr.held x xs (add_expression (module_of bytes t) fr.function.0 fr.held condition (asked x xs (want_of all_slot))) visits w y ys
          → IfEnds bytes t s rs fr condition required sum visits (answer_of w true) y ys
      ends_asked o w W = rw e (record { by = λ types places open_marks totals B. if_asked B condition J o w W })
