-- The end of a call: what the result is asked for stands in its slot, the arguments and the result are asked, and the marks of the call are written.
use Prim.Native.Nat.{ℕ, ◌+◌, ◌<◌, ◌≤◌}
use native.Mathlib.Omega.{arith}
use mathlib.Core.Path.{◌≡◌, refl, sym, ap, ◌∙◌, subst}
use mathlib.Core.Bool.{Bool, true, false, not}
use mathlib.Core.List.{List, [], ◌∷◌}
use lib.ListN.{length, get_or, set}
use lib.Seq.{get_or-set_other}
use borrow.Author.Tests.{not-true, not-false}
use Rattle.std.specs.Prelude.{Option, Some, None, Result, Ok, Err}
use Rattle.field.specs.Limits.{max_arguments}
use Rattle.part.specs.PartReq.{PartReq, none, Subpart, there, entries}
use Rattle.part.specs.Store.{part}
use Rattle.part.specs.Found.{Got}
use Rattle.module.specs.Module.{Module}
use Rattle.module.specs.Marks.{mark_count, marks_before}
use Rattle.module.specs.Decode.{option_of}
use Rattle.module.specs.Tables.{module_of}
use Rattle.access.specs.Access.{operand_at, statement_number}
use Rattle.access.specs.declared.kinded.Kinded.{Kinded}
use Rattle.context.specs.RequiredContext.{RequiredContext}
use Rattle.walk.specs.State.{State, Out, went, with_marks, record_pieces}
use Rattle.walk.specs.Marks.{statement_at, write_marks}
use Rattle.walk.specs.Resolve.{function_at, is_there}
use Rattle.walk.specs.StatementReq.{StatementReq, required, mark, own_marks}
use Rattle.walk.specs.Statement.{record_of, retval_of, end_call}
use Rattle.walk.specs.Proper.{Sound, ProperState}
use Rattle.walk.proofs.Bind.{then_went, then_halt}
use Rattle.walk.proofs.Ends.{ended}
use Rattle.walk.proofs.Keeps.{Needs}
use Rattle.walk.proofs.Statements.{record_needs, call_ends}
use Rattle.walk.proofs.Proper.{proper, good, state, fine_context, asked_fine}
use Rattle.sound.proofs.Walks.{module_sound}
use Rattle.memory.specs.Layout.{result, returned, exprs_slot}
use Rattle.memory.specs.Memory.{read, context_at}
use Rattle.marks.proofs.Buffers.{own_fits}
use Rattle.marks.specs.Places.{places_of}
use Rattle.marks.specs.declared.totals.MarkTotals.{MarkTotals}
use Rattle.state.specs.State.{Rest, records_in, state_of, totals_sum}
use Rattle.state.specs.Ready.{Ready}
use Rattle.state.specs.Frame.{frame_of, Apart, ArmEnded, ArmEnds}
use Rattle.state.specs.declared.answer.Tally.{Tally}
use Rattle.state.specs.declared.frame.Frame.{Frame}
use Rattle.state.specs.declared.answer.Halt.{Halt}
use Rattle.state.specs.declared.answer.Answer.{Answer}
use Rattle.statement.specs.Aside.{aside_slots, Loading}
use Rattle.statement.proofs.Holding.{Holdable, hold_ready, hold_state, hold_totals, hold_apart, hold_part}
use Rattle.statement.proofs.Uses.{in_function}
use Rattle.call.specs.Calls.{arguments_of, requested, Calling, EndsCall}
use Rattle.call.proofs.Rows.{call_is, few_arguments, result_there, CallRow}
use Rattle.block.specs.Standing.{rest_in, state_in, Standing}
use Rattle.block.specs.Blocks.{StatementEnded, StatementEnds}
use Rattle.block.specs.Visiting.{marked}
use Rattle.block.proofs.Steps.{apart_state, apart_standing, beside_apart, beside_then}
use Rattle.arms.specs.Calls.{result_of, result_need, found_part, was_found, Returns, Returned, call_marks}
use Rattle.arms.proofs.CallBegins.{got_piece, got_part, retval_few}
use Rattle.arms.proofs.Marking.{written_state, written_standing, written_beside}

-- what was found, put aside and marked
pub result-held : {found : Option ℕ} {n : ℕ} (rs : List ℕ) → found ≡ Some n → (true ≡ was_found found) × (set rs result n ≡ aside_slots rs result found)
result-held rs e = rw e (refl, refl)

pub call_marked : {r : Result Answer Halt} {tally : Tally} {b : Bool} {after : List ℕ} (open_marks : List ℕ) (at : ℕ) (asked : Bool) → r ≡ Ok (record { tally = tally; required = b })
    → after ≡ write_marks open_marks at (mark b ∷ mark asked ∷ []) → (Ok (record { tally = tally; required = b }) ≡ r) × (after ≡ call_marks open_marks at asked r)
call_marked open_marks at asked e h = rw e (refl, h)

pub call_halted : {r : Result Answer Halt} {stop : Halt} (open_marks : List ℕ) (at : ℕ) (asked : Bool) → r ≡ Err stop → (Err stop ≡ r) × (open_marks ≡ call_marks open_marks at asked r)
call_halted open_marks at asked e = rw e (refl, refl)

there_is : (s : List ℕ) (found : Option ℕ) → was_found found ≡ is_there (found_part s found)
unfolding is_there
there_is s None = refl
there_is s (Some n) = refl

retval_there : (p : PartReq) (n : ℕ) → entries (retval_of (there p)) ≤ n → entries p ≤ n
unfolding retval_of entries
retval_there p n h = omega (arith, h)

-- what was found, in the slot of the result
record Held (bytes t s rs : List ℕ) (fr : Frame) (sum : ℕ) (found : Option ℕ) (vs : List ℕ) : Type 0 where
  pub ready : Ready bytes t s vs fr.function.0 fr.at fr.held sum
  pub apart : Apart t fr.function.0 fr.at s rs s vs
  pub state_same : (rest : Rest) (v : ℕ) → state_of t fr.function.0 fr.at (read s vs) rest v ≡ state_of t fr.function.0 fr.at (read s rs) rest v
  pub totals_same : totals_sum (read s vs) ≡ totals_sum (read s rs)
  pub returned_same : get_or vs returned 0 ≡ get_or rs returned 0
  pub requested_is : requested s vs (was_found found) ≡ found_part s found

held_found : {bytes t s rs : List ℕ} {fr : Frame} {sum : ℕ} (found : Option ℕ) → Ready bytes t s rs fr.function.0 fr.at fr.held sum
    → ((n : ℕ) → found ≡ Some n → Holdable s result n) → Held bytes t s rs fr sum found (aside_slots rs result found)
held_found None r h = record {
  ready = r;
  apart = record { long = refl; same = λ k l e. refl };
  state_same = λ rest v. refl;
  totals_same = refl;
  returned_same = refl;
  requested_is = refl;
}
held_found {rs = rs} (Some n) r h =
    let q = h n refl in
    record {
      ready = hold_ready r q;
      apart = hold_apart r q;
      state_same = hold_state r q;
      totals_same = hold_totals r q;
      returned_same = get_or-set_other rs result returned n 0 (omega arith);
      requested_is = ap there (hold_part r q);
    }

module _ {bytes t firsts s rs open_marks : List ℕ} {fr : Frame} {row : Kinded} {visits sum : ℕ} (q : Returns bytes t firsts s rs open_marks fr row visits sum) where
  abbrev f : ℕ
  f = fr.function.0

  abbrev def : Module
  def = module_of bytes t

  abbrev need : Subpart
  need = result_need bytes t s rs f row

  abbrev args : PartReq
  args = part s (get_or rs returned 0)

  ready : Ready bytes t s rs f fr.at fr.held sum
  ready = q.standing.ready

  sound : Sound def
  sound = module_sound bytes def ready.was_read.module_is

  named : CallRow bytes t f fr.statement row
  named = record { was_read = ready.was_read; function = ready.function; statement = q.statement; is = q.is; kind = q.kind }

  -- a call has two marks
  marks_two : (a b : Bool) → length (own_marks (StatementReq.Call a b)) ≡ mark_count (statement_at def f fr.statement)
  unfolding own_marks mark_count
  marks_two a b = sym (ap mark_count (call_is named))

  needs : Needs (proper def sound 0).Asked need
  needs = record_needs (proper def sound 0) f (records_in t exprs_slot f (read s rs)) (result_of bytes row) (good def sound 0 f _ q.standing.proper).exprs

  pub return_few : operand_at bytes row 1 ≤ max_arguments
  return_few = few_arguments named

  -- the definition's end of the call
  abbrev Whole : Bool → (totals : MarkTotals) → Out StatementReq
  Whole r totals =
      end_call def (frame_of s rs fr) (arguments_of bytes row (operand_at bytes row 1)) (result_of bytes row) need args r (state_in bytes t s rs open_marks totals f fr.at visits)

  module _ {k : ℕ} (place : k ≡ get_or firsts (statement_number t f fr.statement) 0) where
    pub return_marks : k + 1 < length open_marks
    unfolding own_marks
    return_marks =
        omega (
          arith,
          own_fits bytes t (places_of q.starts firsts) ready.was_read q.standing.placed open_marks (own_marks (StatementReq.Call false false)) f fr.statement k ready.function
              (in_function ready.was_read ready.function q.statement) place (marks_two false false),
          q.standing.open_long,
        )

    pub not-returned : {after : List ℕ} (req : Bool) → not req ≡ true → after ≡ write_marks open_marks k (mark false ∷ mark false ∷ [])
        → Returned bytes t firsts s rs open_marks fr row req visits sum (Ok (record { tally = (record { visits = visits; sum = sum }); required = false })) s rs after
    unfolding end_call required own_marks
    not-returned req unneeded e =
        rw (not-true req unneeded, e)
        (record {
          by = λ types starts totals S. record {
            by = record {
              is = ap (λ (st : State). went st false) (written_state S q.statement (StatementReq.Call false false) (marks_two false false) k place);
              standing = written_standing S q.statement (StatementReq.Call false false) (marks_two false false) k place;
              beside = written_beside S q.statement (StatementReq.Call false false) (marks_two false false) k place;
            };
          };
        })

    module _ {vs : List ℕ} {found : Option ℕ} (H : Held bytes t s rs fr sum found vs) where
      kept_apart : {u us : List ℕ} → Apart t f fr.at s vs u us → Apart t f fr.at s rs u us
      kept_apart a = record { long = a.long ∙ H.apart.long; same = λ j l e. a.same j l e ∙ H.apart.same j l e }

      went_returned : {types starts : List ℕ} {totals : MarkTotals} (S : Standing bytes t types (places_of starts firsts) s rs open_marks totals f fr.at fr.held sum visits) (tally : Tally) (b : Bool) {u us : List ℕ}
          → ArmEnded bytes t s vs fr (rest_in def t f (read s rs) open_marks totals) (Whole true totals) (λ x. StatementReq.Call x (is_there need)) tally.visits tally.sum b u us
          → StatementEnded bytes t types (places_of starts firsts) s rs open_marks totals fr (marked def (frame_of s rs fr) (Whole true totals)) (λ x. x) tally.visits tally.sum b u us
          (write_marks open_marks k (mark b ∷ mark (is_there need) ∷ [])) totals
      unfolding required own_marks
      went_returned {types} {starts} {totals} S tally b {u} {us} E =
          let a = kept_apart E.apart in
          let st : State = state_in bytes t u us open_marks totals f fr.at tally.visits in
          let is : went st (StatementReq.Call b (is_there need)) ≡ Whole true totals =
          ap (λ (x : State). went x (StatementReq.Call b (is_there need))) (sym (apart_state S a tally.visits)) ∙ E.is in
          let c : RequiredContext = record { globals = none; locals = none; args = args; retval = none } in
          let left : ProperState def 0 f st =
          state def sound 0 f st
          (ended
          (call_ends (proper def sound 0) (frame_of s rs fr) q.callee (arguments_of bytes row (operand_at bytes row 1)) (result_of bytes row) need c true
          (state_in bytes t s rs open_marks totals f fr.at visits)
          (fine_context def sound 0 q.callee c (record { globals = tt; locals = tt; args = q.args; retval = tt })) needs
          (good def sound 0 f _ S.proper))
          (sym is)) in
          let T = apart_standing S a E.ready left in
          record {
            is = ap (λ (x : State). went x b) (written_state T q.statement (StatementReq.Call b (is_there need)) (marks_two b (is_there need)) k place)
                ∙ sym (then_went (λ ended req. went (with_marks (write_marks ended.marks (marks_before (function_at def f).statements fr.statement) (own_marks req)) ended) (required req)) (sym is));
            standing = written_standing T q.statement (StatementReq.Call b (is_there need)) (marks_two b (is_there need)) k place;
            beside = beside_then fr.at (beside_apart S a) (written_beside T q.statement (StatementReq.Call b (is_there need)) (marks_two b (is_there need)) k place) (omega arith);
          }

      returned_by : {types starts : List ℕ} {totals : MarkTotals} (S : Standing bytes t types (places_of starts firsts) s rs open_marks totals f fr.at fr.held sum visits) (r : Result Answer Halt) {u us after : List ℕ}
          → after ≡ call_marks open_marks k (is_there need) r
          → ArmEnds bytes t s vs fr (rest_in def t f (read s rs) open_marks totals) (Whole true totals) (λ x. StatementReq.Call x (is_there need)) r u us
          → StatementEnds bytes t types (places_of starts firsts) s rs open_marks totals fr (marked def (frame_of s rs fr) (Whole true totals)) (λ x. x) r u us after totals
      returned_by S (Ok a) e E = rw e (record { by = went_returned S a.tally a.required E.by })
      returned_by S (Err stop) e E = record {
        by = sym (then_halt (λ ended req. went (with_marks (write_marks ended.marks (marks_before (function_at def f).statements fr.statement) (own_marks req)) ended) (required req)) (sym E.by));
      }

    module _ {n : ℕ} {d : _} (count : n ≡ operand_at bytes row 1) (field : d ≡ option_of (operand_at bytes row (2 + n))) (found : Option ℕ) (got : Got s (record_of (records_in t exprs_slot f (read s rs)) d) found)
        {vs : List ℕ} (slots : vs ≡ aside_slots rs result found) where
      need-is : found_part s found ≡ need
      need-is = sym (got_part s _ found got) ∙ rw (field, count)

      holdable : (j : ℕ) → found ≡ Some j → Holdable s result j
      holdable j e =
          let is : need ≡ there (part s j) = sym need-is ∙ rw e in
          let small : entries (retval_of (there (part s j))) ≤ record_pieces (records_in t exprs_slot f (read s rs)) = rw is at (retval_few (records_in t exprs_slot f (read s rs)) (result_of bytes row)) in
          record {
            low = omega arith;
            high = omega arith;
            piece = got_piece s _ found got j e;
            few = omega (arith, retval_there (part s j) _ small, q.few);
            fine = (asked_fine def sound 0 (part s j) (rw is at needs)).within;
          }

      in_slot : Held bytes t s rs fr sum found vs
      in_slot = subst (Held bytes t s rs fr sum found) (sym slots) (held_found found ready holdable)

      pub return_calls : Calling bytes t s vs fr row sum
      return_calls = record {
        ready = in_slot.ready;
        statement = q.statement;
        is = q.is;
        kind = q.kind;
        args = record { count = length (function_at def q.callee).arguments; are = rw in_slot.returned_same q.args };
      }

      pub call_returned : {b : Bool} {a r : Result Answer Halt} {u us after : List ℕ} (req : Bool) → not req ≡ false → b ≡ was_found found → EndsCall bytes t s vs fr row b visits r u us
          → (a ≡ r) × (after ≡ call_marks open_marks k b r) → Returned bytes t firsts s rs open_marks fr row req visits sum a u us after
      call_returned {b} {a} {r} {u} {us} {after} req needed is E h =
          let there-need : b ≡ is_there need = is ∙ there_is s found ∙ ap is_there need-is in
          let asked : requested s vs b ≡ need = ap (requested s vs) is ∙ in_slot.requested_is ∙ need-is in
          rw (not-false req needed, h.0)
          (record {
            by = λ types starts totals S.
                let rest : Rest = rest_in def t f (read s rs) open_marks totals in
                returned_by in_slot S r (rw there-need at h.1)
                (rw (asked, in_slot.returned_same, in_slot.state_same rest visits) at
                (E.by (context_at (read s rs) fr.base) rest (S.totals-sum ∙ sym in_slot.totals_same)));
          })

    pub return_loads : {n : ℕ} {d : _} → n ≡ operand_at bytes row 1 → d ≡ option_of (operand_at bytes row (2 + n)) → Loading bytes t s rs fr d
    return_loads count field = record {
      sum = sum;
      ready = ready;
      below = rw (field, count) (result_there named);
    }
