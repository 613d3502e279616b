-- The cases of a Switch, the last first, over a state that stands: each begins from the statement's context and is joined to those before it, until none is left. The joined
-- cases contain that context, so that 16 bounds what they count for.
use Prim.Native.Nat.{ℕ, suc, ◌+◌, ◌*◌, ◌<◌, ◌≤◌}
use native.Mathlib.Nat.{le_refl}
use native.Mathlib.Omega.{arith}
use mathlib.Core.Path.{◌≡◌, refl, sym, ap, subst, ◌∙◌}
use mathlib.Core.Bool.{Bool, true, false, ◌||◌}
use mathlib.Core.List.{List}
use lib.ListN.{length, get_or}
use Rattle.std.specs.Prelude.{Result, Ok, Err}
use Rattle.field.specs.Refusal.{number}
use Rattle.field.specs.Limits.{max_pieces}
use Rattle.field.specs.declared.refusal.Refusal.TheVariants.{PartLimit}
use Rattle.module.specs.Module.{BlockHandle, Module, SwitchCase}
use Rattle.module.specs.Decode.{tab, case_of, statement_of}
use Rattle.module.specs.Tables.{module_of}
use Rattle.module.proofs.Tab.{length-tab, get_d_tab}
use Rattle.access.specs.Access.{operand_at}
use Rattle.access.specs.declared.kinded.Kinded.{Kinded}
use Rattle.context.specs.RequiredContext.{RequiredContext, empty_context, merge_context, contains_context, over_context, pieces}
use Rattle.walk.specs.State.{State, Out, went, halt, with_context}
use Rattle.walk.specs.Resolve.{function_at}
use Rattle.walk.specs.StatementReq.{StatementReq}
use Rattle.walk.specs.Statement.{add_cases, end_switch, add_switch}
use Rattle.walk.specs.Statement as walk
use Rattle.memory.specs.Layout.{stack_slot}
use Rattle.memory.specs.Memory.{read, sum_from, context_at}
use Rattle.memory.specs.Stretches.{four_set}
use Rattle.memory.proofs.Runs.{context_pieces}
use Rattle.marks.specs.declared.places.MarkPlaces.{MarkPlaces}
use Rattle.marks.specs.declared.totals.MarkTotals.{MarkTotals}
use Rattle.marks.specs.Ray.{held_count, held_number}
use Rattle.marks.proofs.Rays.{held_block}
use Rattle.state.specs.State.{place_of}
use Rattle.state.specs.Frame.{frame_of}
use Rattle.state.specs.declared.answer.Tally.{Tally}
use Rattle.state.specs.declared.answer.Place.{Place}
use Rattle.state.specs.declared.answer.Place.TheVariants as position
use Rattle.state.specs.declared.frame.Frame.{Frame}
use Rattle.state.specs.declared.answer.Halt.{Halt}
use Rattle.state.specs.declared.answer.Answer.{Answer}
use Rattle.statement.proofs.Uses.{arm_uses}
use Rattle.block.specs.Saved.{Saved}
use Rattle.block.specs.Standing.{state_in, Standing}
use Rattle.block.specs.Blocks.{context_in, Entered, Beside, BlockEnded, BlockEnding, BlockEnds, StatementEnds}
use Rattle.block.specs.Visiting.{block_in, Arms}
use Rattle.block.proofs.Saving.{saved_copy}
use Rattle.block.proofs.Tops.{up, up_state, saved_context, saved_state, saved_standing, popped_context, popped_state, popped_standing}
use Rattle.block.proofs.Depth.{held_before}
use Rattle.block.proofs.Steps.{beside_same, beside_then, beside_context, beside_popped, enters, ends_from}
use Rattle.block.proofs.Bounds.{contains_itself, contains_more, settled_pieces, settled_sum, case_few}
use Rattle.block.proofs.Joining.{fine_merged, join-room}
use Rattle.block.proofs.Tight.{enters_more, ends_less}
use Rattle.block.proofs.Unroll.{cases_done, cases-halt, cases-over, cases_again, switch-ends, switch_halt}
use Rattle.block.proofs.Answered.{block_anywhere}
use Rattle.arms.specs.Switches.{Casing, with_case, CaseJoined, CaseEnding, CaseEnds, Switched, EndingSwitch, SwitchEnds}
use Rattle.arms.proofs.Switching.{beside_saved}

-- n cases are left, and give the whole; the others are joined above the statement's context
pub record CasesLeft (bytes t types : List ℕ) (places : MarkPlaces) (s rs open_marks : List ℕ) (totals : MarkTotals) (fr : Frame) (cases : List SwitchCase) (start n : ℕ) (any : Bool) (sum visits : ℕ) (u us open_after : List ℕ) (totals-after : MarkTotals) : Type 0 where
  pub switched : Switched bytes t types places u us open_after totals-after fr sum visits
  pub contains : contains_context (context_at (read u us) (fr.at + 4)) (context_at (read u us) fr.at) ≡ true
  pub beside : Beside bytes t fr.function.0 (fr.at + 4) s rs open_marks u us open_after
  pub allowed : fr.held + (context_in u us fr.at + sum) ≤ max_pieces
  pub few : n ≤ length cases
  pub rest : add_cases (block_in bytes t fr.function.0) (frame_of s rs fr) (context_at (read s rs) fr.at) cases n any
      (state_in bytes t u us open_after totals-after fr.function.0 (fr.at + 4) visits)
      ≡ add_cases (block_in bytes t fr.function.0) (frame_of s rs fr) (context_at (read s rs) fr.at) cases (length cases) false
      (state_in bytes t s rs open_marks totals fr.function.0 fr.at start)

module _ {bytes t types : List ℕ} {places : MarkPlaces} {s rs open_marks : List ℕ} {totals : MarkTotals} {fr : Frame} {b : BlockHandle} {row : Kinded} {sum visits : ℕ}
    (A : Arms bytes t types places s rs open_marks totals fr b row sum visits) where
  abbrev m : Module
  m = module_of bytes t

  abbrev f : ℕ
  f = fr.function.0

  abbrev at : ℕ
  at = fr.at

  abbrev o : ℕ → ℕ
  o = operand_at bytes row

  abbrev cases : List SwitchCase
  cases = tab (o 1) (case_of o)

  abbrev block : walk.BlockWalk
  block = block_in bytes t f

  abbrev frame : walk.Frame
  frame = frame_of s rs fr

  abbrev outer : RequiredContext
  outer = context_at (read s rs) at

  abbrev begun : State
  begun = state_in bytes t s rs open_marks totals f at visits

  abbrev Whole : Out Bool
  Whole = add_cases block frame outer cases (length cases) false begun

  abbrev Switching : Out StatementReq
  Switching = add_switch m block frame (o 0) cases begun

  abbrev Left : (n : ℕ) (any : Bool) (m v : ℕ) (u us open_after : List ℕ) (totals-after : MarkTotals) → Type 0
  Left n any m v u us open_after totals-after = CasesLeft bytes t types places s rs open_marks totals fr cases visits n any m v u us open_after totals-after

  low : stack_slot ≤ at
  low = A.begins.standing.ready.low

  -- the blocks of cases, and the selector
  case_lower : row.kind ≡ 3 → (k : ℕ) → k < o 1 → o (3 + 2 * k) < b
  unfolding held_count held_number
  case_lower kind k l =
      let h : k < held_count row.kind o = rw kind l in
      rw kind at (held_block bytes t f b fr.statement A.within row A.is k h).0

  case-body : (k : ℕ) → k < o 1 → (get_or cases k (record { value = 0; body = 0 })).body ≡ o (3 + 2 * k)
  unfolding case_of
  case-body k l = ap (λ (c : SwitchCase). c.body) (get_d_tab (o 1) (case_of o) k (record { value = 0; body = 0 }) l)

  selector_there : row.kind ≡ 3 → o 0 < length (function_at m f).expressions
  unfolding statement_of
  selector_there kind = (arm_uses (record { begun = A.begins.begun; is = A.is }) (statement_of 3 o) (ap (λ (k : ℕ). statement_of k o) kind)).0

  -- the context is counted and copied
  pub outside_few : {r : ℕ} → r ≡ sum_from (read s rs) at 4 → fr.held + r ≤ max_pieces
  outside_few e = omega (arith, e, context_pieces (read s rs) at, A.begins.begun.few)

  pub copy_asks : (at + 4 ≤ length rs) × (at + 4 + 4 ≤ length rs)
  copy_asks = (A.begins.standing.ready.high, omega (arith, A.begins.deep))

  pub cases_start : {us : List ℕ} {n : ℕ} → us ≡ four_set rs (at + 4) (get_or rs at 0) (get_or rs (at + 1) 0) (get_or rs (at + 2) 0) (get_or rs (at + 3) 0) → n ≡ o 1
      → Left n false sum visits s us open_marks totals
  cases_start {us} {n} e is =
      let S = A.begins.standing in
      let few = A.begins.begun.few in
      let d : Saved s rs (at + 4) outer s us = rw e (saved_copy S.ready.memory at (at + 4) (omega (arith, low)) copy_asks.0 copy_asks.1) in
      let U = up S (omega (arith, copy_asks.1)) in
      let k : Beside bytes t f (at + 4) s rs open_marks s us open_marks = beside_saved (omega (arith, low)) d in
      let same : context_at (read s us) at ≡ outer = beside_context k at low (omega arith) in
      let top : context_at (read s us) (at + 4) ≡ outer = saved_context U d in
      let long : n ≡ length cases = is ∙ sym (length-tab (o 1) (case_of o)) in
      record {
        switched = record {
          standing = subst (λ (h : ℕ). Standing bytes t types places s us open_marks totals f (at + 4) h sum visits) (ap (λ (c : RequiredContext). fr.held + pieces c) (sym same))
              (saved_standing U d S.proper.context (omega arith));
          low = low;
          outer_fine = rw same S.proper.context;
          few = omega (arith, ap pieces top);
          roomy = A.begins.begun.roomy;
        };
        contains = ap (λ (c : RequiredContext). contains_context c (context_at (read s us) at)) top ∙ ap (λ (c : RequiredContext). contains_context outer c) same ∙ contains_itself outer;
        beside = k;
        allowed = omega (arith, ap pieces same);
        few = omega (arith, long);
        rest = ap (λ (st : State). add_cases block frame outer cases n false st) (saved_state U d ∙ ap (λ (st : State). with_context outer st) (up_state S))
            ∙ ap (λ (j : ℕ). add_cases block frame outer cases j false begun) long;
      }

  -- where n cases are left
  module _ {n : ℕ} {any : Bool} {m' v : ℕ} {u us open-1 : List ℕ} {totals-1 : MarkTotals} (C : Left n any m' v u us open-1 totals-1) where
    abbrev st : State
    st = state_in bytes t u us open-1 totals-1 f (at + 4) v

    abbrev joined : RequiredContext
    joined = context_at (read u us) (at + 4)

    outer_same : context_at (read u us) at ≡ outer
    outer_same = beside_context C.beside at low (omega arith)

    back : Beside bytes t f at s rs open_marks u us open-1
    back = beside_then (at + 4) (beside_same refl refl) C.beside (omega arith)

    -- none is: the Switch ends
    pub switch_asks : {selector : ℕ} → row.kind ≡ 3 → selector ≡ o 0 → EndingSwitch bytes t u us fr selector m' v
    switch_asks kind e = record {
      types = types;
      places = places;
      open_marks = open-1;
      totals = totals-1;
      switched = C.switched;
      there = rw e (selector_there kind);
    }

    pub switch_whole : {selector : ℕ} {r : Result Answer Halt} {x xs : List ℕ} → n ≡ 0 → selector ≡ o 0 → SwitchEnds bytes t u us fr selector any m' v r x xs
        → StatementEnds bytes t types places s rs open_marks totals fr Switching StatementReq.Switch r x xs open-1 totals-1
    switch_whole {selector} {r} z e E =
        let rest : went st any ≡ Whole =
        sym (cases_done block frame outer cases any st) ∙ ap (λ (j : ℕ). add_cases block frame outer cases j any st) (sym z) ∙ C.rest in
        let base : context_at (read u us) fr.base ≡ context_at (read s rs) fr.base =
        beside_context C.beside fr.base A.begins.begun.base_low (omega (arith, A.begins.begun.base_below)) in
        let total : end_switch m (frame_of u us fr) selector (context_at (read u us) at) any st ≡ Switching =
        ap (λ (c : RequiredContext). end_switch m (record { function = f; statement = fr.statement; held = fr.held; base = c; break_required = fr.break_required }) selector (context_at (read u us) at) any st) base
        ∙ ap (λ (c : RequiredContext). end_switch m frame selector c any st) outer_same
        ∙ ap (λ (x : ℕ). end_switch m frame x outer any st) e
        ∙ sym (switch-ends m block frame (o 0) cases begun rest) in
        ends_from r back total (E.by types places open-1 totals-1 C.switched)

    -- the next is k
    module _ (kind : row.kind ≡ 3) {outside more : ℕ} (e₁ : outside ≡ fr.held + sum_from (read s rs) at 4) (e₂ : more ≡ sum_from (read u us) (at + 4) 4) where
      abbrev held : ℕ
      held = fr.held + context_in u us at + context_in u us (at + 4)

      held_is : held ≡ outside + more
      held_is = omega (arith, e₁, e₂, context_pieces (read s rs) at, context_pieces (read u us) (at + 4), ap pieces outer_same)

      pub held_fits : outside + more ≤ 2 * max_pieces
      held_fits = omega (arith, held_is, C.allowed, C.switched.few)

      eight : at + 4 + 4 ≡ at + 8
      eight = omega arith

      module _ {k body : ℕ} (body_is : body ≡ o (3 + 2 * k)) (is : n ≡ suc k) where
        within : k < o 1
        within = omega (arith, C.few, length-tab (o 1) (case_of o))

        pub body_lower : body < b
        body_lower = omega (arith, body_is, case_lower kind k within)

        tight : Entered bytes t types places u us open-1 totals-1 f body at (at + 4 + 4) held held m' v
        tight =
            enters C.switched.standing body at (omega (arith, A.begins.block, body_lower)) low (omega arith) C.switched.outer_fine
            (omega (arith, C.allowed))
            (omega (arith, C.allowed, C.switched.few))
            (omega (arith, A.begins.deep, held_before A.within body body_lower, C.beside.long))
            C.switched.roomy

        pub case_enters : Entered bytes t types places u us open-1 totals-1 f body at (at + 8) (outside + more) (outside + more + context_in u us at) m' v
        case_enters =
            subst (λ (p : ℕ). Entered bytes t types places u us open-1 totals-1 f body at p (outside + more) (outside + more + context_in u us at) m' v) eight
            (subst (λ (h : ℕ). Entered bytes t types places u us open-1 totals-1 f body at (at + 4 + 4) h (h + context_in u us at) m' v) held_is (enters_more tight (omega arith)))

        abbrev Code : (p h : ℕ) → Out Bool
        Code p h = block body h (context_at (read u us) at) false (state_in bytes t u us open-1 totals-1 f p v)

        abbrev Case : Out Bool
        Case = block (get_or cases k (record { value = 0; body = 0 })).body (fr.held + pieces outer + pieces joined) outer false st

        case_is : Code (at + 4 + 4) held ≡ Case
        case_is =
            ap (λ (x : State). block body held (context_at (read u us) at) false x) (up_state C.switched.standing)
            ∙ block_anywhere A.begins.standing.ready.was_read f body held (context_at (read u us) at) empty_context false st
            ∙ ap (λ (j : ℕ). block j held (context_at (read u us) at) false st) (body_is ∙ sym (case-body k within))
            ∙ ap (λ (c : RequiredContext). block (get_or cases k (record { value = 0; body = 0 })).body (fr.held + pieces c + pieces joined) c false st) outer_same

        -- what is left of the cases
        from_rest : add_cases block frame outer cases (suc k) any st ≡ Whole
        from_rest = ap (λ (j : ℕ). add_cases block frame outer cases j any st) (sym is) ∙ C.rest

        halts : {x : ℕ} (place : Place) → halt x (place_of place) ≡ add_cases block frame outer cases (suc k) any st → halt x (place_of place) ≡ Switching
        halts place h = sym (switch_halt m block frame (o 0) cases begun (h ∙ from_rest))

        -- the case was walked
        module _ {r : Result Answer Halt} {w ws open-2 : List ℕ} {totals-2 : MarkTotals}
            (E : BlockEnds bytes t types places u us open-1 totals-1 f at (at + 8) (outside + more) (outside + more + context_in u us at) m' (Code (at + 8) (outside + more)) r w ws open-2 totals-2) where
          walked : BlockEnds bytes t types places u us open-1 totals-1 f at (at + 4 + 4) held (held + context_in u us at) m' (Code (at + 4 + 4) held) r w ws open-2 totals-2
          walked =
              subst (λ (h : ℕ). BlockEnds bytes t types places u us open-1 totals-1 f at (at + 4 + 4) h (h + context_in u us at) m' (Code (at + 4 + 4) h) r w ws open-2 totals-2) (sym held_is)
              (subst (λ (p : ℕ). BlockEnds bytes t types places u us open-1 totals-1 f at p (outside + more) (outside + more + context_in u us at) m' (Code p (outside + more)) r w ws open-2 totals-2) (sym eight) E)

          pub case_halts : {stop : Halt} → r ≡ Err stop
              → StatementEnds bytes t types places s rs open_marks totals fr Switching StatementReq.Switch (Err stop) w ws open-2 totals-2
          case_halts {stop} e =
              let h : halt (number stop.refusal) (place_of stop.place) ≡ Code (at + 4 + 4) held =
              subst (λ (a : Result Answer Halt). BlockEnding bytes t types places u us open-1 totals-1 f at (at + 4 + 4) held (held + context_in u us at) m' (Code (at + 4 + 4) held) a w ws open-2 totals-2) e walked.by in
              record { by = halts stop.place (sym (cases-halt block frame outer cases any st k (h ∙ case_is))) }

          module _ {tally : Tally} {c : Bool} (e : r ≡ Ok (record { tally = tally; required = c })) where
            B : BlockEnded bytes t types places u us open-1 totals-1 f at (at + 4 + 4) held held m' (Code (at + 4 + 4) held) tally.visits tally.sum c w ws open-2 totals-2
            B =
                ends_less tight (omega arith)
                (subst (λ (a : Result Answer Halt). BlockEnding bytes t types places u us open-1 totals-1 f at (at + 4 + 4) held (held + context_in u us at) m' (Code (at + 4 + 4) held) a w ws open-2 totals-2) e walked.by)

            high : stack_slot ≤ at + 4
            high = omega (arith, low)

            joined_same : context_at (read w ws) (at + 4) ≡ joined
            joined_same = beside_context B.beside (at + 4) high (omega arith)

            left_few : context_in w ws (at + 4 + 4) ≤ max_pieces
            left_few = settled_pieces max_pieces B.settled (omega (arith, C.allowed)) (le_refl max_pieces)

            left_allowed : fr.held + context_in u us at + tally.sum ≤ max_pieces
            left_allowed = settled_sum (fr.held + context_in u us at) max_pieces B.settled (omega arith) (omega (arith, C.allowed)) (le_refl max_pieces)

            pub case-ends : Casing w ws (at + 4)
            case-ends =
                let same = ap pieces joined_same in
                record {
                  memory = B.standing.ready.memory;
                  low = high;
                  high = omega (arith, B.standing.ready.high);
                  roomy = join-room w ws (at + 4) B.roomy (omega (arith, C.switched.few)) (omega (arith, left_few));
                  few = omega (arith, B.standing.ready.owned, C.switched.few, left_few, left_allowed);
                }

            -- and is joined
            abbrev both : RequiredContext
            both = merge_context joined (context_at (read w ws) (at + 4 + 4))

            with-case : with_case w ws (at + 4) ≡ both
            with-case = ap (λ (x : RequiredContext). merge_context x (context_at (read w ws) (at + 4 + 4))) joined_same

            went-case : went (state_in bytes t w ws open-2 totals-2 f (at + 4 + 4) tally.visits) c ≡ Case
            went-case = B.is ∙ case_is

            module _ {l : Bool} {x xs : List ℕ} (J : CaseEnds w ws (at + 4) l x xs) where
              pub case_limit : l ≡ true
                  → StatementEnds bytes t types places s rs open_marks totals fr Switching StatementReq.Switch (Err (record { refusal = PartLimit; place = position.Statement fr.function fr.statement })) x xs open-2 totals-2
              case_limit z =
                  let over : over_context (with_case w ws (at + 4)) ≡ true = subst (λ (y : Bool). CaseEnding w ws (at + 4) y x xs) z J.by in
                  record {
                    by = halts (position.Statement fr.function fr.statement)
                        (sym (cases-over block frame outer cases any st k went-case (sym (ap over_context (sym with-case) ∙ over))));
                  }

              pub case_again : l ≡ false → Left k (any || c) tally.sum tally.visits x xs open-2 totals-2
              case_again z =
                  let K : CaseJoined w ws (at + 4) x xs = subst (λ (y : Bool). CaseEnding w ws (at + 4) y x xs) z J.by in
                  let S = B.standing in
                  let within : over_context both ≡ false = ap over_context (sym with-case) ∙ K.within in
                  let below = beside_popped S K.popped high in
                  let top : context_at (read x xs) (at + 4) ≡ both = popped_context S K.popped high ∙ with-case in
                  let same : context_at (read x xs) at ≡ context_at (read u us) at =
                  beside_context below at low (omega arith) ∙ beside_context B.beside at low (omega arith) in
                  let fine = fine_merged joined (context_at (read w ws) (at + 4 + 4)) S.ready.was_read C.switched.standing.proper.context S.proper.context within in
                  let few : pieces both ≤ max_pieces = case_few joined B.settled (omega arith) C.contains C.switched.few in
                  let last : Standing bytes t types places x xs open-2 totals-2 f (at + 4) (fr.held + context_in u us at) tally.sum tally.visits =
                  popped_standing S K.popped high (fr.held + context_in u us at) (ap (λ (y : RequiredContext). fr.held + context_in u us at + pieces y) (sym joined_same)) (rw with-case fine)
                  (omega (arith, left_allowed, ap pieces with-case)) in
                  record {
                    switched = record {
                      standing = subst (λ (h : ℕ). Standing bytes t types places x xs open-2 totals-2 f (at + 4) h tally.sum tally.visits) (ap (λ (y : RequiredContext). fr.held + pieces y) (sym same)) last;
                      low = low;
                      outer_fine = rw same C.switched.outer_fine;
                      few = omega (arith, ap pieces top);
                      roomy = K.roomy;
                    };
                    contains = ap (λ (y : RequiredContext). contains_context y (context_at (read x xs) at)) top
                        ∙ ap (λ (y : RequiredContext). contains_context both y) same
                        ∙ contains_more joined (context_at (read w ws) (at + 4 + 4)) (context_at (read u us) at) C.contains;
                    beside = beside_then (at + 4) (beside_then (at + 4 + 4) C.beside B.beside (omega arith)) below (le_refl (at + 4));
                    allowed = omega (arith, left_allowed, ap pieces same);
                    few = omega (arith, C.few);
                    rest = ap (λ (y : State). add_cases block frame outer cases k (any || c) y)
                        (popped_state S K.popped high ∙ ap (λ (y : RequiredContext). with_context y (state_in bytes t w ws open-2 totals-2 f (at + 4 + 4) tally.visits)) with-case)
                        ∙ sym (cases_again block frame outer cases any st k went-case (sym within))
                        ∙ from_rest;
                  }

-- how the walk of the cases began: the context was copied, in the slots rs, and counted
pub record CasesBegan (bytes t types : List ℕ) (places : MarkPlaces) (s rs open_marks : List ℕ) (totals : MarkTotals) (fr : Frame) (b : BlockHandle) (row : Kinded) (sum visits outside : ℕ) (ss : List ℕ) : Type 0 where
  pub arms : Arms bytes t types places s rs open_marks totals fr b row sum visits
  pub kind : row.kind ≡ 3
  pub copied : ss ≡ four_set rs (fr.at + 4) (get_or rs fr.at 0) (get_or rs (fr.at + 1) 0) (get_or rs (fr.at + 2) 0) (get_or rs (fr.at + 3) 0)
  pub outside_is : outside ≡ fr.held + sum_from (read s rs) fr.at 4

-- n cases are left, from wherever it began
pub record CasesGo (bytes t types : List ℕ) (places : MarkPlaces) (s ss open_marks : List ℕ) (totals : MarkTotals) (fr : Frame) (row : Kinded) (sum visits outside n : ℕ) (any : Bool) (m v : ℕ) (u us open_after : List ℕ) (totals-after : MarkTotals) : Type 0 where
  pub by : (b : BlockHandle) (rs : List ℕ) → CasesBegan bytes t types places s rs open_marks totals fr b row sum visits outside ss
      → CasesLeft bytes t types places s rs open_marks totals fr (tab (operand_at bytes row 1) (case_of (operand_at bytes row))) visits n any m v u us open_after totals-after

pub began : {bytes t types : List ℕ} {places : MarkPlaces} {s rs open_marks : List ℕ} {totals : MarkTotals} {fr : Frame} {b : BlockHandle} {row : Kinded} {sum visits r : ℕ} {ss : List ℕ}
    → Arms bytes t types places s rs open_marks totals fr b row sum visits → row.kind ≡ 3
    → ss ≡ four_set rs (fr.at + 4) (get_or rs fr.at 0) (get_or rs (fr.at + 1) 0) (get_or rs (fr.at + 2) 0) (get_or rs (fr.at + 3) 0)
    → r ≡ sum_from (read s rs) fr.at 4
    → CasesBegan bytes t types places s rs open_marks totals fr b row sum visits (fr.held + r) ss
began {fr = fr} A kind e w = record { arms = A; kind = kind; copied = e; outside_is = ap (λ (x : ℕ). fr.held + x) w }

module _ {bytes t types : List ℕ} {places : MarkPlaces} {s ss open_marks : List ℕ} {totals : MarkTotals} {fr : Frame} {row : Kinded} {sum visits outside : ℕ} where
  pub cases_begin : {n : ℕ} → n ≡ operand_at bytes row 1 → CasesGo bytes t types places s ss open_marks totals fr row sum visits outside n false sum visits s ss open_marks totals
  cases_begin is = record { by = λ b rs G. cases_start G.arms G.copied is }

  module _ {n : ℕ} {any : Bool} {m v : ℕ} {u us open-1 : List ℕ} {totals-1 : MarkTotals}
      (I : CasesGo bytes t types places s ss open_marks totals fr row sum visits outside n any m v u us open-1 totals-1) where
    pub cases_next : {more k body : ℕ} {r : Result Answer Halt} {w ws open-2 : List ℕ} {totals-2 : MarkTotals} {tally : Tally} {c : Bool} {l : Bool} {x xs : List ℕ} {required : Bool}
        → more ≡ sum_from (read u us) (fr.at + 4) 4 → body ≡ operand_at bytes row (3 + 2 * k) → n ≡ suc k
        → BlockEnds bytes t types places u us open-1 totals-1 fr.function.0 fr.at (fr.at + 8) (outside + more) (outside + more + context_in u us fr.at) m
        (block_in bytes t fr.function.0 body (outside + more) (context_at (read u us) fr.at) false (state_in bytes t u us open-1 totals-1 fr.function.0 (fr.at + 8) v))
        r w ws open-2 totals-2
        → r ≡ Ok (record { tally = tally; required = c }) → CaseEnds w ws (fr.at + 4) l x xs → l ≡ false → required ≡ (any || c)
        → CasesGo bytes t types places s ss open_marks totals fr row sum visits outside k required tally.sum tally.visits x xs open-2 totals-2
    cases_next e₂ body_is is E e J z o =
        record { by = λ b rs G. rw o (case_again G.arms (I.by b rs G) G.kind G.outside_is e₂ body_is is E e J z) }
