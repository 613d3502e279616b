-- The end of a loop's first pass: `break_if` is asked below the contexts of both blocks, which are joined then.
use Prim.Native.Nat.{ℕ, ◌+◌, ◌*◌, ◌≤◌, ◌<◌}
use native.Mathlib.Nat.{le_refl}
use native.Mathlib.Omega.{arith}
use mathlib.Core.Path.{◌≡◌, refl, sym, ap, subst, ◌∙◌}
use mathlib.Core.Bool.{Bool, true, false}
use mathlib.Core.List.{List}
use lib.ListN.{length}
use Rattle.std.specs.Prelude.{Result, Ok, Err}
use Rattle.field.specs.Limits.{max_pieces}
use mathlib.Core.Option.{Option, some, none as nothing}
use Rattle.field.specs.declared.refusal.Refusal.TheVariants.{PartLimit}
use Rattle.part.specs.PartReq.{PartReq, all}
use Rattle.part.specs.Store.{Room}
use Rattle.valid.specs.Valid.{MaybeBelow}
use Rattle.part.specs.StoreLimits.{entries_cap}
use Rattle.module.specs.Module.{Module, ExpressionHandle}
use Rattle.module.specs.Tables.{module_of}
use Rattle.context.specs.RequiredContext.{RequiredContext, merge_context, over_context, pieces}
use Rattle.walk.specs.State.{State, Out, went, with_context}
use Rattle.walk.specs.Resolve.{function_at}
use Rattle.walk.specs.Expression.{add_expression}
use Rattle.walk.specs.Statement.{holding, ask_optional}
use Rattle.walk.proofs.Parts.{fine_all}
use Rattle.walk.proofs.Room.{pieces-merge}
use Rattle.memory.specs.Layout.{stack_slot, most}
use Rattle.memory.specs.Memory.{read, sum_from, counted, context_at, Memory, Tidied}
use Rattle.memory.specs.Want.{asked, Wants, want_of}
use Rattle.memory.specs.declared.want.Want.{Want}
use Rattle.memory.proofs.Slots.{asked-slot}
use Rattle.memory.proofs.Runs.{context_pieces}
use Rattle.marks.specs.declared.places.MarkPlaces.{MarkPlaces}
use Rattle.marks.specs.declared.totals.MarkTotals.{MarkTotals}
use Rattle.state.specs.Ready.{Ready, Ends}
use Rattle.state.specs.Frame.{frame_of}
use Rattle.state.specs.declared.answer.Place.TheVariants as place
use Rattle.state.specs.declared.answer.Tally.{Tally}
use Rattle.state.specs.declared.frame.Frame.{Frame}
use Rattle.state.specs.declared.answer.Halt.{Halt}
use Rattle.expression.specs.Walks.{Walks}
use Rattle.statement.proofs.Asking.{slot_wants}
use Rattle.block.specs.Standing.{rest_in, state_in, Standing}
use Rattle.block.specs.Saved.{Joined}
use Rattle.block.specs.Blocks.{context_in}
use Rattle.block.specs.Pairing.{Branched}
use Rattle.block.proofs.Holding.{holding_ready, HeldAsks, held_beside, held_first, held_second, held_asked, held_proper, held-standing}
use Rattle.block.proofs.Joining.{join-room, join_state, join_standing, join_beside}
use Rattle.block.proofs.Steps.{beside_same, beside_then, beside_context}
use Rattle.block.proofs.Tops.{popped_context}
use Rattle.arms.specs.Loops.{Passing, BreakEnded, BreakEnding, BreakEnds, end_pass, PassEnded, PassEnds}
use Rattle.arms.proofs.Tidies.{tidied_state, tidied_standing}
use Rattle.arms.proofs.Unrolled.{pass_halt, pass_over, pass_within, optional_absent, optional_there}

went-same : {A : Type 0} {st lt : State} {a b : A} → st ≡ lt → a ≡ b → went st a ≡ went lt b
went-same p q = rw (p, q)

module _ {bytes t s rs : List ℕ} {fr : Frame} {break_if : Option ExpressionHandle} {sum visits : ℕ} (P : Passing bytes t s rs fr break_if sum visits) where
  abbrev m : Module
  m = module_of bytes t

  abbrev Asks : (open_marks : List ℕ) (totals : MarkTotals) → Out (Unit {0})
  Asks open_marks totals =
      ask_optional m (holding (context_in s rs (fr.at + 4) + context_in s rs (fr.at + 4 + 4)) (frame_of s rs fr)) break_if all
      (state_in bytes t s rs open_marks totals fr.function.0 fr.at visits)

  -- the context of the first block is weighed
  pub first_weighs : Memory s rs × ((fr.at + 4 + 4 ≤ length rs) × (sum_from (read s rs) (fr.at + 4) 4 ≤ entries_cap))
  first_weighs = let B = P.branched in (B.standing.ready.memory, (omega (arith, B.standing.ready.high), omega (arith, B.first_few, context_pieces (read s rs) (fr.at + 4))))

  pub break_absent : break_if ≡ nothing → BreakEnds bytes t s rs fr break_if sum visits (Ok (record { visits = visits; sum = sum })) s rs
  break_absent h = record {
    by = λ types places open_marks totals B.
        rw (optional_absent m (holding (context_in s rs (fr.at + 4) + context_in s rs (fr.at + 4 + 4)) (frame_of s rs fr)) all (state_in bytes t s rs open_marks totals fr.function.0 fr.at visits) h)
        (record { is = refl; branched = B; first = refl; second = refl; beside = beside_same refl refl });
  }

  module _ {a b : ℕ} (ha : a ≡ sum_from (read s rs) (fr.at + 4) 4) (hb : b ≡ sum_from (read s rs) (fr.at + 4 + 4) 4) where
    first_is : a ≡ context_in s rs (fr.at + 4)
    first_is = ha ∙ context_pieces (read s rs) (fr.at + 4)

    second_is : b ≡ context_in s rs (fr.at + 4 + 4)
    second_is = hb ∙ context_pieces (read s rs) (fr.at + 4 + 4)

    pub break_fits : (a + b ≤ 2 * max_pieces) × (fr.held + (a + b) ≤ 3 * max_pieces)
    break_fits = let B = P.branched in (omega (arith, first_is, second_is, B.first_few, B.second_few), omega (arith, first_is, second_is, B.first_few, B.second_few, B.few))

    -- it is asked
    pub break_asks : {e : ℕ} → break_if ≡ some e → {w : Want} → w ≡ want_of 0
        → Ready bytes t s rs fr.function.0 fr.at (fr.held + (a + b)) sum × ((e < length (function_at m fr.function.0).expressions) × Wants s rs w)
    break_asks h is =
        let B = P.branched in (
          rw (first_is, second_is) (holding_ready fr.at fr.held B.standing B.low),
          (subst (MaybeBelow (length (function_at m fr.function.0).expressions)) h P.there, rw is (slot_wants B.standing.ready.memory 0 (omega arith))),
        )

    ends : (e : ℕ) {types : List ℕ} {places : MarkPlaces} {open_marks : List ℕ} {totals : MarkTotals} (B : Branched bytes t types places s rs open_marks totals fr sum visits) (r : Result Tally Halt) {u us : List ℕ}
        → Ends bytes t fr.function.0 fr.at (fr.held + (context_in s rs (fr.at + 4) + context_in s rs (fr.at + 4 + 4))) s rs
        (rest_in m t fr.function.0 (read s rs) open_marks totals) (HeldAsks fr.at fr.held B.standing B.low e all) r u us
        → BreakEnding bytes t types places s rs open_marks totals fr (HeldAsks fr.at fr.held B.standing B.low e all) r u us
    ends e B (Ok tally) x =
        let E = x.by in
        let S = B.standing in
        record {
          is = held_asked fr.at fr.held S B.low e all E;
          branched = record {
            standing = held-standing fr.at fr.held S B.low e all E fine_all B.outer_fine;
            low = B.low;
            outer_fine = (held_proper fr.at fr.held S B.low e all E fine_all B.outer_fine).context;
            first_fine = rw (held_first fr.at fr.held S B.low e all E) B.first_fine;
            few = omega (arith, E.few);
            first_few = omega (arith, B.first_few, ap pieces (held_first fr.at fr.held S B.low e all E));
            second_few = omega (arith, B.second_few, ap pieces (held_second fr.at fr.held S B.low e all E));
            roomy = E.roomy;
          };
          first = held_first fr.at fr.held S B.low e all E;
          second = held_second fr.at fr.held S B.low e all E;
          beside = held_beside fr.at fr.held S B.low e all E;
        }
    ends e B (Err stop) x = x.by

    pub break_asked : {e : ℕ} → break_if ≡ some e → {w : Want} → w ≡ want_of 0 → {r : Result Tally Halt} {u us : List ℕ}
        → Walks bytes t fr.function.0 fr.at (fr.held + (a + b)) s rs (add_expression m fr.function.0 (fr.held + (a + b)) e (asked s rs w)) visits r u us
        → BreakEnds bytes t s rs fr break_if sum visits r u us
    break_asked {e} h {w} is {r} {u} {us} W = record {
      by = λ types places open_marks totals B.
          let p : asked s rs w ≡ all = ap (λ (x : Want). asked s rs x) is ∙ asked-slot s rs 0 ∙ B.standing.ready.memory.first in
          let W' : Walks bytes t fr.function.0 fr.at (fr.held + (context_in s rs (fr.at + 4) + context_in s rs (fr.at + 4 + 4))) s rs
          (add_expression m fr.function.0 (fr.held + (context_in s rs (fr.at + 4) + context_in s rs (fr.at + 4 + 4))) e all) visits r u us = rw (first_is, second_is, p) at W in
          rw (optional_there m (holding (context_in s rs (fr.at + 4) + context_in s rs (fr.at + 4 + 4)) (frame_of s rs fr)) all (state_in bytes t s rs open_marks totals fr.function.0 fr.at visits) h)
          (ends e B r (W'.by (rest_in m t fr.function.0 (read s rs) open_marks totals) B.standing.totals-sum));
    }

  -- and then the join
  module _ {r : Result Tally Halt} {u us : List ℕ} (E : BreakEnds bytes t s rs fr break_if sum visits r u us) where
    pub pass_halts : {stop : Halt} → r ≡ Err stop → PassEnds bytes t s rs fr break_if sum visits (Err stop) u us
    pass_halts is = record {
      by = λ types places open_marks totals B.
          pass_halt m (frame_of s rs fr) break_if (context_at (read s rs) fr.at) (context_at (read s rs) (fr.at + 4))
          (state_in bytes t s rs open_marks totals fr.function.0 (fr.at + 4 + 4) visits)
          (subst (λ (x : Result Tally Halt). BreakEnding bytes t types places s rs open_marks totals fr (Asks open_marks totals) x u us) is (E.by types places open_marks totals B));
    }

    module _ {tally : Tally} (is : r ≡ Ok tally) where
      goes : (types : List ℕ) (places : MarkPlaces) (open_marks : List ℕ) (totals : MarkTotals) (B : Branched bytes t types places s rs open_marks totals fr sum visits)
          → BreakEnded bytes t types places s rs open_marks totals fr (Asks open_marks totals) tally.visits tally.sum u us
      goes types places open_marks totals B =
          subst (λ (x : Result Tally Halt). BreakEnding bytes t types places s rs open_marks totals fr (Asks open_marks totals) x u us) is (E.by types places open_marks totals B)

      left : Branched bytes t P.types P.places u us P.open_marks P.totals fr tally.sum tally.visits
      left = (goes P.types P.places P.open_marks P.totals P.branched).branched

      pub pass_join : Memory u us × (((stack_slot ≤ fr.at + 4) × (fr.at + 4 + 8 ≤ length us)) × Room u (context_in u us (fr.at + 4) + context_in u us (fr.at + 4 + 4)))
      pass_join =
          let L = left in (
            L.standing.ready.memory,
            ((omega (arith, L.low), omega (arith, L.standing.ready.high)), join-room u us (fr.at + 4) L.roomy (omega (arith, L.first_few)) (omega (arith, L.second_few))),
          )

      module _ {b : Bool} {x xs : List ℕ} (J : Joined u us (fr.at + 4) b x xs) where
        pub pass_limit : b ≡ true → PassEnds bytes t s rs fr break_if sum visits (Err (record { refusal = PartLimit; place = place.Statement fr.function fr.statement })) x xs
        pass_limit o = record {
          by = λ types places open_marks totals B.
              let K = goes types places open_marks totals B in
              pass_over m (frame_of s rs fr) break_if (context_at (read s rs) fr.at) (context_at (read s rs) (fr.at + 4))
              (state_in bytes t s rs open_marks totals fr.function.0 (fr.at + 4 + 4) visits) K.is (sym o ∙ J.over ∙ ap over_context (rw (K.first, K.second)));
        }

        module _ (o : b ≡ false) where
          stands : {types : List ℕ} {places : MarkPlaces} {open_marks : List ℕ} {totals : MarkTotals} → Branched bytes t types places u us open_marks totals fr tally.sum tally.visits
              → Standing bytes t types places x xs open_marks totals fr.function.0 (fr.at + 4) (fr.held + context_in u us fr.at) tally.sum tally.visits
          stands L = join_standing L.standing (omega (arith, L.low)) J (fr.held + context_in u us fr.at) refl L.first_fine o

          working : {types : List ℕ} {places : MarkPlaces} {open_marks : List ℕ} {totals : MarkTotals} → Branched bytes t types places u us open_marks totals fr tally.sum tally.visits → context_in x xs (fr.at + 4) ≤ 2 * max_pieces
          working L =
              omega (
                arith,
                ap pieces (popped_context L.standing J.popped (omega (arith, L.low))),
                pieces-merge (context_at (read u us) (fr.at + 4)) (context_at (read u us) (fr.at + 4 + 4)),
                L.first_few,
                L.second_few,
              )

          pub pass_tidy : Memory x xs × (counted (read x xs) ≤ most)
          pass_tidy = let L = left in let S = stands L in (S.ready.memory, omega (arith, S.ready.owned, working L, L.few))

          ended : {types : List ℕ} {places : MarkPlaces} {open_marks : List ℕ} {totals : MarkTotals} (B : Branched bytes t types places s rs open_marks totals fr sum visits) {v vs : List ℕ} → Tidied x xs v vs
              → PassEnded bytes t types places s rs open_marks totals fr
              (end_pass m (frame_of s rs fr) break_if (context_at (read s rs) fr.at) (context_at (read s rs) (fr.at + 4))
              (state_in bytes t s rs open_marks totals fr.function.0 (fr.at + 4 + 4) visits))
              tally.visits tally.sum v vs
          ended {types} {places} {open_marks} {totals} B {v} {vs} T =
              let K = goes types places open_marks totals B in
              let L = K.branched in
              let low : stack_slot ≤ fr.at + 4 = omega (arith, L.low) in
              let S = stands L in
              let beside = join_beside L.standing low J in
              let outer : context_at (read x xs) fr.at ≡ context_at (read u us) fr.at = beside_context beside fr.at L.low (omega arith) in
              let same : context_at (read v vs) fr.at ≡ context_at (read u us) fr.at = ap (λ (ps : List PartReq). context_at ps fr.at) T.same ∙ outer in
              let joint : merge_context (context_at (read u us) (fr.at + 4)) (context_at (read u us) (fr.at + 4 + 4))
              ≡ merge_context (context_at (read s rs) (fr.at + 4)) (context_at (read s rs) (fr.at + 4 + 4)) = rw (K.first, K.second) in
              let n : fr.held + context_in u us fr.at ≡ fr.held + context_in v vs fr.at = ap (λ (c : RequiredContext). fr.held + pieces c) (sym same) in
              record {
                is = went-same
                    (tidied_state S T tally.visits ∙ join_state L.standing low J ∙ ap (λ (c : RequiredContext). with_context c (state_in bytes t u us open_marks totals fr.function.0 fr.at tally.visits)) joint)
                    same
                    ∙ pass_within m (frame_of s rs fr) break_if (context_at (read s rs) fr.at) (context_at (read s rs) (fr.at + 4))
                    (state_in bytes t s rs open_marks totals fr.function.0 (fr.at + 4 + 4) visits) K.is (sym o ∙ J.over ∙ ap over_context joint);
                standing = subst (λ (k : ℕ). Standing bytes t types places v vs open_marks totals fr.function.0 (fr.at + 4) k tally.sum tally.visits) n (tidied_standing S T);
                working_few = omega (arith, ap (λ (ps : List PartReq). pieces (context_at ps (fr.at + 4))) T.same, working L);
                few = omega (arith, n, L.few);
                roomy = T.roomy;
                beside = beside_then fr.at (beside_then (fr.at + 4) K.beside beside (omega arith)) (beside_same T.long T.same) (le_refl fr.at);
              }

          pub pass_went : {v vs : List ℕ} → Tidied x xs v vs → PassEnds bytes t s rs fr break_if sum visits (Ok tally) v vs
          pass_went T = record { by = λ types places open_marks totals B. ended B T }
