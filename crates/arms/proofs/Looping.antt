-- `Loop`, as `add_loop` goes through it: both blocks, what they leave where the loop is not required, and the end of the first pass and the turns where it is.
use Prim.Native.Nat.{ℕ, ◌+◌, ◌<◌, ◌≤◌}
use native.Mathlib.Nat.{le_refl}
use native.Mathlib.Omega.{arith}
use mathlib.Core.Path.{◌≡◌, sym, ap, subst, ◌∙◌}
use mathlib.Core.Bool.{Bool, true, false}
use mathlib.Core.List.{List}
use lib.ListN.{length}
use Rattle.std.specs.Prelude.{Result, Ok, Err}
use Rattle.field.specs.Limits.{max_pieces, max_turns}
use mathlib.Core.Option.{Option}
use Rattle.module.specs.Module.{Module, ExpressionHandle, BlockHandle}
use Rattle.module.specs.Decode.{option_of, statement_of}
use Rattle.module.specs.Tables.{module_of}
use Rattle.access.specs.Access.{operand_at}
use Rattle.access.specs.declared.kinded.Kinded.{Kinded}
use Rattle.context.specs.RequiredContext.{RequiredContext, empty_context, pieces}
use Rattle.valid.specs.Valid.{MaybeBelow}
use Rattle.walk.specs.State.{State, Out, went, with_context}
use Rattle.walk.specs.StatementReq.{StatementReq}
use Rattle.walk.specs.Resolve.{function_at}
use Rattle.walk.specs.Statement.{turns, end_loop, add_loop}
use Rattle.walk.specs.Statement as walk
use Rattle.memory.specs.Layout.{stack_slot}
use Rattle.memory.specs.Memory.{read, sum_from, context_at}
use Rattle.memory.proofs.Runs.{context_pieces}
use Rattle.state.specs.Frame.{frame_of}
use Rattle.state.specs.declared.answer.Tally.{Tally}
use Rattle.state.specs.declared.frame.Frame.{Frame}
use Rattle.state.specs.declared.answer.Halt.{Halt}
use Rattle.state.specs.declared.answer.Answer.{Answer}
use Rattle.marks.specs.declared.places.MarkPlaces.{MarkPlaces}
use Rattle.marks.specs.declared.totals.MarkTotals.{MarkTotals}
use Rattle.marks.specs.Ray.{held_count, held_number}
use Rattle.marks.proofs.Rays.{held_block}
use Rattle.statement.proofs.Uses.{arm_uses}
use Rattle.block.specs.Standing.{state_in, Standing}
use Rattle.block.specs.Branches.{BothDropped}
use Rattle.block.specs.Blocks.{context_in, Beside, StatementEnds}
use Rattle.block.specs.Visiting.{block_in, Arms}
use Rattle.block.specs.Pairing.{add_pair, Paired, PairEnded, PairEnding, PairEnds, Branched}
use Rattle.block.proofs.Tops.{up, up_state, up_empty}
use Rattle.block.proofs.Depth.{held_before}
use Rattle.block.proofs.Steps.{beside_then, beside_context, ends_from}
use Rattle.block.proofs.Unroll.{loop_not}
use Rattle.block.proofs.Dropped.{dropped}
use Rattle.block.proofs.Answered.{pair_anywhere}
use Rattle.arms.specs.Loops.{end_pass, Passing, PassEnded, PassEnding, PassEnds, Turning, turns_in}
use Rattle.arms.proofs.Unrolled.{loop_halt, loop_went, end_halt, end_turns}

-- fewer slots
beside_fewer : {bytes t : List ℕ} {f high : ℕ} (low : ℕ) {s rs open_marks u us open_after : List ℕ} → low ≤ high → Beside bytes t f high s rs open_marks u us open_after
    → Beside bytes t f low s rs open_marks u us open_after
beside_fewer low l b = record { long = b.long; stack = λ k x y. b.stack k x (omega arith); records = b.records; marks_long = b.marks_long; marks = b.marks }

-- the frame that a frame stands for, where the base of its block is as it was
frame_same : {bytes t : List ℕ} {s rs open_marks u us open_after : List ℕ} (fr : Frame) {f : ℕ} → stack_slot ≤ fr.base → fr.base + 4 ≤ fr.at
    → Beside bytes t f fr.at s rs open_marks u us open_after → frame_of u us fr ≡ frame_of s rs fr
frame_same fr low below b = rw (beside_context b fr.base low below)

module _ {bytes t types : List ℕ} {places : MarkPlaces} {s rs open_marks : List ℕ} {totals : MarkTotals} {fr : Frame} {b : BlockHandle} {row : Kinded} {sum visits : ℕ}
    (A : Arms bytes t types places s rs open_marks totals fr b row sum visits) (kind : row.kind ≡ 4) where
  abbrev m : Module
  m = module_of bytes t

  abbrev f : ℕ
  f = fr.function.0

  abbrev o : ℕ → ℕ
  o = operand_at bytes row

  abbrev S : Standing bytes t types places s rs open_marks totals fr.function.0 fr.at fr.held sum visits
  S = A.begins.standing

  blocks : (o 0 < b) × (o 1 < b)
  unfolding held_count held_number
  blocks = (
    rw kind at (held_block bytes t f b fr.statement A.within row A.is 1 (rw kind (omega arith))).0,
    rw kind at (held_block bytes t f b fr.statement A.within row A.is 0 (rw kind (omega arith))).0,
  )

  breaks : MaybeBelow (length (function_at m f).expressions) (option_of (o 2))
  unfolding statement_of
  breaks = arm_uses (record { begun = A.begins.begun; is = A.is }) (statement_of 4 o) (ap (λ (k : ℕ). statement_of k o) kind)

  abbrev before : RequiredContext
  before = context_at (read s rs) fr.at

  abbrev st : State
  st = state_in bytes t s rs open_marks totals f fr.at visits

  abbrev Total : Out StatementReq
  Total = add_loop m (block_in bytes t f) (frame_of s rs fr) (o 0) (o 1) (option_of (o 2)) st

  module _ {n : ℕ} (weighed : n ≡ sum_from (read s rs) fr.at 4) where
    outer : n ≡ context_in s rs fr.at
    outer = weighed ∙ context_pieces (read s rs) fr.at

    pub loop_fits : fr.held + n ≤ max_pieces
    loop_fits = omega (arith, outer, A.begins.begun.few)

    module _ {x y : ℕ} (body : x ≡ o 0) (continuing : y ≡ o 1) where
      pub loop_paired : Paired bytes t types places s rs open_marks totals f b x y fr.at (fr.at + 4) (fr.held + n) sum visits
      loop_paired =
          let few = A.begins.begun.few in
          record {
            standing = rw outer (up S (omega (arith, A.begins.deep)));
            empty = up_empty S;
            block = A.begins.block;
            first_lower = rw body blocks.0;
            second_lower = rw continuing blocks.1;
            base_low = S.ready.low;
            base_below = le_refl (fr.at + 4);
            base_fine = S.proper.context;
            base_few = omega (arith, few);
            few = omega (arith, outer, few);
            first_deep = rw body (omega (arith, A.begins.deep, held_before A.within (o 0) blocks.0));
            second_deep = rw continuing (omega (arith, A.begins.deep, held_before A.within (o 1) blocks.1));
            roomy = A.begins.begun.roomy;
          }

      abbrev Pair : Out (RequiredContext × Bool)
      Pair = add_pair (block_in bytes t f) x y (fr.held + n) before false (state_in bytes t s rs open_marks totals f (fr.at + 4) visits)

      pair_is : Pair ≡ add_pair (block_in bytes t f) (o 0) (o 1) (fr.held + context_in s rs fr.at) before false st
      pair_is =
          ap (λ (z : State). add_pair (block_in bytes t f) x y (fr.held + n) before false z) (up_state S)
          ∙ pair_anywhere S.ready.was_read f x y (fr.held + n) before empty_context false st
          ∙ rw (body, continuing, outer)

      -- both blocks are walked
      module _ {r : Result Answer Halt} {u us open-1 : List ℕ} {totals-1 : MarkTotals} (E : PairEnds bytes t types places s rs open_marks totals f fr.at (fr.at + 4) (fr.held + n) Pair r u us open-1 totals-1) where
        ending : {q : Result Answer Halt} → r ≡ q → PairEnding bytes t types places s rs open_marks totals f fr.at (fr.at + 4) (fr.held + n) Pair q u us open-1 totals-1
        ending is = subst (λ (q : Result Answer Halt). PairEnding bytes t types places s rs open_marks totals f fr.at (fr.at + 4) (fr.held + n) Pair q u us open-1 totals-1) is E.by

        pub loop_halts : {stop : Halt} → r ≡ Err stop → StatementEnds bytes t types places s rs open_marks totals fr Total StatementReq.Loop (Err stop) u us open-1 totals-1
        loop_halts is = record { by = sym (loop_halt m (block_in bytes t f) (frame_of s rs fr) (o 0) (o 1) (option_of (o 2)) st (ending is ∙ pair_is)) }

        module _ {tally : Tally} {c : Bool} (is : r ≡ Ok (record { tally = tally; required = c })) where
          went_on : PairEnded bytes t types places s rs open_marks totals f fr.at (fr.at + 4) (fr.held + n) Pair tally.visits tally.sum c u us open-1 totals-1
          went_on = ending is

          outer_same : context_at (read u us) fr.at ≡ before
          outer_same = beside_context went_on.beside fr.at S.ready.low (le_refl (fr.at + 4))

          branched : Branched bytes t types places u us open-1 totals-1 fr tally.sum tally.visits
          branched =
              let K = went_on in
              let few = A.begins.begun.few in
              let e = ap pieces outer_same in
              let both = K.few max_pieces (omega (arith, few)) (le_refl max_pieces) in
              let sum_few = K.sum_few (fr.held + n) max_pieces (le_refl (fr.held + n)) (omega (arith, few, outer, S.ready.sums)) (le_refl max_pieces) in
              let h : fr.held + n + context_in u us (fr.at + 4) ≡ fr.held + context_in u us fr.at + context_in u us (fr.at + 4) = omega (arith, outer, e) in
              record {
                standing = subst (λ (k : ℕ). Standing bytes t types places u us open-1 totals-1 f (fr.at + 4 + 4) k tally.sum tally.visits) h K.standing;
                low = S.ready.low;
                outer_fine = rw outer_same S.proper.context;
                first_fine = K.first_fine;
                few = omega (arith, e, outer, sum_few);
                first_few = both.0;
                second_few = both.1;
                roomy = K.roomy;
              }

          abbrev continued : State
          continued = state_in bytes t u us open-1 totals-1 f (fr.at + 4 + 4) tally.visits

          abbrev first : RequiredContext
          first = context_at (read u us) (fr.at + 4)

          total_is : {d : Bool} → c ≡ d → Total ≡ end_loop m (block_in bytes t f) (frame_of s rs fr) (o 0) (o 1) (option_of (o 2)) before first d continued
          total_is e = loop_went m (block_in bytes t f) (frame_of s rs fr) (o 0) (o 1) (option_of (o 2)) st (went_on.is ∙ pair_is) ∙ rw e

          -- not required
          pub loop_drops : fr.at + 12 ≤ length us
          loop_drops = omega (arith, branched.standing.ready.high)

          pub loop_dropped : c ≡ false → {vs : List ℕ} → BothDropped us fr.at vs
              → StatementEnds bytes t types places s rs open_marks totals fr Total StatementReq.Loop (Ok (record { tally = tally; required = c })) u vs open-1 totals-1
          loop_dropped e B =
              let D = dropped branched B StatementReq.Loop in
              rw e
              (record {
                by = record {
                  is = D.is
                      ∙ ap (λ (d : RequiredContext). went (with_context d continued) (StatementReq.Loop false)) outer_same
                      ∙ sym (total_is e ∙ loop_not m (block_in bytes t f) (frame_of s rs fr) (o 0) (o 1) (option_of (o 2)) before first continued);
                  standing = D.standing;
                  beside = beside_then fr.at (beside_fewer fr.at (omega arith) went_on.beside) D.beside (le_refl fr.at);
                };
              })

          -- required
          module _ {z : Option ExpressionHandle} (break-if : z ≡ option_of (o 2)) where
            pub loop_passing : Passing bytes t u us fr z tally.sum tally.visits
            loop_passing = record { types = types; places = places; open_marks = open-1; totals = totals-1; branched = branched; there = rw break-if breaks }

            module _ (required : c ≡ true) {q : Result Tally Halt} {v vs : List ℕ} (K : PassEnds bytes t u us fr z tally.sum tally.visits q v vs) where
              abbrev Pass : Out RequiredContext
              Pass = end_pass m (frame_of u us fr) z (context_at (read u us) fr.at) first continued

              pass_is : Pass ≡ end_pass m (frame_of s rs fr) (option_of (o 2)) before first continued
              pass_is =
                  ap (λ (g : walk.Frame). end_pass m g z (context_at (read u us) fr.at) first continued)
                  (frame_same fr A.begins.begun.base_low A.begins.begun.base_below (beside_fewer fr.at (omega arith) went_on.beside))
                  ∙ ap (λ (d : RequiredContext). end_pass m (frame_of s rs fr) z d first continued) outer_same
                  ∙ ap (λ (k : Option ExpressionHandle). end_pass m (frame_of s rs fr) k before first continued) break-if

              passing : {p : Result Tally Halt} → q ≡ p → PassEnding bytes t types places u us open-1 totals-1 fr Pass p v vs
              passing e = subst (λ (p : Result Tally Halt). PassEnding bytes t types places u us open-1 totals-1 fr Pass p v vs) e (K.by types places open-1 totals-1 branched)

              pub loop_pass_halts : {stop : Halt} → q ≡ Err stop
                  → StatementEnds bytes t types places s rs open_marks totals fr Total StatementReq.Loop (Err stop) v vs open-1 totals-1
              loop_pass_halts e = record {
                by = sym (total_is required ∙ end_halt m (frame_of s rs fr) (option_of (o 2)) before first continued (block_in bytes t f) (o 0) (o 1) (passing e ∙ pass_is));
              }

              module _ {left : Tally} (e : q ≡ Ok left) where
                passed : PassEnded bytes t types places u us open-1 totals-1 fr Pass left.visits left.sum v vs
                passed = passing e

                pass_beside : Beside bytes t f fr.at s rs open_marks v vs open-1
                pass_beside = beside_then fr.at (beside_fewer fr.at (omega arith) went_on.beside) passed.beside (le_refl fr.at)

                pub loop_turning : Turning bytes t types places v vs open-1 totals-1 fr b x y left.sum left.visits
                loop_turning =
                    let T = passed in
                    record {
                      standing = T.standing;
                      low = S.ready.low;
                      block = A.begins.block;
                      body_lower = rw body blocks.0;
                      continuing_lower = rw continuing blocks.1;
                      working_few = T.working_few;
                      few = T.few;
                      body_deep = rw body (omega (arith, A.begins.deep, held_before A.within (o 0) blocks.0, pass_beside.long));
                      continuing_deep = rw continuing (omega (arith, A.begins.deep, held_before A.within (o 1) blocks.1, pass_beside.long));
                      roomy = T.roomy;
                    }

                abbrev joined : State
                joined = state_in bytes t v vs open-1 totals-1 f (fr.at + 4) left.visits

                turns_are : turns_in bytes t v vs fr x y max_turns joined ≡ Total
                turns_are =
                    let held = fr.held + context_in v vs fr.at + context_in v vs (fr.at + 4) in
                    let working = context_at (read v vs) (fr.at + 4) in
                    ap (λ (g : walk.Frame). turns (block_in bytes t f) g held x y working max_turns joined)
                    (frame_same fr A.begins.begun.base_low A.begins.begun.base_below pass_beside)
                    ∙ ap (λ (k : ℕ). turns (block_in bytes t f) (frame_of s rs fr) held k y working max_turns joined) body
                    ∙ ap (λ (k : ℕ). turns (block_in bytes t f) (frame_of s rs fr) held (o 0) k working max_turns joined) continuing
                    ∙ sym (total_is required ∙ end_turns m (frame_of s rs fr) (option_of (o 2)) before first continued (block_in bytes t f) (o 0) (o 1) (passed.is ∙ pass_is))

                pub loop_ends : (p : Result Answer Halt) {w ws open-2 : List ℕ} {totals-2 : MarkTotals}
                    → StatementEnds bytes t types places v vs open-1 totals-1 fr (turns_in bytes t v vs fr x y max_turns joined) StatementReq.Loop p w ws open-2 totals-2
                    → StatementEnds bytes t types places s rs open_marks totals fr Total StatementReq.Loop p w ws open-2 totals-2
                loop_ends p T = ends_from p pass_beside turns_are T
