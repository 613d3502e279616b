-- A block in a block: it is below its holder's, can be entered, and its context takes the place of the holder's.
use Prim.Native.Nat.{ℕ, ◌+◌, ◌<◌, ◌≤◌}
use native.Mathlib.Omega.{arith}
use mathlib.Core.Path.{◌≡◌, sym, ap, ◌∙◌}
use mathlib.Core.Bool.{Bool}
use mathlib.Core.List.{List}
use lib.ListN.{length}
use Rattle.std.specs.Prelude.{Result, Ok, Err}
use Rattle.part.specs.StoreLimits.{entries_cap}
use Rattle.module.specs.Module.{BlockHandle}
use Rattle.access.specs.Access.{operand_at}
use Rattle.access.specs.declared.kinded.Kinded.{Kinded}
use Rattle.context.specs.RequiredContext.{empty_context}
use Rattle.walk.specs.State.{State, Out}
use Rattle.walk.specs.StatementReq.{StatementReq}
use Rattle.walk.specs.Statement.{add_nested}
use Rattle.memory.specs.Memory.{read, sum_from, context_at, Memory}
use Rattle.memory.proofs.Runs.{context_pieces}
use Rattle.marks.specs.declared.places.MarkPlaces.{MarkPlaces}
use Rattle.marks.specs.declared.totals.MarkTotals.{MarkTotals}
use Rattle.marks.specs.Ray.{held_count, held_number}
use Rattle.marks.proofs.Rays.{held_block}
use Rattle.state.specs.Frame.{frame_of}
use Rattle.state.specs.declared.answer.Tally.{Tally}
use Rattle.state.specs.declared.frame.Frame.{Frame}
use Rattle.state.specs.declared.answer.Halt.{Halt}
use Rattle.state.specs.declared.answer.Answer.{Answer}
use Rattle.block.specs.Standing.{state_in}
use Rattle.block.specs.Saved.{Lowered}
use Rattle.block.specs.Blocks.{context_in, Entered, BlockEnded, BlockEnds, StatementEnds}
use Rattle.block.specs.Visiting.{block_in, Arms}
use Rattle.block.proofs.Tops.{up_state}
use Rattle.block.proofs.Arms.{lowered_is, lowered_standing, lowered_beside}
use Rattle.block.proofs.Unroll.{nested_done, nested_halt}
use Rattle.block.proofs.Nests.{first_enters}
use Rattle.block.proofs.Tight.{enters_more, ends_less}
use Rattle.block.proofs.Answered.{block_went, block_halt, block_anywhere}
use Rattle.block.proofs.Paired.{weighs}

module _ {bytes t types : List ℕ} {places : MarkPlaces} {s rs open_marks : List ℕ} {totals : MarkTotals} {fr : Frame} {b : BlockHandle} {row : Kinded} {sum visits : ℕ}
    (A : Arms bytes t types places s rs open_marks totals fr b row sum visits) where
  -- the context at the top can be counted
  pub arm_weighs : Memory s rs × ((fr.at + 4 ≤ length rs) × (sum_from (read s rs) fr.at 4 ≤ entries_cap))
  arm_weighs = weighs A.begins.standing

  pub arm_small : {w : ℕ} → w ≡ sum_from (read s rs) fr.at 4 → fr.held + w ≤ entries_cap
  arm_small i = omega (arith, i, context_pieces (read s rs) fr.at, A.begins.standing.ready.small)

  pub arm_high : fr.at + 12 ≤ length rs
  arm_high = omega (arith, A.begins.deep)

  pub nested_lower : row.kind ≡ 1 → operand_at bytes row 0 < b
  unfolding held_count held_number
  nested_lower k = rw k at (held_block bytes t fr.function.0 b fr.statement A.within row A.is 0 (rw k (omega arith))).0

  module _ (k : row.kind ≡ 1) {inner : BlockHandle} (j : inner ≡ operand_at bytes row 0) where
    nested_held : Entered bytes t types places s rs open_marks totals fr.function.0 inner fr.at (fr.at + 4) (fr.held + context_in s rs fr.at) (fr.held + context_in s rs fr.at) sum visits
    nested_held = rw j (first_enters A.begins A.within (operand_at bytes row 0) (nested_lower k))

    abbrev Inside : ℕ → Out Bool
    Inside w = block_in bytes t fr.function.0 inner (fr.held + w) (context_at (read s rs) fr.at) fr.break_required (state_in bytes t s rs open_marks totals fr.function.0 (fr.at + 4) visits)

    abbrev start : State
    start = state_in bytes t s rs open_marks totals fr.function.0 fr.at visits

    abbrev whole : Out StatementReq
    whole = add_nested (block_in bytes t fr.function.0) (frame_of s rs fr) (operand_at bytes row 0) start

    inside_is : Inside (context_in s rs fr.at)
        ≡ block_in bytes t fr.function.0 (operand_at bytes row 0) (fr.held + context_in s rs fr.at) (context_at (read s rs) fr.at) fr.break_required start
    inside_is =
        rw j
        (ap (block_in bytes t fr.function.0 (operand_at bytes row 0) (fr.held + context_in s rs fr.at) (context_at (read s rs) fr.at) fr.break_required) (up_state A.begins.standing)
        ∙ block_anywhere A.begins.standing.ready.was_read fr.function.0 (operand_at bytes row 0) (fr.held + context_in s rs fr.at) (context_at (read s rs) fr.at) empty_context fr.break_required start)

    module _ {w : ℕ} (i : w ≡ sum_from (read s rs) fr.at 4) where
      weight : w ≡ context_in s rs fr.at
      weight = i ∙ context_pieces (read s rs) fr.at

      pub nested_enters : Entered bytes t types places s rs open_marks totals fr.function.0 inner fr.at (fr.at + 4) (fr.held + w) (fr.held + w + context_in s rs fr.at) sum visits
      nested_enters = rw weight (enters_more nested_held (omega arith))

      module _ {r : Result Answer Halt} {u us open_after : List ℕ} {totals-after : MarkTotals}
          (E : BlockEnds bytes t types places s rs open_marks totals fr.function.0 fr.at (fr.at + 4) (fr.held + w) (fr.held + w + context_in s rs fr.at) sum (Inside w) r u us open_after totals-after) where
        pub nested_stops : {stop : Halt} → r ≡ Err stop
            → StatementEnds bytes t types places s rs open_marks totals fr whole StatementReq.BlockStmt (Err stop) u us open_after totals-after
        nested_stops e = record {
          by = sym (nested_halt (block_in bytes t fr.function.0) (frame_of s rs fr) (operand_at bytes row 0) start (block_halt E e ∙ ap Inside weight ∙ inside_is));
        }

        module _ {tally : Tally} {required : Bool} (e : r ≡ Ok (record { tally = tally; required = required })) where
          ended : BlockEnded bytes t types places s rs open_marks totals fr.function.0 fr.at (fr.at + 4) (fr.held + context_in s rs fr.at) (fr.held + context_in s rs fr.at) sum (Inside (context_in s rs fr.at)) tally.visits tally.sum required u us open_after totals-after
          ended = ends_less nested_held (omega arith) (rw weight at (block_went E e))

          pub nested_lowers : fr.at + 8 ≤ length us
          nested_lowers = omega (arith, ended.standing.ready.high)

          pub nested_ends : {vs : List ℕ} → Lowered us fr.at vs
              → StatementEnds bytes t types places s rs open_marks totals fr whole StatementReq.BlockStmt (Ok (record { tally = tally; required = required })) u vs open_after totals-after
          nested_ends L = record {
            by = record {
              is = sym (nested_done (block_in bytes t fr.function.0) (frame_of s rs fr) (operand_at bytes row 0) start (lowered_is A.begins.standing ended L ∙ inside_is));
              standing = lowered_standing A.begins.standing ended L;
              beside = lowered_beside A.begins.standing ended L;
            };
          }
