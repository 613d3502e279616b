-- What the walk of a request finds: the totals that were read, the base context of the asked function at the bottom of the stack, and nothing else.
use Rattle.std.specs.Prelude.{◌≡◌, false, List, ℕ, ◌+◌, ◌*◌, ◌<◌, ◌≤◌, length, get_or, replicate}
use Rattle.field.specs.Limits.{max_pieces, min_report}
use Rattle.part.specs.PartReq.{none}
use Rattle.part.specs.Store.{Room}
use Rattle.module.specs.Tables.{module_of}
use Rattle.context.specs.Types.{types_of}
use Rattle.context.specs.RequiredContext.{pieces, return_entry}
use Rattle.request.specs.Request.{Request}
use Rattle.walk.specs.State.{record_pieces, total_pieces}
use Rattle.walk.specs.Marks.{stretch}
use Rattle.walk.specs.Requests.{Pruner}
use Rattle.walk.specs.Proper.{FineRequest, FinePruner}
use Rattle.memory.specs.Layout.{globals_slot, exprs_slot, totals_slot, functions_slot, stack_slot, slot_count, room}
use Rattle.memory.specs.Memory.{read, context_at, Memory}
use Rattle.marks.specs.declared.places.MarkPlaces.{MarkPlaces}
use Rattle.marks.specs.declared.totals.MarkTotals.{MarkTotals}
use Rattle.marks.specs.Places.{slice, start_of, Places}
use Rattle.marks.specs.Report.{has_total}
use Rattle.state.specs.State.{records_in, totals_sum}
use Rattle.access.specs.Laid.{WasRead}
use Rattle.block.specs.Standing.{functions_in}
use Rattle.block.specs.Blocks.{context_in}
use Rattle.pruner.specs.Form.{pruner_pieces}

pub record Loaded (bytes t types : List ℕ) (places : MarkPlaces) (s rs open_marks : List ℕ) (totals : MarkTotals) (q : Request) (pruner : Pruner) : Type 0 where
  pub was_read : WasRead bytes t
  pub typed : types_of types ≡ (module_of bytes t).types
  pub placed : Places bytes t places
  pub open_long : min_report ≤ length open_marks
  pub memory : Memory s rs
  pub slots_long : slot_count ≤ length rs
  pub globals_are : get_or (read s rs) globals_slot none ≡ pruner.globals
  pub functions_are : functions_in (module_of bytes t) t (read s rs) totals ≡ pruner.functions
  pub totals-sum : total_pieces (functions_in (module_of bytes t) t (read s rs) totals) ≡ totals_sum (read s rs)
  pub unwalked : (g : ℕ) → g < length (module_of bytes t).functions → has_total totals g ≡ false → record_pieces (records_in t totals_slot g (read s rs)) + pieces (context_at (read s rs) (functions_slot + 4 * g)) ≡ 0
  pub base_is : context_at (read s rs) stack_slot ≡ record { globals = q.globals; locals = none; args = none; retval = return_entry q.retval }
  pub no_records : (k : ℕ) → exprs_slot ≤ k → k < totals_slot → get_or (read s rs) k none ≡ none
  pub above : (k : ℕ) → stack_slot + 4 ≤ k → get_or (read s rs) k none ≡ none
  pub no_marks : slice open_marks (start_of (module_of bytes t) q.function) (stretch (module_of bytes t) q.function) ≡ replicate (stretch (module_of bytes t) q.function) 0
  pub function : q.function < length (module_of bytes t).functions
  pub fine : FineRequest (module_of bytes t) q
  pub fine_pruner : FinePruner (module_of bytes t) pruner
  pub few : pruner_pieces pruner ≤ max_pieces
  pub base_few : context_in s rs stack_slot ≤ 2 * max_pieces
  pub roomy : Room s room
