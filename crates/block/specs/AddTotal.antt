-- The walk just done put into the totals, beside `add_total`: what it asks, and what it leaves of every state that stands so.
use Rattle.std.specs.Prelude.{◌≡◌, List, ℕ, ◌+◌, ◌*◌, ◌<◌, ◌≤◌, length, get_or, Result, Ok, Err}
use Rattle.std.proofs.Math.Option.{none as nothing}
use Rattle.field.specs.Refusal.{number}
use Rattle.part.specs.Store.{Room}
use Rattle.part.specs.StoreLimits.{entries_cap}
use Rattle.module.specs.Module.{FunctionHandle}
use Rattle.module.specs.Tables.{module_of}
use Rattle.context.specs.RequiredContext.{pieces}
use Rattle.walk.specs.State.{Out, went, halt, record_pieces}
use Rattle.walk.specs.Function.{add_total}
use Rattle.walk.specs.Proper.{Sound}
use Rattle.memory.specs.Layout.{exprs_slot, functions_slot}
use Rattle.memory.specs.Memory.{read, context_at}
use Rattle.marks.specs.declared.places.MarkPlaces.{MarkPlaces}
use Rattle.marks.specs.declared.totals.MarkTotals.{MarkTotals}
use Rattle.state.specs.State.{records_in, place_of}
use Rattle.access.specs.Laid.{WasRead}
use Rattle.state.specs.declared.answer.Place.{Place}
use Rattle.state.specs.declared.answer.Halt.{Halt}
use Rattle.state.specs.declared.answer.Tally.{Tally}
use Rattle.block.specs.Standing.{functions_in, state_in, Standing}
use Rattle.block.specs.Blocks.{Beside}
use Rattle.block.specs.Adding.{Adding}

pub record TotalAsked (bytes t starts s rs open_marks : List ℕ) (f : FunctionHandle) (at sum : ℕ) : Type 0 where
  pub adding : Adding t starts s rs open_marks f at sum
  pub was_read : WasRead bytes t
  pub function : f < length (module_of bytes t).functions
  pub roomy : Room s (pieces (context_at (read s rs) (functions_slot + 4 * f)) + pieces (context_at (read s rs) at))

-- it went as `total` says
pub record TotalEnded (bytes t types : List ℕ) (places : MarkPlaces) (s rs open_marks : List ℕ) (f : FunctionHandle) (at held before : ℕ) (total : Out (Unit {0})) (visits sum : ℕ) (u us : List ℕ) (after : MarkTotals) : Type 0 where
  pub is : went (state_in bytes t u us open_marks after f at visits) tt ≡ total
  pub few : sum ≤ before + (record_pieces (records_in t exprs_slot f (read s rs)) + pieces (context_at (read s rs) at))
  pub standing : Sound (module_of bytes t) → held + (pieces (context_at (read s rs) at) + sum) ≤ entries_cap → Standing bytes t types places u us open_marks after f at held sum visits
  pub beside : Beside bytes t f at s rs open_marks u us open_marks

abbrev pub TotalEnding : (bytes t types : List ℕ) (places : MarkPlaces) (s rs open_marks : List ℕ) → FunctionHandle → (at held before : ℕ) → Out (Unit {0}) → Result Tally Halt → (u us : List ℕ) (after : MarkTotals) → Type 0
TotalEnding bytes t types places s rs open_marks f at held before total (Ok tally) u us after =
    TotalEnded bytes t types places s rs open_marks f at held before total tally.visits tally.sum u us after
TotalEnding bytes t types places s rs open_marks f at held before total (Err h) u us after = halt (number h.refusal) (place_of h.place) ≡ total

pub record TotalEnds (bytes t : List ℕ) (places : MarkPlaces) (s rs open_marks : List ℕ) (totals : MarkTotals) (f : FunctionHandle) (at sum visits : ℕ) (here : Place) (r : Result Tally Halt) (u us : List ℕ) (after : MarkTotals) : Type 0 where
  pub by : (types : List ℕ) (held : ℕ) → Standing bytes t types places s rs open_marks totals f at held sum visits
      → TotalEnding bytes t types places s rs open_marks f at held sum
      (add_total (module_of bytes t) f (place_of here) (get_or (functions_in (module_of bytes t) t (read s rs) totals) f nothing) (state_in bytes t s rs open_marks totals f at visits)) r u us after
