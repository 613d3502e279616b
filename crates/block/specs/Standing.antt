-- The memory of the walk of blocks: what it means, and when it is well formed.
use Rattle.std.specs.Prelude.{◌≡◌, false, List, ℕ, ◌+◌, ◌*◌, ◌<◌, ◌≤◌, length, get_or}
use Rattle.std.proofs.Math.Option.{Option, some, none as nothing}
use Rattle.field.specs.Limits.{min_report}
use Rattle.part.specs.PartReq.{PartReq, none}
use Rattle.module.specs.Module.{Module, FunctionHandle}
use Rattle.module.specs.Decode.{tab}
use Rattle.module.specs.Tables.{row_at, module_of}
use Rattle.context.specs.Types.{types_of}
use Rattle.context.specs.RequiredContext.{RequiredContext, pieces}
use Rattle.walk.specs.State.{Records, FunctionReq, State, record_pieces, total_pieces}
use Rattle.walk.specs.Marks.{stretch}
use Rattle.walk.specs.Proper.{ProperState}
use Rattle.memory.specs.Layout.{exprs_slot, totals_slot, functions_slot}
use Rattle.memory.specs.Memory.{read, context_at}
use Rattle.marks.specs.declared.places.MarkPlaces.{MarkPlaces}
use Rattle.marks.specs.declared.totals.MarkTotals.{MarkTotals}
use Rattle.marks.specs.Places.{slice, start_of, Places}
use Rattle.marks.specs.Report.{has_total}
use Rattle.marks.specs.Report as report
use Rattle.state.specs.State.{Rest, state_of, records_in, totals_sum}
use Rattle.state.specs.Ready.{Ready}

-- the total of a function: its marks, if it has one, with its context and records
unfoldable pub total_of : Option (List ℕ) → RequiredContext → Records → Option FunctionReq
total_of nothing c es = nothing
total_of (some ms) c es = some (record { marks = ms; context = c; exprs = es })

-- as its slots, its flag and its marks have it
unfoldable pub total_in : Module → (t : List ℕ) → List PartReq → (totals : MarkTotals) → FunctionHandle → Option FunctionReq
total_in m t ps totals g = total_of (report.total_in m totals g) (context_at ps (functions_slot + 4 * g)) (records_in t totals_slot g ps)

unfoldable pub functions_in : Module → (t : List ℕ) → List PartReq → (totals : MarkTotals) → List (Option FunctionReq)
functions_in m t ps totals = tab (length m.functions) (total_in m t ps totals)

-- the marks of the open function, and the totals
abbrev pub rest_in : Module → (t : List ℕ) → FunctionHandle → List PartReq → (open_marks : List ℕ) (totals : MarkTotals) → Rest
rest_in m t f ps open_marks totals =
    record { marks = slice open_marks (start_of m f) (stretch m f); functions = functions_in m t ps totals }

-- the state of the walk
abbrev pub state_in : (bytes t s rs open_marks : List ℕ) (totals : MarkTotals) → FunctionHandle → (at visits : ℕ) → State
state_in bytes t s rs open_marks totals f at visits =
    state_of t f at (read s rs) (rest_in (module_of bytes t) t f (read s rs) open_marks totals) visits

-- Tables, buffers and slots are as a block of f finds and leaves them. Functions below f have no records: they are not open. No context stands above the
-- current one. A function without a total has nothing in the total's slots.
pub record Standing (bytes t types : List ℕ) (places : MarkPlaces) (s rs open_marks : List ℕ) (totals : MarkTotals) (f : FunctionHandle) (at held sum visits : ℕ) : Type 0 where
  pub ready : Ready bytes t s rs f at held sum
  pub typed : types_of types ≡ (module_of bytes t).types
  pub placed : Places bytes t places
  pub open_long : min_report ≤ length open_marks
  pub totals-sum : total_pieces (functions_in (module_of bytes t) t (read s rs) totals) ≡ totals_sum (read s rs)
  pub unwalked : (g : ℕ) → g < length (module_of bytes t).functions → has_total totals g ≡ false → record_pieces (records_in t totals_slot g (read s rs)) + pieces (context_at (read s rs) (functions_slot + 4 * g)) ≡ 0
  pub proper : ProperState (module_of bytes t) 0 f (state_in bytes t s rs open_marks totals f at visits)
  pub closed : (k : ℕ) → exprs_slot ≤ k → k < exprs_slot + (row_at t f).items → get_or (read s rs) k none ≡ none
  pub above : (k : ℕ) → at + 4 ≤ k → get_or (read s rs) k none ≡ none
