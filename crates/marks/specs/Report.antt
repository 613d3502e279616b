-- The totals of marks and the report, as buffers have them.
use Rattle.std.specs.Prelude.{◌≡◌, Bool, true, false, cond, List, [], ◌++◌, ℕ, zero, suc, ◌<◌, eqb, length, get_or, set, replicate}
use Rattle.std.proofs.Math.Option.{Option, some, none as nothing}
use Rattle.module.specs.Module.{FunctionHandle, Module}
use Rattle.walk.specs.State.{FunctionReq}
use Rattle.walk.specs.Marks.{stretch, write_marks, add_marks}
use Rattle.marks.specs.declared.totals.MarkTotals.{MarkTotals}
use Rattle.marks.specs.Places.{slice, start_of, start_in, size_in}

-- the flags and the marks in two slices
abbrev pub totals_of : (flags : List Bool) (marks : List ℕ) → MarkTotals
totals_of flags marks = record { flags = flags; marks = marks }

-- whether f has a total, and the total's marks
abbrev pub has_total : (totals : MarkTotals) → FunctionHandle → Bool
has_total totals f = get_or totals.flags f false

unfoldable pub total_in : Module → (totals : MarkTotals) → FunctionHandle → Option (List ℕ)
total_in m totals f = cond (has_total totals f) (some (slice totals.marks (start_of m f) (stretch m f))) nothing

-- the buffer has the marks of the state's totals
abbrev pub marks_kept : Option FunctionReq → Option (List ℕ)
marks_kept nothing = nothing
marks_kept (some total) = some total.marks

abbrev pub Totals : Module → (totals : MarkTotals) → List (Option FunctionReq) → Type 0
Totals m totals fs = (f : ℕ) → f < length m.functions → total_in m totals f ≡ marks_kept (get_or fs f nothing)

-- the first total of f has its marks in `marks`, and a later one is joined to them
pub record MarksKept (starts : List ℕ) (marks : List ℕ) (totals : MarkTotals) (f : FunctionHandle) (after : MarkTotals) : Type 0 where
  pub flags_are : after.flags ≡ set totals.flags f true
  pub marks_are : after.marks ≡ write_marks totals.marks (start_in starts f) (slice marks (start_in starts f) (size_in starts f))

pub record MarksJoined (starts : List ℕ) (marks : List ℕ) (totals : MarkTotals) (f : FunctionHandle) (after : MarkTotals) : Type 0 where
  pub flags_are : after.flags ≡ totals.flags
  pub marks_are : after.marks ≡ write_marks totals.marks (start_in starts f) (add_marks (slice totals.marks (start_in starts f) (size_in starts f)) (slice marks (start_in starts f) (size_in starts f)))

-- A function's part of the report: the asked function's marks are those of its walk, another's those of its total, else 0.
unfoldable pub part_in : (starts : List ℕ) → (marks : List ℕ) → (totals : MarkTotals) → (asked f : FunctionHandle) → List ℕ
part_in starts marks totals asked f =
    cond (eqb f asked) (slice marks (start_in starts f) (size_in starts f))
    (cond (has_total totals f) (slice totals.marks (start_in starts f) (size_in starts f)) (replicate (size_in starts f) 0))

-- the parts of the first n functions
unfoldable pub report_in : (starts : List ℕ) → (marks : List ℕ) → (totals : MarkTotals) → (asked n : FunctionHandle) → List ℕ
report_in starts marks totals asked zero = []
report_in starts marks totals asked (suc f) = report_in starts marks totals asked f ++ part_in starts marks totals asked f
