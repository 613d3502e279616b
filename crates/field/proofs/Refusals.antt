-- No refusal has the number 0, which says that there is none.
use Prim.Native.Nat.{◌≤◌}
use native.Mathlib.Omega.{arith}
use Rattle.field.specs.declared.refusal.Refusal.{Refusal}
use Rattle.field.specs.declared.refusal.Refusal.TheVariants.{ModuleTooLong, RecordCut, MarkMisplaced, ModuleLimit, ValueNotAllowed, NoSuch, Malformed, Panic, Unsettled, PartLimit, PiecesLimit, VisitsLimit, ReportTooShort, PrunerUnfit, AnswerTooShort, MarksUnfit, CheckBound}
use Rattle.field.specs.Refusal.{number}

pub some_number : (r : Refusal) → 1 ≤ number r
some_number ModuleTooLong = omega arith
some_number RecordCut = omega arith
some_number MarkMisplaced = omega arith
some_number ModuleLimit = omega arith
some_number ValueNotAllowed = omega arith
some_number NoSuch = omega arith
some_number Malformed = omega arith
some_number Panic = omega arith
some_number Unsettled = omega arith
some_number PartLimit = omega arith
some_number PiecesLimit = omega arith
some_number VisitsLimit = omega arith
some_number ReportTooShort = omega arith
some_number PrunerUnfit = omega arith
some_number AnswerTooShort = omega arith
some_number MarksUnfit = omega arith
some_number CheckBound = omega arith
