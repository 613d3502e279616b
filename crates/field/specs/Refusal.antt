-- The numbers of 01's refusals.
use Rattle.std.specs.Prelude.{ℕ, ⊤, Result, Ok, Err}
use Rattle.field.specs.declared.refusal.Refusal.{Refusal}
use Rattle.field.specs.declared.refusal.Refusal.TheVariants.{ModuleTooLong, RecordCut, MarkMisplaced, ModuleLimit, ValueNotAllowed, NoSuch, Malformed, Panic, Unsettled, PartLimit, PiecesLimit, VisitsLimit, ReportTooShort, PrunerUnfit, AnswerTooShort, MarksUnfit, CheckBound}

abbrev pub number : Refusal → ℕ
number ModuleTooLong = 1
number RecordCut = 2
number MarkMisplaced = 3
number ModuleLimit = 4
number ValueNotAllowed = 5
number NoSuch = 11
number Malformed = 12
number Panic = 13
number Unsettled = 14
number PartLimit = 15
number PiecesLimit = 16
number VisitsLimit = 17
number ReportTooShort = 18
number PrunerUnfit = 19
number AnswerTooShort = 20
number MarksUnfit = 21
number CheckBound = 26

-- 0, or the number of the refusal
abbrev pub number_of : Result ⊤ Refusal → ℕ
number_of (Ok u) = 0
number_of (Err r) = number r
