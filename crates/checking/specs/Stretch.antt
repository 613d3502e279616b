-- Where the marks of a function and of its statements stand, as the code says it.
use Rattle.std.specs.Prelude.{ℕ, ◌+◌, ◌-◌, ◌<◌, ◌≤◌, ◌≡◌, not, ◌&&◌, List, length, get_or, Result, Ok, Err, is_ok}
use Rattle.std.specs.declared.ops.Range.{Range}
use Rattle.module.specs.Module.{Statement}
use Rattle.module.specs.Marks.{marks_before}
use Rattle.module.specs.Tables.{function_of, module_of}
use Rattle.walk.specs.Marks.{stretch}
use Rattle.marks.specs.Places.{slice, start_of}
use Rattle.clearance.specs.Verdict.{has_shape}
use Rattle.checking.specs.Check.{cut_short}

-- each statement's first mark, in the function's stretch
pub record Firsts (ss : List Statement) (firsts : List ℕ) : Type 0 where
  pub long : length ss ≤ length firsts
  pub each : (s : ℕ) → s < length ss → get_or firsts s 0 ≡ marks_before ss s

-- the function's marks as they are checked
abbrev pub marks_in : (bytes t : List ℕ) (f : ℕ) (report : List ℕ) → List ℕ
marks_in bytes t f report = slice report (start_of (module_of bytes t) f) (stretch (module_of bytes t) f)

-- the place that the answer tells, well or not
abbrev pub found_at : Result (Range ℕ) (Range ℕ) → Range ℕ
found_at (Ok r) = r
found_at (Err r) = r

-- The answer's part of the buffer is what the function's stretch has in it, and it is well where the whole stretch is there and has the function's shape. Where the whole stretch lies in the buffer, it is the
-- stretch itself; else what is past the buffer's end is left out.
pub record MarksFound (bytes t : List ℕ) (f : ℕ) (report : List ℕ) (r : Result (Range ℕ) (Range ℕ)) : Type 0 where
  pub ascends : (found_at r).start ≤ (found_at r).end
  pub inside : (found_at r).end ≤ length report
  pub is : slice report (found_at r).start ((found_at r).end - (found_at r).start) ≡ marks_in bytes t f report
  pub fits : is_ok r ≡ not (cut_short (module_of bytes t) f report) && has_shape (function_of bytes t f) (marks_in bytes t f report)
  pub from_is : start_of (module_of bytes t) f ≤ length report → (found_at r).start ≡ start_of (module_of bytes t) f
  pub to_is : start_of (module_of bytes t) f + stretch (module_of bytes t) f ≤ length report → (found_at r).end ≡ start_of (module_of bytes t) f + stretch (module_of bytes t) f
