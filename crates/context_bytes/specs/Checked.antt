-- What checking a record answers: only where it ends, and whether its variables are there.
use Rattle.std.specs.Prelude.{ℕ, ◌+◌, ◌≡◌, Bool, List, Option as Maybe, Some, None, Result, Ok, Err}
use Rattle.std.specs.Borrow.{Bor}
use Rattle.std.proofs.Math.Option.{Option, some, none as nothing}
use Rattle.field.specs.Refusal.{number}
use Rattle.field.specs.declared.refusal.Refusal.{Refusal}
use Rattle.part.specs.PartReq.{PartReq}
use Rattle.context.specs.RequiredContext.{RequiredContext}
use Rattle.request.specs.Fields.{fields, Read, malformed, got, Answer, refused, accepted}
use Rattle.request.specs.Request.{all_below}
use Rattle.request.specs.Part.{read_part, read_entries}
use Rattle.request.specs.Context.{finish_context}
use Rattle.request.specs.Answers.{Tail}

-- 01's number of an answer, or 0 where it is accepted
unfoldable pub status_of : {A : Type 0} → Answer A → ℕ
status_of (refused n) = n
status_of (accepted x) = 0

-- the same of what the code answers
abbrev pub status : {A : Type 0} → Result A Refusal → ℕ
status (Ok x) = 0
status (Err e) = number e

-- what refuses a context of a function that is not there: 12, or else 11
unfoldable pub without_function : Option RequiredContext → ℕ
without_function nothing = 12
without_function (some c) = 11

-- the fields after what was read
unfoldable pub past : {A : Type 0} → Read A → Option (List ℕ)
past malformed = nothing
past (got x fs) = some fs

-- of a list that was read, whether every index is below `limit`
unfoldable pub checked : (limit : ℕ) → Read PartReq → Read Bool
checked limit malformed = malformed
checked limit (got q fs) = got (all_below limit q) fs

abbrev pub skip_answer : Maybe (Bor (List ℕ)) → Option (List ℕ)
skip_answer None = nothing
skip_answer (Some c) = some (fields c.now)

abbrev pub SkipPlaced : List ℕ → Maybe (Bor (List ℕ)) → Type 0
SkipPlaced b None = Unit {0}
SkipPlaced b (Some c) = Tail b c.now

-- what was read of the bytes b is r: the answer is the bytes that are left
pub record Skips {A : Type 0} (b : List ℕ) (r : Read A) (a : Maybe (Bor (List ℕ))) : Type 0 where
  pub is : skip_answer a ≡ past r
  pub placed : SkipPlaced b a

abbrev pub check_answer : Maybe (Bool × Bor (List ℕ)) → Read Bool
check_answer None = malformed
check_answer (Some p) = got p.0 (fields p.1.now)

abbrev pub CheckPlaced : List ℕ → Maybe (Bool × Bor (List ℕ)) → Type 0
CheckPlaced b None = Unit {0}
CheckPlaced b (Some p) = Tail b p.1.now

pub record Checks (b : List ℕ) (r : Read Bool) (a : Maybe (Bool × Bor (List ℕ))) : Type 0 where
  pub is : check_answer a ≡ r
  pub placed : CheckPlaced b a

-- of n entries, for whatever stands before their indexes in the requirement
pub record EntriesChecked (b : List ℕ) (d limit n : ℕ) (a : Maybe (Bool × Bor (List ℕ))) : Type 0 where
  pub checks : (base : ℕ) → Checks b (checked (base + limit) (read_entries (read_part d) base 0 n (fields b))) a

-- of a context's lists, for whatever return part stands before them
pub record ListsChecked (globals args locals : ℕ) (fs : List ℕ) (r : Result (Unit {0}) Refusal) : Type 0 where
  pub is : (p : Option PartReq) → status r ≡ status_of (finish_context globals args locals p fs)
