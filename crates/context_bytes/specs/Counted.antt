-- What counting a record's entries answers: how many there are, and where the next field stands.
use Rattle.std.specs.Prelude.{ℕ, ◌+◌, ◌*◌, ◌≤◌, ◌≡◌, List, length, Option as Maybe, Some, None}
use Rattle.std.specs.Borrow.{Bor}
use Rattle.std.proofs.Math.Option.{Option, some}
use Rattle.part.specs.PartReq.{PartReq, entries}
use Rattle.context.specs.RequiredContext.{RequiredContext, pieces, return_entry}
use Rattle.request.specs.Fields.{fields, Read, malformed, got}
use Rattle.request.specs.Part.{read_part, read_entries}
use Rattle.request.specs.Context.{context_of}

-- the entries of what was read
unfoldable pub counted : Read PartReq → Read ℕ
counted malformed = malformed
counted (got p fs) = got (entries p) fs

-- the same of a return part
unfoldable pub counted_return : Read (Option PartReq) → Read ℕ
counted_return malformed = malformed
counted_return (got o fs) = got (entries (return_entry o)) fs

abbrev pub count_answer : Maybe (ℕ × Bor (List ℕ)) → Read ℕ
count_answer None = malformed
count_answer (Some p) = got p.0 (fields p.1.now)

-- An entry has at least four bytes: of those that were read, and two more, k are not counted.
abbrev pub CountPlaced : List ℕ → ℕ → Maybe (ℕ × Bor (List ℕ)) → Type 0
CountPlaced b k None = Unit {0}
CountPlaced b k (Some p) = k + 4 * p.0 + length p.1.now ≤ 2 + length b

pub record Counts (b : List ℕ) (k : ℕ) (r : Read ℕ) (a : Maybe (ℕ × Bor (List ℕ))) : Type 0 where
  pub is : count_answer a ≡ r
  pub placed : CountPlaced b k a

-- of n entries, for whatever stands before their indexes in the requirement
pub record EntriesCounted (b : List ℕ) (d n : ℕ) (a : Maybe (ℕ × Bor (List ℕ))) : Type 0 where
  pub counts : (base : ℕ) → Counts b 2 (counted (read_entries (read_part d) base 0 n (fields b))) a

-- r is what 16 counts of the context that bytes mean
pub record PiecesCounted (b : List ℕ) (r : ℕ) : Type 0 where
  pub is : (c : RequiredContext) → context_of b ≡ some c → r ≡ pieces c
