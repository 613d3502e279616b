-- What the code of a part and the index of an entry come to.
use Rattle.std.specs.Prelude.{ℕ, ◌+◌, ◌-◌, ◌<◌, ◌≡◌, cond, ◌&&◌, List, [], ◌∷◌, leb, ltb, length, Option as Maybe, Some, None}
use Rattle.std.specs.Borrow.{Bor}
use Rattle.std.proofs.Math.Option.{Option, some, none as nothing}
use Rattle.field.specs.Limits.{absent}
use Rattle.part.specs.PartReq.{PartReq, all, exist}
use Rattle.request.specs.Fields.{fields, Read, malformed, got}
use Rattle.request.specs.Part.{read_part, read_entries}
use Rattle.request.specs.Answers.{Tail, Field}
use Rattle.request.specs.declared.codes.Code.{Code}
use Rattle.request.specs.declared.codes.Code.TheVariants.{All, Exist, Entries}

-- a part whose code this is, before the fields fs
abbrev pub after_code : (d : ℕ) → Code → (fs : List ℕ) → Read PartReq
after_code d All fs = got all fs
after_code d Exist fs = got exist fs
after_code d (Entries n) fs = read_entries (read_part (d - 1)) 0 0 n fs

-- the part that the bytes begin with, by the answer of `part_code`
abbrev pub by_answer : (d : ℕ) → Maybe (Code × Bor (List ℕ)) → Read PartReq
by_answer d None = malformed
by_answer d (Some p) = after_code d p.0 (fields p.1.now)

-- Of b the bytes c are left behind this code.
abbrev pub CodeLeaves : (b : List ℕ) (d : ℕ) → Code → (c : List ℕ) → Type 0
CodeLeaves b d All c = (2 + length c ≡ length b) × Tail b c
CodeLeaves b d Exist c = (2 + length c ≡ length b) × Tail b c
CodeLeaves b d (Entries n) c = (4 + length c ≡ length b) × (0 < d) × Tail b c

abbrev pub CodePlaced : (b : List ℕ) (d : ℕ) → Maybe (Code × Bor (List ℕ)) → Type 0
CodePlaced b d None = Unit {0}
CodePlaced b d (Some p) = CodeLeaves b d p.0 p.1.now

pub record CodeWasRead (b : List ℕ) (d : ℕ) (a : Maybe (Code × Bor (List ℕ))) : Type 0 where
  pub is : read_part d (fields b) ≡ by_answer d a
  pub placed : CodePlaced b d a

-- the first index of some entries, which is `low` or more and not absent
unfoldable pub index_of : (low : ℕ) → List ℕ → Option ℕ
index_of low [] = nothing
index_of low (i ∷ fs) = cond (leb low i && ltb i absent) (some i) nothing

abbrev pub index_answer : Maybe (ℕ × Bor (List ℕ)) → Option ℕ
index_answer None = nothing
index_answer (Some p) = some p.0

abbrev pub IndexPlaced : List ℕ → Maybe (ℕ × Bor (List ℕ)) → Type 0
IndexPlaced b None = Unit {0}
IndexPlaced b (Some p) = Field b p.0 p.1.now

pub record IndexWasRead (b : List ℕ) (low : ℕ) (a : Maybe (ℕ × Bor (List ℕ))) : Type 0 where
  pub is : index_answer a ≡ index_of low (fields b)
  pub placed : IndexPlaced b a
