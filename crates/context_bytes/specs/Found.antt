-- What finding an entry answers. A part stands for what is read at its first byte.
use Rattle.std.specs.Prelude.{ℕ, ◌+◌, ◌≡◌, List, Option as Maybe, Some, None}
use Rattle.std.specs.Borrow.{Bor}
use Rattle.std.proofs.Math.Option.{some}
use Rattle.part.specs.PartReq.{PartReq, none, Subpart, gone, there, get_subpart}
use Rattle.context.specs.RequiredContext.{RequiredContext, variable}
use Rattle.field.specs.Limits.{max_depth}
use Rattle.request.specs.Fields.{fields, Read, malformed, got}
use Rattle.request.specs.Part.{read_part, read_entries, read_variables}
use Rattle.request.specs.Context.{context_of}
use Rattle.request.specs.Answers.{Tail}

-- what was read; nothing where that was no part
unfoldable pub value_of : Read PartReq → PartReq
value_of malformed = none
value_of (got p fs) = p

-- the part that the bytes begin with, at most d deep
abbrev pub part_in : (b : List ℕ) (d : ℕ) → PartReq
part_in b d = value_of (read_part d (fields b))

-- there is one
pub record Readable (b : List ℕ) (d : ℕ) : Type 0 where
  pub is : read_part d (fields b) ≡ malformed → ⊥

-- of parts at most d deep, in the bytes b
abbrev pub SubpartIn : List ℕ → Subpart → ℕ → Maybe (Bor (List ℕ)) → Type 0
SubpartIn b sub d None = sub ≡ gone
SubpartIn b sub d (Some c) = Readable c.now d × (sub ≡ there (part_in c.now d)) × Tail b c.now

-- of n entries that are read, for whatever stands before their indexes in the requirement, a is that of the index i
pub record EntryFound (b : List ℕ) (d n i : ℕ) (a : Maybe (Bor (List ℕ))) : Type 0 where
  pub is : (base : ℕ) (p : PartReq) (fs : List ℕ) → read_entries (read_part d) base 0 n (fields b) ≡ got p fs → SubpartIn b (get_subpart p (base + i)) d a

-- the same of a list of variables
pub record VariableFound (b : List ℕ) (i : ℕ) (a : Maybe (Bor (List ℕ))) : Type 0 where
  pub is : (p : PartReq) (fs : List ℕ) → read_variables (fields b) ≡ got p fs → SubpartIn b (get_subpart p (variable i)) max_depth a

-- the list of variables that the bytes begin with
abbrev pub list_in : (b : List ℕ) → PartReq
list_in b = value_of (read_variables (fields b))

-- there is one
pub record ListReadable (b : List ℕ) : Type 0 where
  pub is : read_variables (fields b) ≡ malformed → ⊥

-- there is one, and it is p
pub record ListIn (b : List ℕ) (p : PartReq) : Type 0 where
  pub rest : List ℕ
  pub is : read_variables (fields b) ≡ got p rest

-- a begins with the arguments of the context that the bytes b mean, and stands there
pub record ArgsIn (b a : List ℕ) : Type 0 where
  pub is : (c : RequiredContext) → context_of b ≡ some c → ListIn a c.args
  pub tail : Tail b a

-- the same, where the context is read as far as that
abbrev pub ArgsAfter : List ℕ → Maybe (Bor (List ℕ)) → Type 0
ArgsAfter b None = (c : RequiredContext) → context_of b ≡ some c → ⊥
ArgsAfter b (Some a) = ArgsIn b a.now
