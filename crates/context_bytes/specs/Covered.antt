-- What comparing a need with a record answers. A need goes along a list of entries: `asks` says what it asks of the first one and of the others.
use Rattle.std.specs.Prelude.{ℕ, ◌<◌, ◌≡◌, Bool, true, false, cond, List, ltb, Option as Maybe, Some, None}
use Rattle.std.specs.Borrow.{Bor}
use Rattle.std.proofs.Math.Option.{Option, some, none as nothing}
use Rattle.part.specs.PartReq.{PartReq, all, exist, none, more, contains}
use Rattle.part.specs.Store.{top, part}
use Rattle.context.specs.RequiredContext.{RequiredContext}
use Rattle.clearance.specs.Verdict.{starts}
use Rattle.request.specs.Fields.{fields, Read, malformed, got}
use Rattle.request.specs.Part.{read_variables}
use Rattle.request.specs.Context.{context_of}
use Rattle.context_bytes.specs.Checked.{SkipPlaced}

-- the fields after what was read, where it contains the need q
unfoldable pub covers : PartReq → Read PartReq → Option (List ℕ)
covers q malformed = nothing
covers q (got p fs) = cond (contains p q) (some fs) nothing

-- what is asked of an entry and of those after it, or what no such list has
pub data Asked : Type 0 where
  other : Asked
  each : PartReq → PartReq → Asked

-- what a need asks of a list whose first entry has the index i
unfoldable pub asks : PartReq → ℕ → Asked
asks all i = other
asks exist i = each exist exist
asks none i = each exist none
asks (more j q s) i = cond (ltb i j) (each exist (more j q s)) (cond (ltb j i) other (each q s))

abbrev pub asks_answer : List ℕ → Maybe (ℕ × ℕ) → Asked
asks_answer s None = other
asks_answer s (Some p) = each (part s p.0) (part s p.1)

abbrev pub AsksPlaced : List ℕ → Maybe (ℕ × ℕ) → Type 0
AsksPlaced s None = Unit {0}
AsksPlaced s (Some p) = (p.0 < top s) × (p.1 < top s)

pub record AsksPieces (s : List ℕ) (n i : ℕ) (a : Maybe (ℕ × ℕ)) : Type 0 where
  pub is : asks_answer s a ≡ asks (part s n) i
  pub placed : AsksPlaced s a

abbrev pub cover_answer : Maybe (Bor (List ℕ)) → Option (List ℕ)
cover_answer None = nothing
cover_answer (Some c) = some (fields c.now)

pub record Covers (b : List ℕ) (r : Option (List ℕ)) (a : Maybe (Bor (List ℕ))) : Type 0 where
  pub is : cover_answer a ≡ r
  pub placed : SkipPlaced b a

-- what follows a list that had what was asked
abbrev pub after : Option (List ℕ) → (List ℕ → Option (List ℕ)) → Option (List ℕ)
after nothing f = nothing
after (some fs) f = f fs

abbrev pub is_some : Option (List ℕ) → Bool
is_some nothing = false
is_some (some fs) = true

-- whether a list has what g asks, and the next what a asks
unfoldable pub lists_cover : PartReq → PartReq → List ℕ → Bool
lists_cover g a fs = is_some (after (covers g (read_variables fs)) (λ gs. covers a (read_variables gs)))

-- of an accepted context, whether it has what the need n asks at the start
pub record CoversContext (s : List ℕ) (n : ℕ) (b : List ℕ) (r : Bool) : Type 0 where
  pub is : (c : RequiredContext) (marks : List ℕ) → context_of b ≡ some c
      → r ≡ starts (record { marks = marks; globals = c.globals; args = c.args }) (part s n)
