-- Fields written into a lent slice.
use Rattle.std.specs.Prelude.{ℕ, ◌+◌, ◌-◌, ◌*◌, ◌≤◌, ◌≡◌, List, length, set}
use Rattle.std.proofs.lemmas.List.Edits.{sets}
use Rattle.field.specs.Field.{set_word}
use Rattle.request.specs.Fields.{bytes_of}
use Rattle.request.specs.declared.writer.Writer.{Writer}

-- there is room for them in o from the byte `at` on
abbrev pub Fits : List ℕ → ℕ → List ℕ → Type 0
Fits o at fs = at + 2 * length fs ≤ length o

-- p is o with the fields written from the byte `at` on, up to `next`
pub record Written (o p : List ℕ) (at : ℕ) (fs : List ℕ) (next : ℕ) : Type 0 where
  pub is : p ≡ sets o at (bytes_of fs)
  pub next_is : next ≡ at + 2 * length fs

-- of a writer: it goes on in its slice
abbrev pub HasRoom : Writer → List ℕ → Type 0
HasRoom w fs = Fits w.out.now w.at fs

pub record Writes (old new : Writer) (fs : List ℕ) : Type 0 where
  pub same : new.out.ghost_name ≡ old.out.ghost_name
  pub written : Written old.out.now new.out.now old.at fs new.at

-- two letters and how long the body is, before the body, which begins at byte 6
pub record Heads (old new : Writer) (first second : ℕ) : Type 0 where
  pub same : new.out.ghost_name ≡ old.out.ghost_name
  pub at_is : new.at ≡ old.at
  pub is : new.out.now ≡ set_word (set (set old.out.now 0 first) 1 second) 2 (old.at - 6)
