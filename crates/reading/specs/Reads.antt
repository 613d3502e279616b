-- What reading a file answers: 0, and then the tables stand for its module, or the number by which it is refused. That leaves
-- nothing open: the bytes determine the number and the module (proofs/One.antt), and a refusal has a number from 1 to 5
-- (proofs/Numbers.antt).
use Rattle.std.specs.Prelude.{ℕ, ◌+◌, ◌≤◌, ◌≡◌, List, length, set, replicate, Result, Ok, Err}
use Rattle.field.specs.declared.refusal.Refusal.{Refusal}
use Rattle.field.specs.Refusal.{number}
use Rattle.module.specs.declared.tables.Counts.{Counts}
use Rattle.module.specs.File.{Answer, accepted, refused, answer_of, ended, read_module}
use Rattle.module.specs.Tables.{head_at, module_of, reading_of}
use Rattle.access.specs.Laid.{Laid}
use Rattle.reading.specs.Progress.{Progress}

pub record Answered (bytes t : List ℕ) (answer : Answer) (n : ℕ) : Type 0 where
  pub number : n ≤ 5
  pub accepts : n ≡ 0 → (answer ≡ accepted (module_of bytes t)) × Laid t
  pub refuses : 1 ≤ n → answer ≡ refused n

abbrev pub Reads : List ℕ → List ℕ → ℕ → Type 0
Reads bytes t n = Answered bytes t (read_module bytes) n

abbrev pub zeros : ℕ → List ℕ
zeros n = replicate n 0

-- before the first record: the head of the function that is not there would stand at the end of the bytes
abbrev pub no_counts : ℕ → Counts
no_counts size =
    record {
      stage = 0;
      types = 0;
      globals = 0;
      functions = 0;
      row =
          record {
            offset = size;
            items = 0;
            arguments = 0;
            locals = 0;
            expressions = 0;
            statements = 0;
            earlier = 0;
            blocks = 0;
          };
    }

-- after the last record, or where the file is refused before it
abbrev pub Passed : List ℕ → List ℕ → Result Counts Refusal → Type 0
Passed bytes t (Ok c) = Progress bytes t c (length bytes) × (answer_of (ended (reading_of bytes t c)) ≡ read_module bytes)
Passed bytes t (Err r) = read_module bytes ≡ refused (number r)

-- the tables with the counts of the whole
unfoldable pub headed : List ℕ → Counts → List ℕ
headed t c = set (set (set t head_at c.types) (head_at + 1) c.globals) (head_at + 2) c.functions
