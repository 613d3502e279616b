-- What a caller gets of a request: the reply as a number, and what is left of the three slices that it lends.
use Rattle.std.specs.Prelude.{◌≡◌, List, ℕ}
use Rattle.module.specs.Tables.{module_of}
use Rattle.requests.specs.Serve.{Lent, serve_read, serve, reply_word}

abbrev pub lent : (pruner report answer : List ℕ) → Lent
lent pruner report answer = record { pruner = pruner; report = report; answer = answer }

-- of a module that was read
pub record RequestsRead (bytes t asked pruner report answer : List ℕ) (r : ℕ) (pruner-after report-after answer-after : List ℕ) : Type 0 where
  pub number : r ≡ reply_word (serve_read (module_of bytes t) asked (lent pruner report answer)).0
  pub left : lent pruner-after report-after answer-after ≡ (serve_read (module_of bytes t) asked (lent pruner report answer)).1

-- of any bytes
pub record Requests (bytes asked pruner report answer : List ℕ) (r : ℕ) (pruner-after report-after answer-after : List ℕ) : Type 0 where
  pub number : r ≡ reply_word (serve bytes asked (lent pruner report answer)).0
  pub left : lent pruner-after report-after answer-after ≡ (serve bytes asked (lent pruner report answer)).1
