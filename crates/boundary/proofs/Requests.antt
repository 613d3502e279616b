-- A request across the boundary: the reply as a number, the file's refusal first, and what is left of the lent slices.
use Prim.Native.Nat.{ℕ, ◌+◌, ◌*◌, ◌%◌, ◌≤◌}
use native.Mathlib.Omega.{arith}
use mathlib.Core.Path.{◌≡◌, ◌∙◌}
use mathlib.Core.List.{List}
use Rattle.module.specs.declared.handles.ExpressionHandle.{ExpressionHandle as Expression}
use Rattle.module.specs.declared.handles.FunctionHandle.{FunctionHandle as Handle}
use Rattle.std.specs.Prelude.{Result, Ok, Err}
use Rattle.field.specs.Refusal.{number}
use Rattle.field.specs.declared.refusal.Refusal.{Refusal}
use Rattle.field.proofs.Refusals.{some_number}
use Rattle.reading.specs.Reads.{Reads}
use Rattle.state.specs.State.{place_of, unplaced}
use Rattle.access.specs.Laid.{WasRead}
use Rattle.state.specs.declared.answer.Halt.{Halt}
use Rattle.state.specs.declared.answer.Place.{Place}
use Rattle.state.specs.declared.answer.Place.TheVariants as place
use Rattle.requests.specs.Serve.{on_module, serve, place_word, reply_word}
use Rattle.requests.specs.Finish.{reply_of}
use Rattle.requests.proofs.Numbers.{place_small}
use Rattle.boundary.specs.Requests.{RequestsRead, Requests}

-- the number of a place
word_small : {w : ℕ} (p : Place) → w ≡ place_word (place_of p) → (w ≡ place_word (place_of p)) × (w ≤ 4294967295)
word_small p e = (e, omega (arith, e, place_small (place_of p)))

pub at-expression : {p : Place} {f : Handle} {e : Expression} → p ≡ place.Expression f e → (1073741824 + 32768 * (f.0 % 32768) + e.0 % 32768 ≡ place_word (place_of p)) × (1073741824 + 32768 * (f.0 % 32768) + e.0 % 32768 ≤ 4294967295)
unfolding place_word
at-expression {p} h = word_small p (rw h (omega arith))

pub at-statement : {p : Place} {f : Handle} {s : ℕ} → p ≡ place.Statement f s → (2147483648 + 32768 * (f.0 % 32768) + s % 32768 ≡ place_word (place_of p)) × (2147483648 + 32768 * (f.0 % 32768) + s % 32768 ≤ 4294967295)
unfolding place_word
at-statement {p} h = word_small p (rw h (omega arith))

pub at_nowhere : {p : Place} → p ≡ place.Nowhere → (0 ≡ place_word (place_of p)) × (0 ≤ 4294967295)
unfolding place_word
at_nowhere {p} h = word_small p (rw h)

-- the number of a reply
pub word_visits : {r : Result ℕ Halt} {n : ℕ} → r ≡ Ok n → n ≡ reply_word (reply_of r)
unfolding reply_word
word_visits e = rw e

pub word_refused : {r : Result ℕ Halt} {h : Halt} {n w : ℕ} → r ≡ Err h → n ≡ number h.refusal → w ≡ place_word (place_of h.place) → 4294967296 * (n % 65536) + w ≡ reply_word (reply_of r)
unfolding reply_word
word_refused e i h = rw (e, i, h)

module _ {bytes t : List ℕ} {n : ℕ} (R : Reads bytes t n) where
  pub file_read : n ≡ 0 → WasRead bytes t
  file_read z = record { module_is = (R.accepts z).0; laid = (R.accepts z).1 }

  -- the file is refused, and one that is read
  pub requests_refused : {asked pruner report answer : List ℕ} (e : Refusal) {w : ℕ} → n ≡ number e → w ≡ reply_word (reply_of (Err (unplaced e))) → Requests bytes asked pruner report answer w pruner report answer
  unfolding serve on_module
  requests_refused r same e = let h : 1 ≤ n = rw same (some_number r) in record { number = e ∙ rw (R.refuses h, same); left = rw (R.refuses h) }

  pub requests_of : {asked pruner report answer pruner-after report-after answer-after : List ℕ} {w : ℕ} → n ≡ 0
      → RequestsRead bytes t asked pruner report answer w pruner-after report-after answer-after → Requests bytes asked pruner report answer w pruner-after report-after answer-after
  unfolding serve on_module
  requests_of z A = record { number = A.number ∙ rw (R.accepts z).0; left = A.left ∙ rw (R.accepts z).0 }
