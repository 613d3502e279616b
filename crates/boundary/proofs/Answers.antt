-- What reading ensures is the number that the caller gets, and what an operation tells is its answer as a number.
use mathlib.Core.Path.{◌≡◌, refl, ◌∙◌}
use mathlib.Core.List.{List}
use Prim.Native.Nat.{ℕ, zero, suc, ◌+◌, ◌*◌}
use native.Mathlib.Omega.{arith}
use Rattle.std.specs.Prelude.{Option, Some, None, Result, Ok, Err, IsErrAnd}
use Rattle.std.specs.Result.{MatchResult}
use Rattle.std.specs.Option.{unwrap_or}
use Rattle.field.specs.Refusal.{number}
use Rattle.module.specs.Module.{Module}
use Rattle.module.specs.File.{accepted, refused, read_module}
use Rattle.module.specs.Tables.{module_of}
use Rattle.reading.specs.Reads.{Reads}
use Rattle.bindings.specs.ContextBindings as bindings
use Rattle.bindings_request.specs.Boundary.{Tables, refused_by, refusal_said, said, told, Gave}
use Rattle.bindings_request.specs.declared.answer.Refused.{Refused}
use Rattle.field.specs.declared.refusal.Refusal.{Refusal}
use Rattle.bindings_request.proofs.Answers.{gave_refused}
use Rattle.boundary.specs.declared.answer.Numbered.{Numbered}
use Rattle.boundary.specs.Answers.{answer_number, read_number, answer_word, numbered, word_of, Answers, of_module}

pub read_is : (bytes t : List ℕ) (n : ℕ) → Reads bytes t n → n ≡ read_number bytes
unfolding answer_number
read_is bytes t zero h = rw (h.accepts refl).0 refl
read_is bytes t (suc n) h = rw (h.refuses (omega arith)) refl

-- the number of what is told
said_word : bindings.Answer ℕ → ℕ
said_word (bindings.refused n) = 4294967296 * n
said_word (bindings.refused_at n i) = 4294967296 * n + i
said_word (bindings.accepted n) = n

error_said : (n : ℕ) (o : Option ℕ) → 4294967296 * n + unwrap_or o 0 ≡ said_word (refusal_said n o)
unfolding said_word
error_said n None = omega arith
error_said n (Some i) = refl

-- what an operation told, with its refusal by number
abbrev pub NumberedAs : Result ℕ Refused → Result ℕ Numbered → Type 0
NumberedAs r m = MatchResult r (λ n. m ≡ Ok n) (λ e. IsErrAnd m (λ k. k ≡ numbered e))

word_said : (r : Result ℕ Refused) (m : Result ℕ Numbered) → NumberedAs r m → word_of m ≡ said_word (said r)
unfolding word_of said_word
word_said (Err e) (Err k) h = rw h (error_said (number e.by) e.argument)
word_said (Err e) (Ok n) h = absurd h
word_said (Ok n) m h = rw h

word_told : (a : bindings.Answer (List ℕ)) → said_word (told a) ≡ answer_word a
unfolding told answer_word said_word
word_told (bindings.refused n) = refl
word_told (bindings.refused_at n i) = refl
word_told (bindings.accepted s) = refl

pub answers : {o p : List ℕ} {a : bindings.Answer (List ℕ)} {r : Result ℕ Refused} {w : ℕ} → Gave o p a r → (m : Result ℕ Numbered) → NumberedAs r m → w ≡ word_of m → Answers o p a w
answers {a = a} {r} G m h e = record { is = e ∙ word_said r m h ∙ (rw G.is (word_told a)); out = G.out }

-- the file was read where its number is 0
pub was_read : (bytes t : List ℕ) {n : ℕ} → Reads bytes t n → n ≡ 0 → read_module bytes ≡ accepted (module_of bytes t)
was_read bytes t R z = (R.accepts z).0

-- the same of the value that was made of both
pub file_was_read : {bytes t b s : List ℕ} {n : ℕ} → b ≡ bytes → s ≡ t → Reads bytes t n → n ≡ 0 → read_module b ≡ accepted (module_of b s)
file_was_read e q R z = rw (e, q) (was_read _ _ R z)

-- a file that is refused, and one that is read
module _ (bytes : List ℕ) (k : Module → bindings.Answer (List ℕ)) {o : List ℕ} where
  pub file_refused : {n : Refusal} → read_module bytes ≡ refused (number n) → Gave o o (of_module (read_module bytes) k) (Err (refused_by n))
  unfolding of_module
  file_refused {n} h = gave_refused n (rw h)

  pub file_read : {b t types p : List ℕ} {r : Result ℕ Refused} → b ≡ bytes → Tables b t types → Gave o p (k (module_of b t)) r → Gave o p (of_module (read_module bytes) k) r
  unfolding of_module
  file_read e T G = rw (← e, T.read) G
