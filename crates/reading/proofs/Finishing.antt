-- The end of a file: its last function ends, and the answer is the definition's.
use mathlib.Core.Path.{◌≡◌, refl, sym, subst, ◌∙◌}
use mathlib.Core.Bool.{Bool, true, false}
use mathlib.Core.List.{List}
use Prim.Native.Nat.{ℕ, ◌<◌, ◌≤◌}
use native.Mathlib.Omega.{arith}
use lib.ListN.{length}
use borrow.Author.Tests.{lt-ltb}
use Rattle.field.specs.Limits.{max_bytes}
use Rattle.module.specs.declared.tables.Counts.{Counts}
use Rattle.module.specs.File.{ended, Answer, refused, answer_of, read_module}
use Rattle.module.specs.Tables.{reading_of}
use Rattle.std.specs.Prelude.{Result, Ok, Err}
use Rattle.field.specs.declared.refusal.Refusal.{Refusal}
use Rattle.field.specs.declared.refusal.Refusal.TheVariants.{ValueNotAllowed}
use Rattle.field.specs.Refusal.{number}
use Rattle.reading.specs.Progress.{Used, Progress}
use Rattle.reading.specs.Ends.{next_of, step_by, is_open, rule_of, step_ended, table_ended}
use Rattle.reading.specs.Reads.{Answered, Reads, Passed, headed}
use Rattle.reading.proofs.Closing.{ended_is, ended_used}
use Rattle.reading.proofs.Heads.{module_is, laid}
use Rattle.reading.proofs.Numbers.{too_long, refusal_number}

refused_as : (bytes t : List ℕ) (answer : Answer) (n : ℕ) → (1 ≤ n) × (n ≤ 5) → answer ≡ refused n → Answered bytes t answer n
refused_as bytes t answer n l e = record { number = l.1; accepts = λ q. absurd (omega arith); refuses = λ k. e }

only_five : (o r : Bool) (c : Counts) (n : Refusal) → step_by o r c ≡ Err n → n ≡ ValueNotAllowed
only_five false r c n e = grind arith
only_five true false c n e = grind arith
only_five true true c n e = grind arith

module _ (bytes t : List ℕ) (c : Counts) (p : Progress bytes t c (length bytes)) (s : Result Counts Refusal) (u : List ℕ) (is-step : s ≡ step_ended bytes t c) (is-table : u ≡ table_ended bytes t c) where
  ends : ended (reading_of bytes t c) ≡ next_of bytes u s
  ends = rw (is-step, is-table) (sym (ended_is bytes t c (length bytes) p))

  five : (n : Refusal) → s ≡ Err n → n ≡ ValueNotAllowed
  unfolding step_ended
  five n k = only_five (is_open c) (rule_of bytes t c) c n (sym is-step ∙ k)

  pub finish_refused : (n : Refusal) (v : List ℕ) → s ≡ Err n → Answered bytes v (answer_of (ended (reading_of bytes t c))) (number n)
  unfolding next_of
  finish_refused n v k = refused_as bytes v (answer_of (ended (reading_of bytes t c))) (number n) (rw (five n k) (omega arith, omega arith)) (rw (ends, k) refl)

  pub finish_done : (d : Counts) (v : List ℕ) → s ≡ Ok d → v ≡ headed u d → Answered bytes v (answer_of (ended (reading_of bytes t c))) 0
  unfolding next_of
  finish_done d v k e =
      let w : Used bytes u d (length bytes) = rw is-table (ended_used bytes t c (length bytes) p d (sym is-step ∙ k)).0 in
      record {
        number = omega arith;
        accepts = λ q. rw (ends, k, e) (module_is bytes u d (length bytes) w, laid bytes u d (length bytes) w);
        refuses = λ l. absurd (omega arith);
      }

pub read_too_long : (bytes t : List ℕ) → max_bytes < length bytes → Reads bytes t 1
read_too_long bytes t h = refused_as bytes t (read_module bytes) 1 (omega arith) (too_long bytes (lt-ltb max_bytes (length bytes) h))

pub read_refused : (bytes t : List ℕ) (n : Refusal) → Passed bytes t (Err n) → Reads bytes t (number n)
read_refused bytes t n e = refused_as bytes t (read_module bytes) (number n) (refusal_number bytes (number n) e) e

module _ (bytes t : List ℕ) (c : Counts) (passed_all : Passed bytes t (Ok c)) where
  pub passed_on : Progress bytes t c (length bytes)
  passed_on = passed_all.0

  pub read_finished : (u : List ℕ) (r : ℕ) → Answered bytes u (answer_of (ended (reading_of bytes t c))) r → Reads bytes u r
  read_finished u r a = subst (λ (x : Answer). Answered bytes u x r) passed_all.1 a
