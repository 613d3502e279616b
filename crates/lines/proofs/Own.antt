-- A statement's own marks, one by one.
use Prim.Native.Nat.{ℕ, ◌+◌, ◌<◌, ◌≤◌}
use mathlib.Core.Path.{◌≡◌}
use mathlib.Core.List.{List, []}
use native.Mathlib.Numerals.{add-one}
use borrow.Author.Tests.{eq-eqb, ne_eqb}
use lib.ListN.{length, get_or, drop, drop_of_length-le}
use lib.Seq.{drop-cons}
use Rattle.lines.specs.Text.{no_word, yes_word, mark_text, marks_text}
use Rattle.lines.proofs.Along.{Splits}

pub mark_no : {b : ℕ} → b ≡ 0 → mark_text b ≡ no_word
unfolding mark_text
mark_no {b} e = rw (eq-eqb b 0 e)

pub mark_yes : {b : ℕ} → (b ≡ 0 → ⊥) → mark_text b ≡ yes_word
unfolding mark_text
mark_yes {b} e = rw (ne_eqb b 0 e)

-- the marks from the k-th on
pub marks_next : (ms : List ℕ) (k : ℕ) → k < length ms → Splits (marks_text (drop k ms)) (mark_text (get_or ms k 0)) (marks_text (drop (k + 1) ms))
unfolding marks_text
marks_next ms k h = record { is = rw (drop-cons ms k 0 h, add-one k) }

pub marks_none : (ms : List ℕ) (k : ℕ) → length ms ≤ k → marks_text (drop k ms) ≡ []
unfolding marks_text
marks_none ms k h = rw (drop_of_length-le ms h)
