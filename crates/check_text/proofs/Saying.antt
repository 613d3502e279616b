-- The check's line: what it says by the range of the number, and how long it is.
use Prim.Native.Nat.{ℕ, ◌+◌, ◌-◌, ◌/◌, ◌<◌, ◌≤◌}
use native.Mathlib.Omega.{arith}
use mathlib.Core.Path.{◌≡◌}
use mathlib.Core.List.{List, [], ◌∷◌, ◌++◌}
use lib.ListN.{length, length-append}
use borrow.Author.Tests.{lt-ltb, le-ltb}
use Rattle.lines.specs.Text.{number, expr_word, stmt_word, refused_word}
use Rattle.lines.specs.declared.text.Text.{Text}
use Rattle.lines.specs.Wrote.{longest, Writes}
use Rattle.lines.proofs.Writing.{texts, Rooms, writes_then}
use Rattle.lines.proofs.Long.{ten_long}
use Rattle.clearance.specs.Verdict.{Answer, clear, at_statement, at_start, unjudged_expression, unjudged_statement, refused}
use Rattle.checking.specs.Word.{statement_base, unjudged_expression_base, unjudged_statement_base, refusal_unit, check_word, Roomy, word_answer}
use Rattle.checking.specs.Line.{check_name, clear_name, start_name, unjudged_name, answer_text, check_line}
use Rattle.checking.proofs.Word.{word-answer}
use Rattle.check_text.specs.Checked.{max_line, Numbered}

-- what a number in each range says
module _ (w : ℕ) where
  pub says_clear : w < 1 → answer_text (word_answer w) ≡ clear_name
  unfolding answer_text word_answer
  says_clear u = rw (lt-ltb w 1 u)

  pub says_start : 1 ≤ w → w < 2 → answer_text (word_answer w) ≡ start_name
  unfolding answer_text word_answer
  says_start l u = rw (le-ltb w 1 l, lt-ltb w 2 u)

  pub says_statement : 2 ≤ w → w < unjudged_expression_base → answer_text (word_answer w) ≡ stmt_word ++ number (w - statement_base)
  unfolding answer_text word_answer
  says_statement l u = rw (le-ltb w 1 (omega arith), le-ltb w 2 l, lt-ltb w unjudged_expression_base u)

  pub says_expression : unjudged_expression_base ≤ w → w < unjudged_statement_base → answer_text (word_answer w) ≡ (unjudged_name ++ expr_word) ++ number (w - unjudged_expression_base)
  unfolding answer_text word_answer
  says_expression l u = rw (le-ltb w 1 (omega arith), le-ltb w 2 (omega arith), le-ltb w unjudged_expression_base l, lt-ltb w unjudged_statement_base u)

  pub says_unjudged : unjudged_statement_base ≤ w → w < refusal_unit → answer_text (word_answer w) ≡ (unjudged_name ++ stmt_word) ++ number (w - unjudged_statement_base)
  unfolding answer_text word_answer
  says_unjudged l u = rw (le-ltb w 1 (omega arith), le-ltb w 2 (omega arith), le-ltb w unjudged_expression_base (omega arith), le-ltb w unjudged_statement_base l, lt-ltb w refusal_unit u)

  pub says_refused : refusal_unit ≤ w → answer_text (word_answer w) ≡ refused_word ++ number (w / refusal_unit)
  unfolding answer_text word_answer
  says_refused l = rw (le-ltb w 1 (omega arith), le-ltb w 2 (omega arith), le-ltb w unjudged_expression_base (omega arith), le-ltb w unjudged_statement_base (omega arith), le-ltb w refusal_unit l)

-- past clear and the start no number is below those of statements
past_start : (a : Answer) → Roomy a → 2 ≤ check_word a → statement_base ≤ check_word a
unfolding check_word
past_start clear h l = absurd (omega arith)
past_start at_start h l = absurd (omega arith)
past_start (at_statement s) h l = omega arith
past_start (unjudged_expression e) h l = omega arith
past_start (unjudged_statement s) h l = omega arith
past_start (refused n) h l = omega (arith, h.0)

pub names_something : {w : ℕ} → Numbered w → 2 ≤ w → statement_base ≤ w
names_something {w} N l = rw N.is (past_start N.answer N.roomy (rw N.is at l))

-- it is that of an answer for which there is room
pub said_roomy : {w : ℕ} → Numbered w → Roomy (word_answer w)
said_roomy {w} N = rw (N.is, word-answer N.answer N.roomy) N.roomy

-- how long it is
named_long : (word : List ℕ) (n : ℕ) → n < longest → length (word ++ number n) ≤ length word + 10
named_long word n h = omega (arith, length-append word (number n), ten_long n h)

answer_long : (a : Answer) → Roomy a → length (answer_text a) ≤ 24
unfolding answer_text
answer_long clear h = omega arith
answer_long at_start h = omega arith
answer_long (at_statement s) h = omega (arith, named_long stmt_word s (omega arith))
answer_long (unjudged_expression e) h = omega (arith, named_long (unjudged_name ++ expr_word) e (omega arith))
answer_long (unjudged_statement s) h = omega (arith, named_long (unjudged_name ++ stmt_word) s (omega arith))
answer_long (refused n) h = omega (arith, named_long refused_word n (omega (arith, h.1)))

module _ (a : Answer) (h : Roomy a) where
  pub line_long : length (check_line a) ≤ max_line
  unfolding check_line
  line_long = omega (arith, answer_long a h, length-append (answer_text a) (10 ∷ []))

  pub line_rooms : {at : ℕ} → at + max_line < longest → Rooms at (check_name ∷ (answer_text a ∷ ((10 ∷ []) ∷ [])))
  unfolding texts
  line_rooms l = record { room = omega (arith, answer_long a h, length-append (answer_text a) (10 ∷ [])) }

pub line_writes : (a : Answer) {t u v w : Text} → Writes t u check_name → Writes u v (answer_text a) → Writes v w (10 ∷ []) → Writes t w (check_line a)
unfolding check_line
line_writes a x y z = writes_then x (writes_then y z)
