-- The number of an answer determines it, where its numbers have room; and it has 64 bits. By cases of the answer, each by what range its number lies in.
use Prim.Native.Nat.{ℕ, ◌-◌, ◌/◌, ◌<◌, ◌≤◌}
use native.Mathlib.Omega.{arith}
use mathlib.Core.Path.{◌≡◌, refl, ap, ◌∙◌}
use borrow.Author.Tests.{lt-ltb, le-ltb}
use Rattle.clearance.specs.Verdict.{Answer, clear, at_statement, at_start, unjudged_expression, unjudged_statement, refused}
use Rattle.checking.specs.Word.{statement_base, unjudged_expression_base, unjudged_statement_base, refusal_unit, check_word, Roomy, word_answer}

-- what a number in each range says
module _ (w : ℕ) where
  names_statement : 2 ≤ w → w < unjudged_expression_base → word_answer w ≡ at_statement (w - statement_base)
  unfolding word_answer
  names_statement l u = rw (le-ltb w 1 (omega arith), le-ltb w 2 l, lt-ltb w unjudged_expression_base u)

  names_expression : unjudged_expression_base ≤ w → w < unjudged_statement_base → word_answer w ≡ unjudged_expression (w - unjudged_expression_base)
  unfolding word_answer
  names_expression l u = rw (le-ltb w 1 (omega arith), le-ltb w 2 (omega arith), le-ltb w unjudged_expression_base l, lt-ltb w unjudged_statement_base u)

  names_unjudged : unjudged_statement_base ≤ w → w < refusal_unit → word_answer w ≡ unjudged_statement (w - unjudged_statement_base)
  unfolding word_answer
  names_unjudged l u = rw (le-ltb w 1 (omega arith), le-ltb w 2 (omega arith), le-ltb w unjudged_expression_base (omega arith), le-ltb w unjudged_statement_base l, lt-ltb w refusal_unit u)

  names_refusal : refusal_unit ≤ w → word_answer w ≡ refused (w / refusal_unit)
  unfolding word_answer
  names_refusal l = rw (le-ltb w 1 (omega arith), le-ltb w 2 (omega arith), le-ltb w unjudged_expression_base (omega arith), le-ltb w unjudged_statement_base (omega arith), le-ltb w refusal_unit l)

pub word-answer : (a : Answer) → Roomy a → word_answer (check_word a) ≡ a
unfolding check_word word_answer
word-answer clear h = refl
word-answer at_start h = refl
word-answer (at_statement s) h = names_statement (check_word (at_statement s)) (omega arith) (omega arith) ∙ ap at_statement (omega arith)
word-answer (unjudged_expression e) h = names_expression (check_word (unjudged_expression e)) (omega arith) (omega arith) ∙ ap unjudged_expression (omega arith)
word-answer (unjudged_statement s) h = names_unjudged (check_word (unjudged_statement s)) (omega arith) (omega arith) ∙ ap unjudged_statement (omega arith)
word-answer (refused n) h = names_refusal (check_word (refused n)) (omega (arith, h.0)) ∙ ap refused (omega arith)
