-- `check_text::line::write_answer` meets its contract: by the range of the number.
use native.Mathlib.Omega.{arith}
use mathlib.Core.Path.{sym}
use Rattle.lines.proofs.Writing.{fits_as, writes_as}
use Rattle.check_text.proofs.Saying.{says_clear, says_start, says_statement, says_expression, says_unjudged, says_refused, names_something}
use Rattle.check_text.proofs.line.write_answer.Goals as goal

pub word-requires : goal.word-requires
word-requires c = fits_as (says_clear c.args.word (omega (arith, c.if-word-lt1.true))) c.requires.1

pub returns-then-word-lt1 : goal.returns-then-word-lt1
returns-then-word-lt1 c =
    writes_as (sym (says_clear c.args.word (omega (arith, c.if-word-lt1.true)))) c.word.ensures

pub word-requires-then-word-lt2 : goal.word-requires-then-word-lt2
word-requires-then-word-lt2 c =
    fits_as (says_start c.args.word (omega (arith, c.if-word-lt1.false)) (omega (arith, c.if-word-lt2.true))) c.requires.1

pub returns-then-word-lt2 : goal.returns-then-word-lt2
returns-then-word-lt2 c =
    writes_as (sym (says_start c.args.word (omega (arith, c.if-word-lt1.false)) (omega (arith, c.if-word-lt2.true)))) c.word-then-word-lt2.ensures

pub overflow_sub-word : goal.overflow_sub-word
overflow_sub-word c = names_something c.requires.0 (omega (arith, c.if-word-lt2.false))

pub write_named-requires : goal.write_named-requires
write_named-requires c =
    fits_as (says_statement c.args.word (omega (arith, c.if-word-lt2.false)) (omega (arith, c.if-word-lt-UNJUDGED_EXPRESSION.true))) c.requires.1

pub returns-then-word-lt-UNJUDGED_EXPRESSION : goal.returns-then-word-lt-UNJUDGED_EXPRESSION
returns-then-word-lt-UNJUDGED_EXPRESSION c =
    writes_as (sym (says_statement c.args.word (omega (arith, c.if-word-lt2.false)) (omega (arith, c.if-word-lt-UNJUDGED_EXPRESSION.true)))) c.write_named.ensures

pub write_named-requires-then-word-lt-UNJUDGED_STATEMENT : goal.write_named-requires-then-word-lt-UNJUDGED_STATEMENT
write_named-requires-then-word-lt-UNJUDGED_STATEMENT c =
    fits_as (says_expression c.args.word (omega (arith, c.if-word-lt-UNJUDGED_EXPRESSION.false)) (omega (arith, c.if-word-lt-UNJUDGED_STATEMENT.true))) c.requires.1

pub returns-then-word-lt-UNJUDGED_STATEMENT : goal.returns-then-word-lt-UNJUDGED_STATEMENT
returns-then-word-lt-UNJUDGED_STATEMENT c =
    writes_as (sym (says_expression c.args.word (omega (arith, c.if-word-lt-UNJUDGED_EXPRESSION.false)) (omega (arith, c.if-word-lt-UNJUDGED_STATEMENT.true)))) c.write_named-then-word-lt-UNJUDGED_STATEMENT.ensures

pub write_named-requires-then-word-lt-REFUSAL_UNIT : goal.write_named-requires-then-word-lt-REFUSAL_UNIT
write_named-requires-then-word-lt-REFUSAL_UNIT c =
    fits_as (says_unjudged c.args.word (omega (arith, c.if-word-lt-UNJUDGED_STATEMENT.false)) (omega (arith, c.if-word-lt-REFUSAL_UNIT.true))) c.requires.1

pub returns-then-word-lt-REFUSAL_UNIT : goal.returns-then-word-lt-REFUSAL_UNIT
returns-then-word-lt-REFUSAL_UNIT c =
    writes_as (sym (says_unjudged c.args.word (omega (arith, c.if-word-lt-UNJUDGED_STATEMENT.false)) (omega (arith, c.if-word-lt-REFUSAL_UNIT.true)))) c.write_named-then-word-lt-REFUSAL_UNIT.ensures

pub write_named-requires-2 : goal.write_named-requires-2
write_named-requires-2 c =
    fits_as (says_refused c.args.word (omega (arith, c.if-word-lt-REFUSAL_UNIT.false))) c.requires.1

pub returns : goal.returns
returns c =
    writes_as (sym (says_refused c.args.word (omega (arith, c.if-word-lt-REFUSAL_UNIT.false)))) c.write_named-2.ensures
