-- An answer as one number of 64 bits, and back.
use Rattle.std.specs.Prelude.{ℕ, ◌+◌, ◌-◌, ◌*◌, ◌/◌, ◌<◌, cond, ltb}
use Rattle.field.specs.Refusal.{number}
use Rattle.clearance.specs.Verdict.{Answer, clear, at_statement, at_start, unjudged_expression, unjudged_statement, refused}
use Rattle.checking.specs.declared.words.Verdict.{Verdict}
use Rattle.checking.specs.declared.words.Verdict.TheVariants.{Clear, Start, Statement, UnjudgedExpression, UnjudgedStatement, Refused}

-- A refusal's number stands from 2^32 on. Below it: 0 is clear, 1 the start; else the bits from 2^16 on say what is named, 2 a statement, 3 an expression that is not judged, 4 a
-- statement that is not, and those below them its number.
abbrev pub statement_base : ℕ
statement_base = 131072

abbrev pub unjudged_expression_base : ℕ
unjudged_expression_base = 196608

abbrev pub unjudged_statement_base : ℕ
unjudged_statement_base = 262144

abbrev pub refusal_unit : ℕ
refusal_unit = 4294967296

unfoldable pub check_word : Answer → ℕ
check_word clear = 0
check_word at_start = 1
check_word (at_statement s) = statement_base + s
check_word (unjudged_expression e) = unjudged_expression_base + e
check_word (unjudged_statement s) = unjudged_statement_base + s
check_word (refused n) = refusal_unit * n

-- the answer that the code gives, and its number
abbrev pub said : Verdict → Answer
said Clear = clear
said Start = at_start
said (Statement s) = at_statement s
said (UnjudgedExpression e) = unjudged_expression e
said (UnjudgedStatement s) = unjudged_statement s
said (Refused r) = refused (number r)

abbrev pub word : Verdict → ℕ
word v = check_word (said v)

-- numbers for which there is room
abbrev pub Roomy : Answer → Type 0
Roomy clear = Unit {0}
Roomy at_start = Unit {0}
Roomy (at_statement s) = s < 65536
Roomy (unjudged_expression e) = e < 65536
Roomy (unjudged_statement s) = s < 65536
Roomy (refused n) = (0 < n) × (n < 65536)

unfoldable pub word_answer : ℕ → Answer
word_answer w =
    cond (ltb w 1) clear
    (cond (ltb w 2) at_start
    (cond (ltb w unjudged_expression_base) (at_statement (w - statement_base))
    (cond (ltb w unjudged_statement_base) (unjudged_expression (w - unjudged_expression_base))
    (cond (ltb w refusal_unit) (unjudged_statement (w - unjudged_statement_base)) (refused (w / refusal_unit))))))
