-- The last line of what `report` prints, as bytes. 01: "The last line is `check` with `clear`, `stmt N`, `start`, or `unjudged` and `expr N` or `stmt N`."
use Rattle.std.specs.Prelude.{ℕ, List, [], ◌∷◌, ◌++◌}
use Rattle.lines.specs.Text.{number, expr_word, stmt_word, refused_word}
use Rattle.clearance.specs.Verdict.{Answer, clear, at_statement, at_start, unjudged_expression, unjudged_statement, refused}

abbrev pub check_name : List ℕ
check_name = 99 ∷ 104 ∷ 101 ∷ 99 ∷ 107 ∷ 32 ∷ []

abbrev pub clear_name : List ℕ
clear_name = 99 ∷ 108 ∷ 101 ∷ 97 ∷ 114 ∷ []

abbrev pub start_name : List ℕ
start_name = 115 ∷ 116 ∷ 97 ∷ 114 ∷ 116 ∷ []

abbrev pub unjudged_name : List ℕ
unjudged_name = 117 ∷ 110 ∷ 106 ∷ 117 ∷ 100 ∷ 103 ∷ 101 ∷ 100 ∷ 32 ∷ []

-- what stands behind `check`
unfoldable pub answer_text : Answer → List ℕ
answer_text clear = clear_name
answer_text (at_statement s) = stmt_word ++ number s
answer_text at_start = start_name
answer_text (unjudged_expression e) = unjudged_name ++ (expr_word ++ number e)
answer_text (unjudged_statement s) = unjudged_name ++ (stmt_word ++ number s)
answer_text (refused n) = refused_word ++ number n

unfoldable pub check_line : Answer → List ℕ
check_line a = check_name ++ (answer_text a ++ (10 ∷ []))
