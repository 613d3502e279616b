-- `judge::alike::same_kind` meets its contract: the kinds, and then the sizes that such a kind has.
use mathlib.Core.Path.{◌∙◌}
use borrow.Author.Tests.{ne_eqb}
use borrow.Author.Rules.{rules}
use Rattle.judge.proofs.TypeRows.{kinds_differ, kinds_plain, same-vectors, other_columns, same-matrices, same-arrays}
use Rattle.judge.proofs.alike.same_kind.Goals as goal

pub returns-then-ne : goal.returns-then-ne
returns-then-ne c =
    kinds_differ _ _ c.kind_at-k.ensures c.kind_at-l.ensures (search rules)

pub returns-in-Vector : goal.returns-in-Vector
returns-in-Vector c =
    same-vectors _ _ _ c.kind_at-k.ensures c.kind_at-l.ensures (search rules) (search rules) c.first_word.ensures c.first_word-in-Vector.ensures

pub returns-then-first_word : goal.returns-then-first_word
returns-then-first_word c =
    same-matrices _ _ _ c.kind_at-k.ensures c.kind_at-l.ensures (search rules) (search rules) c.first_word-in-Matrix.ensures c.first_word-in-Matrix-2.ensures c.if-first_word.true c.second_word.ensures c.second_word-then-first_word.ensures

pub returns-else-first_word : goal.returns-else-first_word
returns-else-first_word c =
    ne_eqb _ _ c.if-first_word.false ∙ other_columns _ _ _ c.kind_at-k.ensures c.kind_at-l.ensures (search rules) (search rules) c.first_word-in-Matrix.ensures c.first_word-in-Matrix-2.ensures c.if-first_word.false

pub returns-in-Array : goal.returns-in-Array
returns-in-Array c =
    same-arrays _ _ _ c.kind_at-k.ensures c.kind_at-l.ensures (search rules) (search rules) c.second_word-in-Array.ensures c.second_word-in-Array-2.ensures

pub returns-in_default : goal.returns-in_default
returns-in_default c =
    kinds_plain _ _ c.kind_at-k.ensures c.kind_at-l.ensures (search rules) (search rules) (search rules) (search rules)
