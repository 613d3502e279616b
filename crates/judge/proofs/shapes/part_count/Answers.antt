-- `judge::shapes::part_count` meets its contract: by the kind.
use borrow.Author.Rules.{rules}
use mathlib.Core.Path.{ap}
use mathlib.Core.Logic.{inl, inr}
use Rattle.module.specs.KindNumbers.{type_number}
use Rattle.judge.proofs.ShapeRows.{count_array, count_vector, count_matrix, count_struct, count_none}
use Rattle.judge.proofs.shapes.part_count.Goals as goal

pub returns-in-Array : goal.returns-in-Array
returns-in-Array c =
    count_array _ _ c.kind_at.ensures (search rules) c.second_word.ensures

pub returns-in-Vector : goal.returns-in-Vector
returns-in-Vector c =
    elim c.in-Vector.is [
      | inl e ↦ count_vector _ _ c.kind_at.ensures (ap type_number e) c.first_word.ensures
      | inr (inl e) ↦ count_matrix _ _ c.kind_at.ensures (ap type_number e) c.first_word.ensures
      | inr (inr e) ↦ count_struct _ _ c.kind_at.ensures (ap type_number e) c.first_word.ensures
    ]

pub returns-in_default : goal.returns-in_default
returns-in_default c =
    count_none _ _ c.kind_at.ensures (search rules) (search rules) (search rules) (search rules)
