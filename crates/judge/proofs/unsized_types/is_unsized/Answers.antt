-- `judge::unsized_types::is_unsized` meets its contract: an array by its count, another type by its kind.
use borrow.Author.Rules.{rules}
use mathlib.Core.Path.{sym, ◌∙◌}
use borrow.Author.Tests.{eq-eqb, ne_eqb}
use Rattle.judge.proofs.Unsized.{itself-array, itself-other}
use Rattle.judge.proofs.unsized_types.is_unsized.Goals as goal

pub returns-in-Array : goal.returns-in-Array
returns-in-Array c =
    itself-array _ _ c.kind_at.ensures (search rules) c.second_word.ensures

pub returns-in-BindingArray : goal.returns-in-BindingArray
returns-in-BindingArray c =
    sym (eq-eqb _ 7 (search rules)) ∙ itself-other _ _ c.kind_at.ensures (search rules)

pub returns-in_default : goal.returns-in_default
returns-in_default c =
    sym (ne_eqb _ 7 (search rules)) ∙ itself-other _ _ c.kind_at.ensures (search rules)
