-- `forms::form::whole_type` meets its contract: by the kind.
use mathlib.Core.Path.{sym, ap, ◌∙◌}
use mathlib.Core.Logic.{inl, inr}
use native.Mathlib.Omega.{arith}
use borrow.Author.Tests.{eq-eqb, ne_eqb}
use Rattle.module.specs.declared.kinds.TypeKind.TheVariants.{Array, BindingArray}
use Rattle.module.specs.KindNumbers.{type_number}
use Rattle.judge.proofs.TypeKinds.{is_not}
use Rattle.forms.proofs.Shapes.{whole_array, whole_other}
use Rattle.forms.proofs.form.whole_type.Goals as goal

pub returns-in-Array : goal.returns-in-Array
returns-in-Array c =
    elim c.in-Array.is [
      | inl e ↦ whole_array _ _ c.kind_at.ensures (ap type_number e)
      | inr e ↦ sym (eq-eqb _ 7 (ap type_number e)) ∙ whole_other _ _ c.kind_at.ensures (λ q. absurd (omega (arith, ap type_number e, q)))
    ]

pub returns-in_default : goal.returns-in_default
returns-in_default c =
    sym (ne_eqb _ 7 (is_not BindingArray c.in_default.not-BindingArray)) ∙ whole_other _ _ c.kind_at.ensures (is_not Array c.in_default.not-Array)
