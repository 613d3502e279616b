-- `forms::form::type_extent` meets its contract: by the kind, and of an array by its count.
use mathlib.Core.Path.{ap}
use borrow.Author.Rules.{rules}
use Rattle.module.specs.declared.kinds.TypeKind.TheVariants.{BindingArray, Array}
use Rattle.module.specs.KindNumbers.{type_number}
use Rattle.judge.proofs.TypeKinds.{is_not}
use Rattle.forms.proofs.Shapes.{extent-bound, extent-parts, extent_endless, extent_elements}
use Rattle.forms.proofs.form.type_extent.Goals as goal

pub returns-in-BindingArray : goal.returns-in-BindingArray
returns-in-BindingArray c = extent-bound _ _ c.kind_at.ensures (ap type_number c.in-BindingArray.is)

pub returns-in_default : goal.returns-in_default
returns-in_default c =
    extent-parts _ _ c.kind_at.ensures c.part_count-n.ensures (is_not BindingArray c.in_default.not-BindingArray) (is_not Array c.in_default.not-Array)

pub returns-then-n-eq0 : goal.returns-then-n-eq0
returns-then-n-eq0 c =
    extent_endless _ _ c.kind_at.ensures c.part_count-n.ensures (ap type_number c.in-Array.is) c.if-n-eq0.true

pub returns-else-n-eq0 : goal.returns-else-n-eq0
returns-else-n-eq0 c =
    extent_elements _ _ c.kind_at.ensures c.part_count-n.ensures (ap type_number c.in-Array.is) (search rules)
