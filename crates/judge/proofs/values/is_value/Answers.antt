-- `judge::values::is_value` meets its contract: no path, and of no pointer's type.
use mathlib.Core.Path.{ap, refl, ◌∙◌}
use mathlib.Core.Bool.{not}
use Rattle.module.specs.declared.kinds.TypeKind.TheVariants.{Pointer}
use Rattle.judge.proofs.TypeKinds.{test}
use Rattle.judge.proofs.ValueRows.{value_path, value_kind}
use Rattle.judge.proofs.values.is_value.Goals as goal

pub returns-then-not-is_path : goal.returns-then-not-is_path
returns-then-not-is_path c =
    c.ne.ensures ∙ ap not (test c.kind_at.result Pointer refl) ∙ value_kind _ _ _ c.requires _ c.is_path.ensures c.if-not-is_path.true c.type_of.ensures c.kind_at.ensures

pub returns-else-not-is_path : goal.returns-else-not-is_path
returns-else-not-is_path c =
    ap not c.if-not-is_path.false ∙ value_path _ _ _ c.requires _ c.is_path.ensures c.if-not-is_path.false
