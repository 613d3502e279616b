-- `operands::tests::is_joined` meets its contract.
use Rattle.module.specs.declared.kinds.TypeKind.TheVariants.{Vector}
use Rattle.judge.proofs.TypeKinds.{equal, unequal}
use Rattle.operands.proofs.Vectors.{joined_not, joined_by}
use Rattle.operands.proofs.tests.is_joined.Goals as goal

pub returns-then-eq : goal.returns-then-eq
returns-then-eq c =
    joined_by _ _ c.requires _ c.type_of-own.ensures c.kind_at.ensures _ (equal c.kind_at.result Vector c.eq.ensures c.if-eq.true) c.any_vector.ensures

pub returns-else-eq : goal.returns-else-eq
returns-else-eq c =
    rw c.if-eq.false (joined_not _ _ c.requires _ c.type_of-own.ensures c.kind_at.ensures _ (unequal c.kind_at.result Vector c.eq.ensures c.if-eq.false))
