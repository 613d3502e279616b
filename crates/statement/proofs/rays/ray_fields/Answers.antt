-- `statement::rays::ray_fields` meets its contract. Assumes nothing.
use native.Mathlib.Omega.{arith}
use Rattle.std.proofs.Common.{rules}
use Rattle.access.specs.Access.{handle_in}
use Rattle.statement.proofs.RayArms.{query_fields, ballot_fields, other_fields, mode_fields}
use Rattle.statement.proofs.rays.ray_fields.Goals as goal

pub returns-in-Ok-RayQuery : goal.returns-in-Ok-RayQuery
unfolding handle_in
returns-in-Ok-RayQuery c = query_fields _ c.expression_operand-a.ensures (search rules)

pub returns-in-Ok-SubgroupBallot : goal.returns-in-Ok-SubgroupBallot
unfolding handle_in
returns-in-Ok-SubgroupBallot c = ballot_fields _ c.expression_operand-a.ensures (search rules) c.optional_expression.ensures

pub returns-in-Ok-SubgroupGather : goal.returns-in-Ok-SubgroupGather
returns-in-Ok-SubgroupGather c = mode_fields _ (grind arith) c.gather_fields.ensures

pub returns-in_default : goal.returns-in_default
unfolding handle_in
returns-in_default c =
    other_fields _ c.expression_operand-a.ensures (search rules) (λ z. search rules) (λ z. grind arith) c.expression_operand.ensures
