-- `statement::rays::gather_fields` meets its contract. Assumes nothing.
use Rattle.access.specs.Access.{operand_at, handle_in}
use Rattle.statement.proofs.RayArms.{broadcast_fields, first-fields}
use Rattle.statement.proofs.rays.gather_fields.Goals as goal

pub returns-then-mode-eq-BROADCAST : goal.returns-then-mode-eq-BROADCAST
unfolding handle_in
returns-then-mode-eq-BROADCAST c =
    broadcast_fields (operand_at c.args.file.now.bytes c.args.row) c.operand-mode.ensures c.expression_operand-first.ensures c.expression_operand-second.ensures c.if-mode-eq-BROADCAST.true c.expression_operand.ensures

pub returns : goal.returns
unfolding handle_in
returns c =
    first-fields (operand_at c.args.file.now.bytes c.args.row) c.operand-mode.ensures c.expression_operand-first.ensures c.expression_operand-second.ensures c.if-mode-eq-BROADCAST.false
