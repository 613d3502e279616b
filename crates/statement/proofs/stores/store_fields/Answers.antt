-- `statement::stores::store_fields` meets its contract. Assumes nothing.
use Rattle.std.proofs.Common.{rules}
use Rattle.access.specs.Access.{handle_in}
use Rattle.statement.proofs.Fields.{image_fields, plain_fields}
use Rattle.statement.proofs.stores.store_fields.Goals as goal

pub returns-in-Ok-ImageStore : goal.returns-in-Ok-ImageStore
unfolding handle_in
returns-in-Ok-ImageStore c =
    image_fields _ (search rules) c.expression_operand-pointer.ensures c.expression_operand-next.ensures c.optional_expression.ensures c.expression_operand.ensures

pub returns-in_default : goal.returns-in_default
unfolding handle_in
returns-in_default c =
    plain_fields _ (search rules) c.expression_operand-pointer.ensures c.expression_operand-next.ensures

pub returns-in_default-2 : goal.returns-in_default-2
unfolding handle_in
returns-in_default-2 c =
    plain_fields _ (search rules) c.expression_operand-pointer.ensures c.expression_operand-next.ensures
