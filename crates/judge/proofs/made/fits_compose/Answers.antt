-- `judge::made::fits_compose` meets its contract: by the kind of its type.
use borrow.Author.Rules.{rules}
use Rattle.judge.proofs.Components.{compose_vector, compose_none, compose_as, own_low}
use Rattle.judge.proofs.made.fits_compose.Goals as goal

pub parts_fit-requires-clause-a_in_bounds : goal.parts_fit-requires-clause-a_in_bounds
parts_fit-requires-clause-a_in_bounds c =
    own_low c.args.expression.now.row_of c.requires.kind_value c.all_values-values.ensures c.type_of-a.ensures c.kind_at.ensures

pub returns-then-values : goal.returns-then-values
returns-then-values c =
    compose_vector c.args.expression.now.row_of c.requires.kind_value c.all_values-values.ensures c.type_of-a.ensures c.kind_at.ensures (search rules) (search rules)

pub returns-else-values : goal.returns-else-values
returns-else-values c =
    compose_vector c.args.expression.now.row_of c.requires.kind_value c.all_values-values.ensures c.type_of-a.ensures c.kind_at.ensures (search rules) (search rules)

pub returns-then-part_count-operand : goal.returns-then-part_count-operand
returns-then-part_count-operand c =
    compose_as c.args.expression.now.row_of c.requires.kind_value c.all_values-values.ensures c.type_of-a.ensures c.kind_at.ensures (search rules) (search rules)

pub returns-else-part_count-operand : goal.returns-else-part_count-operand
returns-else-part_count-operand c =
    compose_as c.args.expression.now.row_of c.requires.kind_value c.all_values-values.ensures c.type_of-a.ensures c.kind_at.ensures (search rules) (search rules)

pub returns-in_default : goal.returns-in_default
returns-in_default c =
    compose_none c.args.expression.now.row_of c.requires.kind_value c.all_values-values.ensures c.type_of-a.ensures c.kind_at.ensures (search rules) (search rules) (search rules) (search rules)
