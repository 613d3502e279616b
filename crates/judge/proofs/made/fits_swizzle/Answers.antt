-- `judge::made::fits_swizzle` meets its contract: by what is a vector, and then by its tests.
use borrow.Author.Rules.{rules}
use Rattle.judge.proofs.Operands.{S}
use Rattle.judge.proofs.Components.{few_letters, swizzle_other, fits-swizzle}
use Rattle.judge.proofs.made.fits_swizzle.Goals as goal

pub returns-then-ne : goal.returns-then-ne
returns-then-ne c =
    swizzle_other c.args.expression.now.row_of c.requires.kind_value c.expression_operand-vector.ensures c.type_of-a.ensures c.kind_at.ensures (search rules)

pub letters_below-requires : goal.letters_below-requires
letters_below-requires c = few_letters c.args.expression.now.row_of c.requires.kind_value

pub returns-then-letters_below : goal.returns-then-letters_below
returns-then-letters_below c =
    let sized = c.is_vector_of.ensures (S c.args.expression.now.row_of.given) c.args.expression.now.row_of.given.values.same in
    fits-swizzle c.args.expression.now.row_of c.requires.kind_value c.expression_operand-vector.ensures c.type_of-a.ensures c.kind_at.ensures (search rules) (search (rules, sized))

pub returns-else-letters_below : goal.returns-else-letters_below
returns-else-letters_below c =
    fits-swizzle c.args.expression.now.row_of c.requires.kind_value c.expression_operand-vector.ensures c.type_of-a.ensures c.kind_at.ensures (search rules) (search rules)
