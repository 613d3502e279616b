-- `place::sources::gives_value` meets its contract: by the kind, and of an index by whether it is a path.
use borrow.Author.Rules.{rules}
use Rattle.place.proofs.SourceKinds.{gives_none, gives-index, gives_other}
use Rattle.place.proofs.sources.gives_value.Goals as goal

pub returns-then-expressions-e : goal.returns-then-expressions-e
returns-then-expressions-e c = gives_none _ _ _ _ c.expressions.ensures c.if-expressions-e.true

pub is_path-requires : goal.is_path-requires
is_path-requires c = c.requires

pub returns-in-Ok-AccessIndex : goal.returns-in-Ok-AccessIndex
returns-in-Ok-AccessIndex c =
    gives-index _ _ _ _ c.expressions.ensures c.if-expressions-e.false c.expression-row.ensures c.is_path.ensures (search rules)

pub returns-in_default : goal.returns-in_default
returns-in_default c =
    gives_other _ _ _ _ c.expressions.ensures c.if-expressions-e.false c.expression-row.ensures c.gives_kind.ensures (search rules) (search rules)
