-- `quiet::acts::emit_overlap` meets its contract: an emit that gives no value gives nothing, else the place is the expression's.
use Rattle.quiet.proofs.Overlaps.{emit_none, emit-some}
use Rattle.quiet.proofs.acts.emit_overlap.Goals as goal

pub gives_value-requires : goal.gives_value-requires
gives_value-requires c = c.requires.needing.world.given.values.table

pub returns-then-not-gives_value : goal.returns-then-not-gives_value
returns-then-not-gives_value c =
    emit_none c.requires.needing c.requires.e_in_bounds c.gives_value.ensures c.if-not-gives_value.true

pub returns : goal.returns
returns c =
    emit-some c.requires.needing c.requires.e_in_bounds c.gives_value.ensures c.if-not-gives_value.false c.evaluated_path.ensures.long c.evaluated_path.ensures.is c.below-piece.ensures c.something.ensures
