-- `from_indexes` meets its contract. After k turns the piece is the path of the first k indexes.
use mathlib.Core.Path.{refl}
use Rattle.part.proofs.Making.{path-start, path-more}
use Rattle.part.proofs.req.from_indexes.Goals as goal

pub loop-i-init : goal.loop-i-init
loop-i-init c = path-start _ c.requires.good

pub loop-i-preserved : goal.loop-i-preserved
loop-i-preserved c = path-more c.args.indexes.now refl c.loop-i.invariant c.make-n.ensures
