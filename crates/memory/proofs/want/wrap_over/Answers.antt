-- `memory::want::wrap_over` meets its contract. Assumes nothing.
use mathlib.Core.Path.{ap, ◌∙◌}
use Rattle.std.proofs.lemmas.Bool.{le-leb}
use Rattle.part.specs.PartReq.{depth}
use Rattle.memory.proofs.Asks.{over-deep, over-wide}
use Rattle.memory.proofs.want.wrap_over.Goals as goal

pub returns-then-d-w-ge-MAX_DEPTH : goal.returns-then-d-w-ge-MAX_DEPTH
returns-then-d-w-ge-MAX_DEPTH c =
    le-leb _ _ c.if-d-w-ge-MAX_DEPTH.true ∙ over-deep _ _ c.requires.memory.1 _ c.requires.i_lt_spine _ (c.depth-d.ensures ∙ ap depth c.reach-n.ensures.1) c.if-d-w-ge-MAX_DEPTH.true

pub returns-else-d-w-ge-MAX_DEPTH : goal.returns-else-d-w-ge-MAX_DEPTH
returns-else-d-w-ge-MAX_DEPTH c =
    over-wide _ _ c.requires.memory.1 _ c.requires.i_lt_spine _ (c.depth-d.ensures ∙ ap depth c.reach-n.ensures.1) c.if-d-w-ge-MAX_DEPTH.false
