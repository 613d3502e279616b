-- `memory::want::piece` meets its contract. Assumes nothing.
use Rattle.part.specs.Store.{part, Made}
use Rattle.memory.specs.Want.{wraps}
use Rattle.memory.proofs.want.piece.Given as goal

abbrev pub invariant-loop-i : goal.invariant-loop-i
invariant-loop-i l = Made l.initial.cells l.cells (wraps l.fn.w.path l.i-index (part l.initial.cells l.initial.m)) l.i-index l.m
