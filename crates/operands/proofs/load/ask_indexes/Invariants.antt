-- `operands::load::ask_indexes` meets its contract. The invariant: the indexes after those of h are asked.
use Rattle.operands.proofs.Loads.{Left}
use Rattle.operands.proofs.load.ask_indexes.Given as goal

abbrev pub invariant-loop-base : goal.invariant-loop-base
invariant-loop-base l = Left l.pointer l.h l.initial.cells l.initial.slots l.n l.cells l.slots

abbrev pub decreases-loop-base : goal.decreases-loop-base
decreases-loop-base l = l.h.e.0
