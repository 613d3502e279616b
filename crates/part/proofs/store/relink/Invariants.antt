-- `relink` meets its contract: the cells below n are in their chains.
use Rattle.part.proofs.Chains.{Relinking}
use Rattle.part.proofs.store.relink.Given as goal

abbrev pub invariant-loop-n : goal.invariant-loop-n
invariant-loop-n l = Relinking l.initial.cells l.cells l.n
