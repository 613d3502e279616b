-- `needs::path::under` meets its contract. The path from k on is around a (`Around`).
use Rattle.needs.proofs.Steps.{Around}
use Rattle.needs.proofs.path.under.Given as goal

abbrev pub invariant-loop-k : goal.invariant-loop-k
invariant-loop-k l = Around l.initial.cells l.cells l.path l.a l.m l.k
