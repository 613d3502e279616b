-- `resolve_var` meets its contract. The invariant: what is left of the way gives the whole. The measure is the expression's number.
use Rattle.module.specs.Tables.{module_of}
use Rattle.target.proofs.Resolving.{Resolving}
use Rattle.target.proofs.resolve.resolve_var.Given as goal

abbrev pub invariant-loop-cells : goal.invariant-loop-cells
invariant-loop-cells l = Resolving (module_of l.file.bytes l.file.t) l.f.0 l.initial.x.0 l.initial.cells l.cells l.x.0 l.p

abbrev pub decreases-loop-cells : goal.decreases-loop-cells
decreases-loop-cells l = l.x.0
