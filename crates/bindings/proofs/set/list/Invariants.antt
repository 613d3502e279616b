-- `bindings::set::list` meets its contract: binding by binding.
use Rattle.bindings.proofs.Writing.{Writing}
use Rattle.bindings.proofs.set.list.Given as goal

abbrev pub invariant-loop-b : goal.invariant-loop-b
invariant-loop-b l = Writing l.s l.initial.out l.out l.b l.k
