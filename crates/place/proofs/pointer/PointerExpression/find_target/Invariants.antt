-- `place::target::find_target` meets its contract. The invariant: what is left of the pointer and what is written give the whole.
use mathlib.Core.Path.{◌≡◌}
use lib.ListN.{length}
use Rattle.place.specs.Steps.{scope_in}
use Rattle.place.specs.Target.{Passed}
use Rattle.place.proofs.pointer.PointerExpression.find_target.Given as goal

abbrev pub invariant-loop-v : goal.invariant-loop-v
invariant-loop-v l = (scope_in l.h ≡ scope_in l.self) × Passed (scope_in l.self) l.self.e.0 l.path l.h.e.0 l.from l.to l.dynamic × (length l.path ≡ length l.initial.path)

abbrev pub decreases-loop-v : goal.decreases-loop-v
decreases-loop-v l = l.h.e.0
