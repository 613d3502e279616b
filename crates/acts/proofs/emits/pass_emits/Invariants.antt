-- `acts::emits::pass_emits` meets its contract. The invariant: the expressions from the k-th on were walked (Emitting).
use mathlib.Core.Path.{◌≡◌}
use lib.ListN.{length}
use Rattle.judge.specs.Given.{scope_at}
use Rattle.standing.specs.Passing.{going}
use Rattle.acts.proofs.Emitting.{Emitted}
use Rattle.acts.proofs.emits.pass_emits.Given as goal

abbrev pub invariant-loop-k : goal.invariant-loop-k
invariant-loop-k l = Emitted (scope_at l.subject.file.now.bytes l.subject.file.now.t l.subject.f.0) l.marks l.l l.first.0 l.count l.k l.initial.cells l.initial.slots l.n (going l.initial.q) l.cells l.slots (going l.q) × (length l.path ≡ length l.initial.path)
