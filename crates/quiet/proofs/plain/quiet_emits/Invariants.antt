-- `quiet::plain::quiet_emits` meets its contract. The invariant: what is left says the whole.
use Prim.Native.Nat.{◌+◌, ◌-◌}
use Rattle.judge.specs.Subject.{scope_of}
use Rattle.quiet.specs.Acts.{needed_by}
use Rattle.quiet.proofs.Leaves.{Passed}
use Rattle.quiet.proofs.plain.quiet_emits.Given as goal

abbrev pub invariant-loop-e : goal.invariant-loop-e
invariant-loop-e l = Passed (scope_of l.need.subject.now) (needed_by l.need) l.fn.first.0 ((l.fn.last.0 + 1) - l.fn.first.0) l.e ((l.fn.last.0 + 1) - l.e) l.initial.path l.path
