-- `rounds::settle::settle_rounds` meets its contract. The invariant: what is left of the rounds is the whole, whatever was asked (Turns).
use Prim.Native.Nat.{◌-◌}
use Rattle.module.specs.Tables.{function_of}
use Rattle.clearance.specs.Tree.{body_tree}
use Rattle.pass.specs.Checked.{max_rounds}
use Rattle.judge.specs.Given.{scope_at}
use Rattle.rounds.proofs.Turns.{Turning}
use Rattle.rounds.proofs.settle.settle_rounds.Given as goal

abbrev pub invariant-loop : goal.invariant-loop
invariant-loop l = Turning (scope_at l.marked.subject.now.file.now.bytes l.marked.subject.now.file.now.t l.marked.subject.now.f.0) (body_tree (function_of l.marked.subject.now.file.now.bytes l.marked.subject.now.file.now.t l.marked.subject.now.f.0) l.marked.marks.now) l.initial.cells l.initial.slots (max_rounds - l.counter) l.cells l.slots
