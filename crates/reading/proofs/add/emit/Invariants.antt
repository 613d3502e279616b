-- `reading::add::emit` meets its contract: mark by mark, what is left to set gives the whole.
use Prim.Native.Nat.{suc, ◌-◌}
use mathlib.Core.Path.{◌≡◌}
use Rattle.reading.specs.Progress.{mark_from}
use Rattle.reading.proofs.add.emit.Given as goal

abbrev pub invariant-loop-e : goal.invariant-loop-e
invariant-loop-e l = mark_from l.t l.e (suc l.last - l.e) ≡ mark_from l.initial.t l.first (suc l.last - l.first)
