-- `module::operands::unemitted` meets its contract: what is left of the expressions gives the whole.
use Prim.Native.Nat.{◌+◌, ◌-◌}
use Rattle.module.specs.Operands.{unemitted}
use Rattle.module.specs.Tables.{emitted_of}
use Rattle.module.proofs.Counted.{Unemitted}
use Rattle.module.proofs.operands.unemitted.Given as goal

abbrev pub invariant-loop-e : goal.invariant-loop-e
invariant-loop-e l = Unemitted l.t l.expressions (unemitted (emitted_of l.t l.expressions) l.first l.count) l.e (l.first + l.count - l.e)
