-- `module::operands::operands` meets its contract: what is left of the shape and of the fields gives the whole.
use Rattle.module.specs.Scan.{fields_in}
use Rattle.module.specs.Operands.{operands}
use Rattle.module.specs.Packed.{unpack, classes}
use Rattle.module.specs.Tables.{scope_in}
use Rattle.module.proofs.Shaped.{Shaped}
use Rattle.module.proofs.operands.operands.Given as goal

abbrev pub invariant-loop-k : goal.invariant-loop-k
invariant-loop-k l = Shaped (scope_in l.scope.bytes.now l.scope.t.now l.scope.counts) l.initial.seen l.stamp (operands (unpack classes l.shape) (scope_in l.scope.bytes.now l.scope.t.now l.scope.counts) (fields_in l.scope.bytes.now l.initial.left)) l.seen l.packed l.k (fields_in l.scope.bytes.now l.left)
