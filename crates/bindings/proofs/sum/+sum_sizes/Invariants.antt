-- `sum_sizes` meets its contract. The measure is the sum of the two numbers.
use Prim.Native.Nat.{◌+◌}
use Rattle.bindings.proofs.sum.+sum_sizes.Given as goal

abbrev pub decreases-sum_sizes : goal.decreases-sum_sizes
decreases-sum_sizes l = l.a + l.b
