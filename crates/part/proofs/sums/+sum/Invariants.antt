-- `sum` meets its contract. The measure is the sum of the two numbers.
use Prim.Native.Nat.{◌+◌}
use Rattle.part.proofs.sums.+sum.Given as goal

abbrev pub decreases-sum : goal.decreases-sum
decreases-sum l = l.a + l.b
