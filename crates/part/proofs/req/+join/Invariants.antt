-- `join` meets its contract. The measure is the sum of the two numbers.
use Prim.Native.Nat.{◌+◌}
use Rattle.part.proofs.req.+join.Given as goal

abbrev pub decreases-join : goal.decreases-join
decreases-join l = l.a + l.b
