-- `asks::fields::sample_ways` meets its contract: code by code. Assumes nothing.
use mathlib.Core.Path.{refl}
use native.Mathlib.Omega.{arith}
use Rattle.asks.specs.Ways.{sample_ways, ways_of, pack, numbers}
use Rattle.asks.proofs.FieldAsks.{sample_some, sample_else}
use Rattle.asks.proofs.fields.sample_ways.Goals as goal
use Rattle.asks.proofs.fields.sample_ways.Goals.{in_default-via-then-code-lt2, in_default-via-else-code-lt2+else-code-lt4}

pub returns-in-4 : goal.returns-in-4
unfolding sample_ways ways_of pack numbers
returns-in-4 c = rw c.in-4.is (record { is = refl; few = omega arith })

pub returns-in-2 : goal.returns-in-2
returns-in-2 c = sample_some _ (omega arith) (omega arith)

pub returns-in_default : goal.returns-in_default
returns-in_default c =
    elim c.in_default.branch [
      | in_default-via-then-code-lt2 w ↦ sample_else _ (omega arith) (omega arith) (omega arith)
      | in_default-via-else-code-lt2+else-code-lt4 w ↦ sample_else _ (omega arith) (omega arith) (omega arith)
    ]
