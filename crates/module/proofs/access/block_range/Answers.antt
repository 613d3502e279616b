-- `module::access::block_range` meets its contract.
use mathlib.Core.Path.{◌≡◌}
use Prim.Native.Nat.{suc, ◌+◌}
use native.Mathlib.Omega.{arith}
use Rattle.module.specs.Reading.{range_of}
use Rattle.module.proofs.access.block_range.Goals as goal

pub returns : goal.returns
unfolding range_of
returns c =
    let next : c.args.b.0 + 1 ≡ suc c.args.b.0 = omega arith in
    record {
      is_first = c.first_statement-first.ensures;
      is_count = rw (c.saturating_sub.ensures, ← c.first_statement-first.ensures, ← next, ← c.first_statement-next.ensures);
    }
