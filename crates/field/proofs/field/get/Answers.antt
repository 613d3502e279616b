-- `field::field::get` meets its contract: past the end both bytes are 0, and at the last byte the second is.
use Prim.Native.Nat.{◌+◌, ◌≤◌}
use lib.ListN.{length, get_or-eq_default}
use Rattle.field.specs.Field.{field_at}
use native.Mathlib.Omega.{arith}
use Rattle.field.proofs.field.get.Goals as goal

pub returns-then-bytes-at : goal.returns-then-bytes-at
unfolding field_at
returns-then-bytes-at c =
    let a = c.args in
    let h : length a.bytes.now ≤ a.at + 1 = omega arith in
    rw (get_or-eq_default a.bytes.now 0 c.if-bytes-at.true, get_or-eq_default a.bytes.now 0 h)

pub overflow_cast-result : goal.overflow_cast-result
overflow_cast-result c = omega (arith, c.type_inv.bytes c.args.at)

pub returns-then-bytes-at-lt2 : goal.returns-then-bytes-at-lt2
unfolding field_at
returns-then-bytes-at-lt2 c =
    let a = c.args in
    let h : length a.bytes.now ≤ a.at + 1 = omega arith in
    omega (arith, get_or-eq_default a.bytes.now 0 h)

pub returns : goal.returns
returns c = c.read.ensures
