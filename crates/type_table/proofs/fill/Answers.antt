-- `type_table::fill` meets its contract. The invariant: the words before i are filled.
use Rattle.type_table.proofs.Filled.{fill_none, fill_next, fill_all}
use native.Mathlib.Omega.{arith}
use Rattle.type_table.proofs.fill.Goals as goal

pub loop-i-init : goal.loop-i-init
loop-i-init c = fill_none _ _ _

pub overflow_cast-row : goal.overflow_cast-row
overflow_cast-row c =
    omega (arith, c.loop-i.invariant.long, c.loop-i-test.true, c.requires.table_len, c.requires.table_len_bound, c.requires.all_sized)

pub loop-i-preserved : goal.loop-i-preserved
loop-i-preserved c =
    fill_next _ _ _ _ _ _ c.loop-i.invariant (omega (arith, c.loop-i.invariant.long, c.loop-i-test.true)) c.type_field.ensures

pub returns : goal.returns
returns c =
    fill_all _ _ _ _ _ c.loop-i.invariant (omega (arith, c.loop-i.invariant.long, c.loop-i-test.false)) c.requires.table_len c.requires.all_sized
