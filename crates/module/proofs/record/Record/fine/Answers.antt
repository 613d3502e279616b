-- `module::record::Record::fine` meets its contract.
use Rattle.module.specs.Tables.{scope_in}
use Rattle.module.proofs.Shaped.{stamped_on, stamped_later}
use Rattle.module.proofs.Records.{fine-odd, fine-cut, fine-untyped, fine-operands}
use native.Mathlib.Omega.{arith}
use Rattle.module.proofs.record.Record.fine.Goals as goal

pub returns-then-len-ne0 : goal.returns-then-len-ne0
returns-then-len-ne0 c =
    record { value = fine-odd _ _ _ _ _ 0 c.get-len.ensures c.if-len-ne0.true; stamped = stamped_on c.requires.fresh (omega arith) }

pub returns-then-n-skip : goal.returns-then-n-skip
returns-then-n-skip c =
    record { value = fine-cut _ _ _ _ _ _ c.get-len.ensures c.if-len-ne0.false c.before-skip.ensures c.if-n-skip.true; stamped = stamped_on c.requires.fresh (omega arith) }

pub operands-requires : goal.operands-requires
operands-requires c =
    record { fresh = c.requires.fresh; stamp_bound = omega (arith, c.requires.at_bound) }

pub returns-then-typed : goal.returns-then-typed
unfolding scope_in
returns-then-typed c =
    record { value = fine-operands _ _ _ _ _ _ c.get-len.ensures c.if-len-ne0.false c.before-skip.ensures c.if-n-skip.false _ c.typed.ensures _ _ c.if-typed.true c.shape.ensures c.operands.ensures.value; stamped = stamped_later c.operands.ensures.stamped (omega arith) }

pub returns : goal.returns
unfolding scope_in
returns c =
    record { value = fine-untyped _ _ _ _ _ _ c.get-len.ensures c.if-len-ne0.false c.before-skip.ensures c.if-n-skip.false _ c.typed.ensures c.if-typed.false; stamped = stamped_on c.requires.fresh (omega arith) }
