-- `context::remove::type_kind` meets its contract.
use native.Mathlib.Omega.{arith}
use Rattle.context.proofs.Types.{kind_there, kind_past}
use Rattle.context.proofs.remove.type_kind.Goals as goal

pub returns-then-types-t : goal.returns-then-types-t
returns-then-types-t c = omega (arith, kind_past c.args.types.now c.args.t.0 c.if-types-t.true)

pub returns : goal.returns
returns c =
    let z = kind_there c.args.types.now c.args.t.0 (omega arith) in
    rw (z, ← c.type_word.ensures) c.from.ensures
