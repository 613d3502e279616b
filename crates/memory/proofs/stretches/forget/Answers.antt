-- `memory::stretches::forget` meets its contract. Assumes nothing.
use Rattle.std.proofs.lemmas.List.Edits.{length-between}
use Rattle.memory.proofs.Runs.{forgotten-part}
use native.Mathlib.Omega.{arith}
use Prim.Native.Nat.{◌+◌}
use Rattle.memory.proofs.stretches.forget.Goals as goal

pub returns : goal.returns
returns c =
    let long = length-between c.args.slots.now c.args.from (c.args.from + c.args.n) c.requires in
    forgotten-part _ _ _ _ (c.fill.ensures.after (λ y e. e)) (omega arith) (omega arith) c.requires
