-- `backward::slots::exchange` meets its contract: a swap writes both slots.
use Prim.Native.Nat.{◌-◌}
use mathlib.Core.Path.{sym, ◌∙◌}
use native.Mathlib.Omega.{arith}
use Rattle.std.proofs.lemmas.List.Edits.{swap_is}
use Rattle.backward.proofs.slots.exchange.Goals as goal

pub returns : goal.returns
returns c =
    c.swap.ensures.after
    ∙ sym (swap_is c.args.slots.now c.args.n (c.args.n - 1) 0 c.requires.1 (omega (arith, c.requires.0, c.requires.1)))
