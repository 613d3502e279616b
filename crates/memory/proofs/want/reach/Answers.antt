-- `memory::want::reach` meets its contract. Assumes nothing.
use mathlib.Core.Path.{◌≡◌, sym, ◌∙◌}
use Rattle.std.proofs.lemmas.List.{length-take, get_or-take}
use Rattle.memory.proofs.Asks.{downs-none, downs-more}
use native.Mathlib.Omega.{arith}
use Rattle.memory.proofs.want.reach.Goals as goal

pub loop-k-init : goal.loop-k-init
loop-k-init c = (omega arith, downs-none _ _)

pub loop-k-preserved : goal.loop-k-preserved
loop-k-preserved c =
    let at = get_or-take c.args.w.down c.args.w.path c.loop-k.k-index 0 (omega (arith, c.loop-k-test.true, length-take c.args.w.down c.args.w.path)) in
    (c.kid-m.ensures.0, c.kid-m.ensures.1 ∙ rw (c.tail-t.ensures.1, at, c.loop-k.invariant.1) (sym (downs-more _ _ _)))

pub returns : goal.returns
returns c =
    let all : c.loop-k.k-index ≡ c.args.w.down = omega (arith, c.loop-k-test.false, length-take c.args.w.down c.args.w.path) in
    rw all at c.loop-k.invariant
