-- `memory::memory::weigh` meets its contract. Assumes nothing.
use Prim.Native.Nat.{◌+◌, ◌-◌}
use mathlib.Core.Path.{◌≡◌, sym}
use Rattle.memory.proofs.Cuts.{cut-low, cut-at, cut-all}
use Rattle.memory.proofs.Notes.{sum_grows, weigh_more}
use Rattle.memory.proofs.Slots.{sum_none}
use native.Mathlib.Omega.{arith}
use Rattle.memory.proofs.memory.weigh.Goals as goal

pub loop-r-init : goal.loop-r-init
loop-r-init c = sym (sum_none _ _)

pub entries-requires-clause-n_bound : goal.entries-requires-clause-n_bound
entries-requires-clause-n_bound c =
    let low = cut-low c.args.slots.now c.args.a _ c.loop-r-test.true in
    rw (cut-at c.args.slots.now c.args.a _ c.loop-r-test.true) (c.requires.memory.below _ (omega arith))

pub overflow_add-sum : goal.overflow_add-sum
overflow_add-sum c =
    let low = cut-low c.args.slots.now c.args.a _ c.loop-r-test.true in
    omega (arith, sum_grows c.requires.memory _ _ c.requires.n_in_bounds.0 c.loop-r.r-index (omega arith), c.entries.ensures)

pub loop-r-preserved : goal.loop-r-preserved
loop-r-preserved c =
    let low = cut-low c.args.slots.now c.args.a _ c.loop-r-test.true in
    weigh_more c.requires.memory _ _ c.requires.n_in_bounds.0 _ _ _ c.requires.n_in_bounds.1 (omega arith) c.loop-r.invariant (rw (← cut-at c.args.slots.now c.args.a _ c.loop-r-test.true) c.entries.ensures)

pub returns : goal.returns
returns c =
    let all : c.loop-r.r-index ≡ (c.args.a + c.args.n) - c.args.a = cut-all c.args.slots.now c.args.a _ (omega arith) c.loop-r.auto.r-index-end c.loop-r-test.false in
    let e : c.loop-r.r-index ≡ c.args.n = omega (arith, all) in rw e at c.loop-r.invariant
