-- `memory::memory::flat` meets its contract, digit by digit. Assumes nothing.
use Rattle.memory.proofs.FlatParts.{flat_none, flat_skip, flat_made}
use Rattle.std.proofs.Common.{rules, ◌≡◌, ◌%◌}
use native.Mathlib.Omega.{arith}
use Rattle.memory.proofs.memory.+flat.Goals as goal

pub returns-then-n-eq0 : goal.returns-then-n-eq0
returns-then-n-eq0 t c = flat_none _ _ _ _ c.requires.good c.if-n-eq0.true

pub returns-in-0 : goal.returns-in-0
returns-in-0 t c = flat_skip _ _ _ (omega arith) c.flat-r.ensures c.in-0.is

pub returns-in-1 : goal.returns-in-1
returns-in-1 t c =
    let e = c.in-1.is in
    flat_made _ _ _ (omega arith) c.flat-r.ensures (omega (arith, e)) (rw e c.make.ensures)

pub returns-in_default : goal.returns-in_default
returns-in_default t c =
    let a : c.args.c % 3 ≡ 0 → ⊥ = search rules in
    let b : c.args.c % 3 ≡ 1 → ⊥ = search rules in
    let e : c.args.c % 3 ≡ 2 = omega arith in
    flat_made _ _ _ (omega arith) c.flat-r.ensures (omega (arith, e)) (rw e c.make-in_default.ensures)
