-- `memory::want::swizzle` meets its contract. Assumes nothing.
use mathlib.Core.Path.{refl, sym, ◌∙◌}
use Rattle.memory.proofs.FlatParts.{digit_missing, digit_there, picks_all, picks_exist, picks_panic, pick_first, pick_less, pick_out, pick_panics, pick_on, pick_done}
use Rattle.memory.proofs.Slots.{asked-small}
use native.Mathlib.Omega.{arith}
use Rattle.memory.proofs.want.swizzle.Goals as goal

pub returns-then-is_all : goal.returns-then-is_all
returns-then-is_all c = picks_all _ _ c.requires.memory.0 (sym c.if-is_all.true ∙ c.is_all.ensures)

pub returns-then-is_exist : goal.returns-then-is_exist
returns-then-is_exist c = picks_exist _ _ c.requires.memory.0 (sym c.if-is_exist.true ∙ c.is_exist.ensures)

pub loop-i-init : goal.loop-i-init
loop-i-init c = pick_first _ _ (sym c.if-is_all.false ∙ c.is_all.ensures) (sym c.if-is_exist.false ∙ c.is_exist.ensures)

pub returns-then-i-ge4 : goal.returns-then-i-ge4
returns-then-i-ge4 c = picks_panic (pick_out c.loop-i.invariant c.in-Some.ensures c.if-i-ge4.true)

pub returns-in_err-d : goal.returns-in_err-d
returns-in_err-d c =
    rw c.from_residual.ensures (picks_panic (pick_panics c.loop-i.invariant c.in-Some.ensures c.if-i-ge4.false c.child-u.ensures refl refl (digit_missing _ (sym c.in_err-d.was ∙ c.digit.ensures))))

pub overflow_add-k : goal.overflow_add-k
overflow_add-k c =
    omega (arith, c.loop-i.invariant.few, pick_less c.loop-i.invariant c.in-Some.ensures, asked-small c.requires.memory.0 _ c.requires.memory.1)

pub loop-i-smaller : goal.loop-i-smaller
loop-i-smaller c = pick_less c.loop-i.invariant c.in-Some.ensures

pub loop-i-preserved : goal.loop-i-preserved
loop-i-preserved c =
    let d = digit_there _ _ (sym c.in_ok-d.was ∙ c.digit.ensures) in
    pick_on c.loop-i.invariant c.in-Some.ensures c.if-i-ge4.false c.child-u.ensures refl d.0 _ c.requires.letters c.letter_at-letter.ensures d.1

pub returns : goal.returns
returns c = pick_done c.loop-i.invariant _ c.requires.memory.0 (sym c.in_default.is ∙ c.entry.ensures) c.flat_slot.ensures
