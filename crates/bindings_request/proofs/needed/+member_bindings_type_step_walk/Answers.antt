-- `walk`, `member_bindings` and `type_step` meet their contracts: a type names lower ones, and the measure falls with them.
use native.Mathlib.Omega.{arith}
use mathlib.Core.Path.{sym, ◌∙◌}
use Rattle.bindings_request.proofs.Walking.{lower-past, lower_all, lower-step, member_gone, member_exist, member_needed, left_none, left_more, left_all, base_by, base_not, base-found}
use Rattle.bindings_request.proofs.needed.+member_bindings_type_step_walk.Goals as goal

pub member_bindings-returns-in_default : goal.member_bindings-returns-in_default
member_bindings-returns-in_default t c = member_gone _ _ c.in_default.ensures

pub member_bindings-returns-then-is_exist : goal.member_bindings-returns-then-is_exist
member_bindings-returns-then-is_exist t c =
    member_exist _ _ c.in-Some.ensures.0 (sym c.is_exist.ensures ∙ c.if-is_exist.true)

pub member_bindings-returns : goal.member_bindings-returns
member_bindings-returns t c =
    member_needed _ c.in-Some.ensures.0 (sym c.is_exist.ensures ∙ c.if-is_exist.false) c.member_at-m.ensures c.own_binding-own.ensures c.walk-below.ensures

pub type_step-returns-in-Pointer : goal.type_step-returns-in-Pointer
type_step-returns-in-Pointer t c =
    base-found _ _ _ _ (base_by _ c.type_kind.ensures c.in-Pointer.is) c.first_word.ensures c.walk.ensures

pub type_step-loop-i-init : goal.type_step-loop-i-init
type_step-loop-i-init t c = left_none _ _ _ _ c.member_count-i.ensures

pub type_step-loop-i-preserved : goal.type_step-loop-i-preserved
type_step-loop-i-preserved t c = left_more _ _ _ _ c.loop-i-test.true c.loop-i.invariant c.member_bindings-m.ensures

pub type_step-returns : goal.type_step-returns
type_step-returns t c =
    left_all _ _ _ _ c.loop-i-test.false c.loop-i.invariant (base_not _ c.type_kind.ensures c.in_default.not-Pointer c.in_default.not-Array c.in_default.not-BindingArray)

pub walk-returns-then-t-u : goal.walk-returns-then-t-u
walk-returns-then-t-u t c = lower-past _ _ _ _ _ c.if-t-u.true

pub walk-returns-then-is_all : goal.walk-returns-then-is_all
walk-returns-then-is_all t c =
    c.set_at.ensures ∙ lower_all _ _ _ _ _ (omega (arith, c.if-t-u.false)) (sym c.is_all.ensures ∙ c.if-is_all.true)

pub walk-returns : goal.walk-returns
walk-returns t c =
    c.type_step.ensures ∙ lower-step _ _ _ _ _ (omega (arith, c.if-t-u.false)) (sym c.is_all.ensures ∙ c.if-is_all.false)
