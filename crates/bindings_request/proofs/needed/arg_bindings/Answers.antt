-- `bindings_request::needed::arg_bindings` meets its contract: by what is asked of the argument, and whether it is bound.
use mathlib.Core.Path.{sym, ◌∙◌}
use mathlib.Core.Logic.{inl, inr}
use Rattle.bindings_request.proofs.needed.arg_bindings.Goals.{else-is_some-via-then-is_some+else-not-is_all, else-is_some-via-else-is_some}
use Rattle.bindings_request.proofs.Arguments.{arg_gone, arg_exist, arg_given, arg_part}
use Rattle.bindings_request.proofs.needed.arg_bindings.Goals as goal

pub returns-in_default : goal.returns-in_default
returns-in_default c =
    arg_gone _ _ _ c.in_default.ensures

pub returns-then-is_exist : goal.returns-then-is_exist
returns-then-is_exist c =
    arg_exist _ _ _ _ c.in-Some.ensures.0 (sym c.is_exist.ensures ∙ c.if-is_exist.true)

pub returns-then-not-is_all : goal.returns-then-not-is_all
returns-then-not-is_all c =
    arg_part _ _ _ _ c.in-Some.ensures.0 (sym c.is_exist.ensures ∙ c.if-is_exist.false) (sym c.is_some.ensures ∙ c.if-is_some.true) (sym c.is_all.ensures ∙ c.if-not-is_all.true)

pub returns : goal.returns
returns c =
    arg_given _ _ _ _ c.in-Some.ensures.0 (sym c.is_exist.ensures ∙ c.if-is_exist.false)
    (elim c.else-is_some.branch [
      | else-is_some-via-then-is_some+else-not-is_all w ↦ inr (sym w.is_all.ensures ∙ w.if-not-is_all.false)
      | else-is_some-via-else-is_some w ↦ inl (sym c.is_some.ensures ∙ w.if-is_some.false)
    ])
    c.type_bindings-below.ensures c.own_binding-own.ensures
