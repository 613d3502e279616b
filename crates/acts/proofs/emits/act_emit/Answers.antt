-- `acts::emits::act_emit` meets its contract: nothing is needed, or the expression's slot is taken out and its operands are asked (Emit).
use mathlib.Core.Path.{refl, ◌∙◌}
use Rattle.acts.proofs.Steps.{needs_some, acted_none}
use Rattle.acts.proofs.Emit.{path_room, lent-long, emit-take, emit-full, operands_given, operands_full, emit-left}
use native.Mathlib.Omega.{arith}
use Rattle.acts.proofs.emits.act_emit.Goals as goal

pub returns-in_default : goal.returns-in_default
returns-in_default c =
    acted_none c.requires.act_given.ready c.emit_overlap.ensures c.in_default.is

pub invariant_of-types : goal.invariant_of-types
invariant_of-types c = record { lower = c.args.subject.now.given.shapes.lower }

pub take_out-requires : goal.take_out-requires
take_out-requires c =
    record { there = c.args.subject.now.given.of; same = c.args.subject.now.given.values.same; take_given = emit-take c.requires.act_given c.requires.e_in_bounds (needs_some c.emit_overlap.ensures c.in-Some.is) c.emit_overlap.ensures c.in-Some.is c.evaluated_path.ensures.is }

pub returns-in_err-take_out : goal.returns-in_err-take_out
returns-in_err-take_out c =
    rw c.from_residual.ensures
    (record { step = emit-full c.requires.act_given c.requires.e_in_bounds (needs_some c.emit_overlap.ensures c.in-Some.is) c.evaluated_path.ensures.is c.in_err-take_out.ensures refl; long = c.evaluated_path.ensures.long ∙ c.emit_overlap.ensures.long })

pub ask_operands-requires : goal.ask_operands-requires
ask_operands-requires c =
    let given = operands_given c.requires.act_given c.requires.e_in_bounds (needs_some c.emit_overlap.ensures c.in-Some.is) c.evaluated_path.ensures.is c.in_ok-take_out.ensures refl in
    record { operands_given = given; path_room = path_room given _ (omega (arith, c.requires.act_given.room, c.evaluated_path.ensures.long, c.emit_overlap.ensures.long)) _ c.expressions.ensures }

pub returns-in_err-ask_operands : goal.returns-in_err-ask_operands
returns-in_err-ask_operands c =
    rw c.from_residual-in_err-ask_operands.ensures
    (record { step = operands_full c.requires.act_given c.requires.e_in_bounds (needs_some c.emit_overlap.ensures c.in-Some.is) c.evaluated_path.ensures.is c.in_ok-take_out.ensures refl c.in_err-ask_operands.ensures refl; long = lent-long _ _ _ _ c.ask_operands.auto.path (c.evaluated_path.ensures.long ∙ c.emit_overlap.ensures.long) })

pub returns : goal.returns
returns c =
    record { step = emit-left c.requires.act_given c.requires.e_in_bounds (needs_some c.emit_overlap.ensures c.in-Some.is) c.evaluated_path.ensures.is c.in_ok-take_out.ensures refl c.in_ok-ask_operands.ensures refl c.copy.ensures; long = lent-long _ _ _ _ c.ask_operands.auto.path (c.evaluated_path.ensures.long ∙ c.emit_overlap.ensures.long) }
