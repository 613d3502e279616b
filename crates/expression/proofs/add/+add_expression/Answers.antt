-- `expression::add::add_expression` meets its contract, by the number of the expression, which falls. Its loop keeps what is left of the asks (`Left`). Assumes
-- nothing.
use mathlib.Core.Path.{refl, ap}
use Rattle.std.specs.Option.{is_some}
use Rattle.request.proofs.Ways.{refuses}
use Rattle.state.proofs.Ends.{passed}
use Rattle.expression.proofs.Walking.{walk_17, walk_16, left_ask, left_closing, left_visiting, left_end, left_refuse, argument_low, local_low, global_low, left_argument, left_local, left_global, operand_inside, operand_few, left_halt, left_next}
use native.Mathlib.Omega.{arith}
use Rattle.expression.proofs.add.+add_expression.Goals as goal

pub returns-then-began-ge-MAX_VISITS : goal.returns-then-began-ge-MAX_VISITS
returns-then-began-ge-MAX_VISITS t c =
    rw c.halt.ensures (walk_17 c.requires.ready c.args.v.now.expression.0 c.args.began.visits c.args.w refl refl c.if-began-ge-MAX_VISITS.true)

pub returns-in_err-ok_or : goal.returns-in_err-ok_or
returns-in_err-ok_or t c =
    rw (refuses _ c.from_residual.ensures.1 c.in_err-ok_or.ensures.value refl, c.halt-2.ensures) (walk_16 c.requires.ready c.args.v.now.expression.0 c.args.began.visits c.args.w refl refl c.if-began-ge-MAX_VISITS.false c.allowed.ensures (ap is_some c.in_err-ok_or.ensures.ok_part))

pub ask-requires : goal.ask-requires
ask-requires t c =
    let q9 = left_ask c.loop-a.invariant.began c.loop-a.invariant.left in
    record { there = q9.0; memory = q9.1 }

pub returns-in_err-tally-in-Operand : goal.returns-in_err-tally-in-Operand
returns-in_err-tally-in-Operand t c =
    rw (passed c.from_residual-in_err-tally-in-Operand.ensures.1)
    (left_halt c.loop-a.invariant.began c.loop-a.invariant.left c.ask.ensures (rw c.in-Operand.is at c.in-Some.is) c.add_expression.ensures c.in_err-tally-in-Operand.was)

pub entry-requires : goal.entry-requires
entry-requires t c =
    record { visiting = left_visiting c.loop-a.invariant.began c.loop-a.invariant.left; in_bounds = (omega arith, argument_low c.loop-a.invariant.began c.loop-a.invariant.left c.ask.ensures (rw c.in-Argument.is at c.in-Some.is)) }

pub returns-in-Argument : goal.returns-in-Argument
returns-in-Argument t c =
    left_argument c.loop-a.invariant.began c.loop-a.invariant.left c.ask.ensures (rw c.in-Argument.is at c.in-Some.is) (λ bytes r. (c.entry.ensures bytes r).argument refl)

pub global-requires : goal.global-requires
global-requires t c =
    record { visiting = left_visiting c.loop-a.invariant.began c.loop-a.invariant.left; g_lt_spine = global_low c.loop-a.invariant.began c.loop-a.invariant.left c.ask.ensures (rw c.in-Global.is at c.in-Some.is) }

pub returns-in-Global : goal.returns-in-Global
returns-in-Global t c =
    left_global c.loop-a.invariant.began c.loop-a.invariant.left c.ask.ensures (rw c.in-Global.is at c.in-Some.is) c.global.ensures

pub entry-requires-in-Local : goal.entry-requires-in-Local
entry-requires-in-Local t c =
    record { visiting = left_visiting c.loop-a.invariant.began c.loop-a.invariant.left; in_bounds = (omega arith, local_low c.loop-a.invariant.began c.loop-a.invariant.left c.ask.ensures (rw c.in-Local.is at c.in-Some.is)) }

pub returns-in-Local : goal.returns-in-Local
returns-in-Local t c =
    left_local c.loop-a.invariant.began c.loop-a.invariant.left c.ask.ensures (rw c.in-Local.is at c.in-Some.is) (λ bytes r. (c.entry-in-Local.ensures bytes r).local refl)

pub returns-in-Refuse : goal.returns-in-Refuse
returns-in-Refuse t c =
    rw c.halt-in-Refuse.ensures (left_refuse c.loop-a.invariant.began c.loop-a.invariant.left c.ask.ensures (rw c.in-Refuse.is at c.in-Some.is) refl refl)

pub close-requires : goal.close-requires
close-requires t c =
    left_closing c.loop-a.invariant.began c.loop-a.invariant.left

pub returns : goal.returns
returns t c =
    left_end c.loop-a.invariant.began c.loop-a.invariant.left c.ask.ensures (c.in_default.is) c.close.ensures

pub overflow_add-j : goal.overflow_add-j
overflow_add-j t c =
    let h = operand_few c.loop-a.invariant.began c.loop-a.invariant.left c.ask.ensures (rw c.in-Operand.is at c.in-Some.is) in omega (arith, h)

pub loop-a-smaller : goal.loop-a-smaller
loop-a-smaller t c =
    let h = operand_inside c.loop-a.invariant.began c.loop-a.invariant.left c.ask.ensures (rw c.in-Operand.is at c.in-Some.is) in omega (arith, h)

pub loop-a-preserved : goal.loop-a-preserved
loop-a-preserved t c =
    record { began = c.loop-a.invariant.began; left = left_next c.loop-a.invariant.began c.loop-a.invariant.left c.ask.ensures (rw c.in-Operand.is at c.in-Some.is) c.add_expression.ensures c.in_ok-tally-in-Operand.was c.add_expression.auto.cells }
