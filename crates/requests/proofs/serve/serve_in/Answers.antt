-- `requests::serve::serve_in` meets its contract: the refusals in their order, or the walk.
use native.Mathlib.Omega.{arith}
use Rattle.requests.proofs.Serving.{served_refused, served_19, served_20, serve_walking, served}
use Rattle.state.proofs.Ends.{passed}
use Rattle.requests.proofs.serve.serve_in.Goals as goal

pub begin_request-requires : goal.begin_request-requires
begin_request-requires c =
    let w = c.args.world.now in
    record {
      was_read = w.typed.now.was_read;
      firsts = w.places.now.firsts;
      placed = w.placed;
      cells_long = omega arith;
      cells_fit = omega arith;
      slots_long = omega arith;
      open_long = omega arith;
      flags_long = omega arith;
      totals_long = omega arith;
    }

pub returns-then-pruner-lt-MIN_PRUNER : goal.returns-then-pruner-lt-MIN_PRUNER
returns-then-pruner-lt-MIN_PRUNER c =
    rw c.into.ensures (served_19 c.args.report.now c.args.answer.now c.begin_request.ensures c.in_ok-begun.was c.if-pruner-lt-MIN_PRUNER.true)

pub returns-then-answer-lt-MIN_ANSWER : goal.returns-then-answer-lt-MIN_ANSWER
returns-then-answer-lt-MIN_ANSWER c =
    rw c.into-then-answer-lt-MIN_ANSWER.ensures (served_20 c.args.report.now c.args.answer.now c.begin_request.ensures c.in_ok-begun.was c.if-pruner-lt-MIN_PRUNER.false c.if-answer-lt-MIN_ANSWER.true)

pub walk_request-requires : goal.walk_request-requires
walk_request-requires c =
    serve_walking c.args.report.now c.args.answer.now c.begin_request.ensures c.in_ok-begun.was c.args.world.now.typed.now.rows c.args.world.now.placed c.if-pruner-lt-MIN_PRUNER.false c.if-answer-lt-MIN_ANSWER.false

pub returns-in_err-begun : goal.returns-in_err-begun
returns-in_err-begun c =
    rw (passed c.from_residual.ensures.1) (served_refused c.args.report.now c.args.answer.now c.begin_request.ensures c.in_err-begun.was)

pub returns : goal.returns
returns c =
    served c.args.report.now c.args.answer.now c.begin_request.ensures c.in_ok-begun.was c.args.world.now.typed.now.rows c.args.world.now.placed c.if-pruner-lt-MIN_PRUNER.false c.if-answer-lt-MIN_ANSWER.false c.walk_request.ensures
