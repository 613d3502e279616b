-- `report::outcome::walk_request` meets its contract: the request's refusal, or what its walk comes to.
use native.Mathlib.Omega.{arith}
use Rattle.requests.proofs.Basing.{passed}
use Rattle.report.proofs.Requesting.{request_refused, request_asked, request_walked}
use Rattle.report.proofs.outcome.walk_request.Goals as goal

pub place_marks-requires-clause-was_read : goal.place_marks-requires-clause-was_read
place_marks-requires-clause-was_read c = c.args.typed.now.was_read

pub begin_request-requires : goal.begin_request-requires
begin_request-requires c =
    record {
      was_read = c.args.typed.now.was_read;
      firsts = _;
      placed = c.place_marks.ensures;
      cells_long = omega arith;
      cells_fit = omega arith;
      slots_long = omega arith;
      open_long = omega arith;
      flags_long = omega arith;
      totals_long = omega arith;
    }

pub walk_function-requires : goal.walk_function-requires
walk_function-requires c = request_asked c.begin_request.ensures c.in_ok-begun.was c.args.typed.now.rows c.place_marks.ensures

pub returns-in_err-begun-clause-text : goal.returns-in_err-begun-clause-text
returns-in_err-begun-clause-text c = rw (passed c.from_residual.ensures.1) (request_refused c.begin_request.ensures c.in_err-begun.was)

pub returns-clause-text : goal.returns-clause-text
returns-clause-text c =
    request_walked c.begin_request.ensures c.in_ok-begun.was c.args.typed.now.rows c.place_marks.ensures c.walk_function.ensures
