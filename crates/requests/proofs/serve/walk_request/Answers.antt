-- `requests::serve::walk_request` meets its contract: the walk's refusal, or how the request ends.
use Rattle.requests.proofs.Serving.{walk_enters, walk_halted, walk_finished}
use Rattle.state.proofs.Ends.{passed}
use Rattle.requests.proofs.serve.walk_request.Goals as goal

pub returns-in_err-walked : goal.returns-in_err-walked
returns-in_err-walked c = rw (passed c.from_residual.ensures.1) (walk_halted c.requires c.add_function.ensures c.in_err-walked.was)

pub returns : goal.returns
returns c = walk_finished c.requires c.add_function.ensures c.in_ok-walked.was c.finish_request.ensures

pub add_function-requires-clause-function_entered : goal.add_function-requires-clause-function_entered
add_function-requires-clause-function_entered c = walk_enters c.requires
