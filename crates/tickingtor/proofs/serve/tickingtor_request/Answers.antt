-- `tickingtor_request` meets its contract: it is `request_any` over tables of its own.
use Rattle.tickingtor.proofs.serve.tickingtor_request.Goals as goal

pub returns : goal.returns
returns c = c.request_any.ensures
