-- `requests::begin::load_request` meets its contract: 12 of a request that is too long, what reading it refuses, or its base context in a fresh memory.
use mathlib.Core.Path.{refl}
use native.Mathlib.Omega.{arith}
use Rattle.requests.proofs.Basing.{long_refused, passed, loaded_request}
use Rattle.requests.proofs.begin.load_request.Goals as goal

pub returns-in_err-check_length : goal.returns-in_err-check_length
returns-in_err-check_length c =
    let long = c.in_err-check_length.ensures in
    rw (passed c.from_residual.ensures.1) (record { by = rw long.0 (long_refused c.args.functions c.args.globals c.args.report c.args.request.now long.1) })

pub returns : goal.returns
returns c =
    loaded_request c.init_memory.ensures c.args.request.now c.args.functions c.args.globals c.args.report c.in_ok-check_length.ensures.1 c.read_request.ensures c.in_ok-q.was (omega (arith, c.init_memory.auto.slots, c.requires.slot_count_in_bounds.0)) c.load_base.ensures refl
