-- `bindings_request::input::fill` meets its contract: one argument more a turn.
use Rattle.std.proofs.Common.{None}
use Rattle.bindings_request.proofs.Filled.{filled_all}
use Rattle.bindings_request.proofs.input.fill.Goals as goal

pub returns : goal.returns
returns c = filled_all c.loop-i.invariant (record { ty = record { 0 = 0 }; binding = None }) c.requires.args_len c.loop-i-test.false
