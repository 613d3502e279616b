-- `bindings_request::input::fill` meets its contract: one argument more a turn.
use Rattle.bindings_request.proofs.Filled.{Filled}
use Rattle.bindings_request.proofs.input.fill.Given as goal

abbrev pub invariant-loop-i : goal.invariant-loop-i
invariant-loop-i l = Filled l.file.bytes l.file.t l.f.0 l.initial.args l.args l.i
