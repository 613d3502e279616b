-- `arms::visit::end_statement` meets its contract, answer by answer.
use mathlib.Core.Path.{refl, ap}
use Rattle.std.specs.Option.{is_some}
use Rattle.request.proofs.Ways.{refuses}
use Rattle.state.proofs.Ends.{passed}
use Rattle.arms.proofs.Ending.{last_halts, last_counting, last_allowed, last_refused}
use Rattle.arms.proofs.visit.end_statement.Goals as goal

pub allowed-requires : goal.allowed-requires
allowed-requires c = last_counting _ c.in_ok-a.was c.requires

pub returns-in_err-ok_or : goal.returns-in_err-ok_or
returns-in_err-ok_or c = rw (refuses _ c.from_residual-in_err-ok_or.ensures.1 c.in_err-ok_or.ensures.value refl, c.halt.ensures) (last_refused _ c.in_ok-a.was c.allowed.ensures (ap is_some c.in_err-ok_or.ensures.ok_part))

pub returns-in_err-a : goal.returns-in_err-a
returns-in_err-a c = rw (passed c.from_residual.ensures.1) (last_halts _ c.in_err-a.was)

pub returns : goal.returns
returns c = last_allowed _ c.in_ok-a.was c.allowed.ensures (ap is_some c.in_ok-ok_or.ensures.ok_part)
