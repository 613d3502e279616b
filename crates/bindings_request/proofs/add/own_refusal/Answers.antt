-- `bindings_request::add::own_refusal` meets its contract: 18 is 20 here.
use Rattle.bindings_request.proofs.Adding.{own_other}
use Rattle.bindings_request.specs.Boundary.{own_number}
use Rattle.bindings_request.proofs.add.own_refusal.Goals as goal

pub returns-in-ReportTooShort : goal.returns-in-ReportTooShort
unfolding own_number
returns-in-ReportTooShort c = rw c.in-ReportTooShort.is

pub returns-in_default : goal.returns-in_default
returns-in_default c = own_other c.args.e c.in_default.not-ReportTooShort
