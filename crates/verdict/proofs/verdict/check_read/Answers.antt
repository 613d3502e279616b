-- `verdict::verdict::check_read` meets its contract: the answer is the definition's.
use mathlib.Core.Path.{refl}
use Rattle.verdict.proofs.Checking.{read_refused, read_asks}
use native.Mathlib.Omega.{arith}
use Rattle.verdict.proofs.verdict.check_read.Goals as goal

pub check_report-requires : goal.check_report-requires
check_report-requires c =
    read_asks c.hear.ensures c.args.report.now c.requires.0 c.requires.1 refl (omega (arith, c.hear.auto.cells)) c.in-Ok.is

pub returns-in-Err : goal.returns-in-Err
returns-in-Err c = read_refused c.hear.ensures c.args.report.now c.in-Err.is
