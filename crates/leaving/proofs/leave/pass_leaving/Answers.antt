-- By the statement's kind (ByKind).
use Rattle.std.proofs.Common.{rules}
use Rattle.leaving.proofs.ByKind.{leaves_broke, leaves_continue, leaves_nothing}
use Rattle.leaving.proofs.leave.pass_leaving.Goals as goal

pub returns-in-Ok-Continue : goal.returns-in-Ok-Continue
returns-in-Ok-Continue c = leaves_continue c.requires.leave_given (search rules) c.copy.ensures

pub returns-in-Ok-Break : goal.returns-in-Ok-Break
returns-in-Ok-Break c = leaves_broke c.requires.leave_given (search rules) c.copy-in-Ok-Break.ensures

pub returns-in-Ok : goal.returns-in-Ok
returns-in-Ok c = leaves_nothing c.requires.leave_given (search rules) (search rules) c.requires.lt_kind.1
