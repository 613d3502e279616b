-- `access::whole::unless_absent` meets its contract: by whether the number is absent.
use Rattle.std.proofs.Common.{sym}
use Rattle.access.proofs.Optional.{none_by, some_by}
use Rattle.access.proofs.whole.unless_absent.Goals as goal

pub returns-then-number : goal.returns-then-number
returns-then-number c = sym (none_by _ c.if-number.true)

pub returns : goal.returns
returns c = sym (some_by _ c.if-number.false)
