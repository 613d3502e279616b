-- `verdict::heard::refused_first` meets its contract: 11 alone looks at the context.
use Rattle.verdict.specs.Heard.{refused_first}
use Rattle.verdict.proofs.Hearing.{first_other}
use Rattle.verdict.proofs.heard.refused_first.Goals as goal

pub returns-in-NoSuch : goal.returns-in-NoSuch
unfolding refused_first
returns-in-NoSuch c = rw c.in-NoSuch.is c.without_function.ensures

pub returns-in_default : goal.returns-in_default
returns-in_default c = first_other c.args.e _ c.in_default.not-NoSuch
