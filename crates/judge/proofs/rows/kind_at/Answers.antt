-- `judge::rows::kind_at` meets its contract: a number past the last is an opaque type's.
use mathlib.Core.Path.{refl}
use Rattle.judge.proofs.TypeRows.{number_least}
use Rattle.judge.proofs.rows.kind_at.Goals as goal

pub returns : goal.returns
returns c = number_least _ _ refl c.type_kind.ensures
