-- `judge::tables::is_marked` meets its contract: by the definition.
use Rattle.std.proofs.Common.{rules}
use Rattle.judge.specs.Marked.{marked}
use Rattle.judge.proofs.tables.is_marked.Goals as goal

pub returns : goal.returns
unfolding marked
returns c = search rules
