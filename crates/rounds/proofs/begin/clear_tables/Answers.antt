-- `rounds::begin::clear_tables` meets its contract.
use Rattle.rounds.proofs.Tables.{cleared}
use Rattle.rounds.proofs.begin.clear_tables.Goals as goal

pub returns : goal.returns
returns c = cleared _ _ c.requires (c.fill.ensures.after (λ y e. e))
