-- `judge::values::is_path` meets its contract: by the table.
use Rattle.judge.proofs.ValueRows.{path_is}
use Rattle.judge.proofs.values.is_path.Goals as goal

pub returns : goal.returns
returns c = path_is _ _ _ c.requires _ c.is_marked.ensures
