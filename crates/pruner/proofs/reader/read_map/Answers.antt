-- `pruner::reader::read_map` meets its contract: one law for each way.
use Rattle.pruner.proofs.Pieces.{map_refused, map_unknown, map_read}
use Rattle.pruner.proofs.reader.read_map.Goals as goal

pub read_variables-requires : goal.read_variables-requires
read_variables-requires c =
    record { good = c.requires.good; room = c.requires.room; limit_le_absent = c.requires.limit_le_absent }

pub returns-in_err-o : goal.returns-in_err-o
returns-in_err-o c = rw c.from_residual.ensures (map_refused c.args.limit _ c.in_err-o.ensures)

pub returns-in_err-p : goal.returns-in_err-p
returns-in_err-p c = rw c.from_residual-in_err-p.ensures (map_unknown c.args.limit _ c.in_ok-o.ensures c.in_err-p.was)

pub returns : goal.returns
returns c = map_read c.args.limit _ c.in_ok-o.ensures c.in_ok-p.was
