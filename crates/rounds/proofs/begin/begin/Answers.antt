-- `rounds::begin::begin` meets its contract (Begun).
use Rattle.rounds.proofs.Begun.{begun}
use Rattle.rounds.proofs.begin.begin.Goals as goal

pub returns : goal.returns
returns c =
    begun c.args.file.now.bytes c.args.file.now.t c.args.types.now.rows.now c.args.f.0 c.requires.same c.requires.pieces c.trim_value-v.ensures c.trim_globals-e.ensures c.clear_tables.ensures
