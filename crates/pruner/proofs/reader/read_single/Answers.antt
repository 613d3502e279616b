-- `pruner::reader::read_single` meets its contract: one law for each way.
use Rattle.pruner.proofs.Pieces.{single_refused, single_none, single_held, single_room, single_made}
use native.Mathlib.Omega.{arith}
use Rattle.pruner.proofs.reader.read_single.Goals as goal

pub read_return-requires : goal.read_return-requires
read_return-requires c =
    record { good = c.requires.good; room = omega (arith, c.requires.room) }

pub returns-in_err-o : goal.returns-in_err-o
returns-in_err-o c = rw c.from_residual.ensures (single_refused c.args.index _ c.in_err-o.ensures)

pub returns-in_default : goal.returns-in_default
returns-in_default c = single_none c.args.index _ c.in_ok-o.ensures c.in_default.is

pub make-requires : goal.make-requires
make-requires c =
    let was = c.in_ok-o.ensures in
    record { good = was.kept.good; room = single_room c.args.index _ was c.in-Some.is c.requires.room; child_bound = (single_held c.args.index _ was c.in-Some.is, omega (arith, was.kept.good.base)) }

pub returns : goal.returns
returns c = single_made c.args.index _ c.in_ok-o.ensures c.in-Some.is c.make.ensures
