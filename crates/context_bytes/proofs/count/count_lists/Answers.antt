-- `context_bytes::count::count_lists` meets its contract: one law for each way.
use Rattle.std.proofs.lemmas.List.{take_rest}
use Rattle.context_bytes.proofs.Counted.{no_return, no_globals, no_args, no_locals, pieces_are}
use Rattle.context_bytes.proofs.count.count_lists.Goals as goal

pub returns-in_err-r : goal.returns-in_err-r
returns-in_err-r c = rw c.from_residual.ensures (no_return _ (rw (take_rest c.args.bytes.now 6) at c.in_err-r.ensures))

pub returns-in_err-g : goal.returns-in_err-g
returns-in_err-g c = rw c.from_residual-in_err-g.ensures (no_globals _ (rw (take_rest c.args.bytes.now 6) at c.in_ok-r.ensures) c.in_err-g.ensures)

pub returns-in_err-x : goal.returns-in_err-x
returns-in_err-x c = rw c.from_residual-in_err-x.ensures (no_args _ (rw (take_rest c.args.bytes.now 6) at c.in_ok-r.ensures) c.in_ok-g.ensures c.in_err-x.ensures)

pub returns-in_err-l : goal.returns-in_err-l
returns-in_err-l c = rw c.from_residual-in_err-l.ensures (no_locals _ (rw (take_rest c.args.bytes.now 6) at c.in_ok-r.ensures) c.in_ok-g.ensures c.in_ok-x.ensures c.in_err-l.ensures)

pub returns : goal.returns
returns c = pieces_are _ (rw (take_rest c.args.bytes.now 6) at c.in_ok-r.ensures) c.in_ok-g.ensures c.in_ok-x.ensures c.in_ok-l.ensures
