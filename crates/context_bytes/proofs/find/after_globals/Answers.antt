-- `context_bytes::find::after_globals` meets its contract: one law for each way.
use Rattle.std.proofs.lemmas.List.{take_rest}
use Rattle.context_bytes.proofs.Found.{args_no_return, args_no_globals, args_here}
use Rattle.context_bytes.proofs.find.after_globals.Goals as goal

pub returns-in_err-lists : goal.returns-in_err-lists
returns-in_err-lists c = rw c.from_residual.ensures (args_no_return _ (rw (take_rest c.args.bytes.now 6) at c.in_err-lists.ensures))

pub returns-in_err-known : goal.returns-in_err-known
returns-in_err-known c =
    rw c.from_residual-in_err-known.ensures (args_no_globals _ (rw (take_rest c.args.bytes.now 6) at c.in_ok-lists.ensures) c.in_err-known.ensures)

pub returns : goal.returns
returns c = args_here _ (rw (take_rest c.args.bytes.now 6) at c.in_ok-lists.ensures) c.in_ok-known.ensures c.requires
