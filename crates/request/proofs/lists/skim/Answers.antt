-- `request::lists::skim` meets its contract: the loop's invariant says that what is left gives the whole.
use Prim.Native.Nat.{◌-◌}
use mathlib.Core.Path.{◌≡◌}
use native.Mathlib.Omega.{arith}
use Rattle.request.proofs.Entries.{pred_of}
use Rattle.request.proofs.Steps.{index_read, index_refused}
use Rattle.request.proofs.Variables.{skim_first, skim_none, skim_no_part, skim_room, skim_done, skim_again}
use Rattle.request.proofs.lists.skim.Goals as goal

pub loop-init : goal.loop-init
loop-init c =
    let e : c.args.n - 0 ≡ c.args.n = omega arith in rw e (skim_first _ _ _ c.requires.good)

pub returns-in_err-i : goal.returns-in_err-i
returns-in_err-i c =
    rw c.from_residual.ensures (skim_none c.loop.invariant (index_refused (omega arith) c.in_err-i.ensures _ _))

pub read_part-requires-clause-good : goal.read_part-requires-clause-good
read_part-requires-clause-good c = c.loop.invariant.kept.good

pub read_part-requires-clause-room : goal.read_part-requires-clause-room
read_part-requires-clause-room c =
    skim_room c.loop.invariant (index_read {n = c.args.n - c.loop.counter} (pred_of _ (omega arith)) c.in_ok-i.ensures) c.requires.room

pub returns-in_err-p : goal.returns-in_err-p
returns-in_err-p c =
    rw c.from_residual-in_err-p.ensures
    (skim_no_part c.loop.invariant (index_read (pred_of _ (omega arith)) c.in_ok-i.ensures) c.in_err-p.ensures)

pub overflow_add-least : goal.overflow_add-least
overflow_add-least c = omega (arith, index_read {n = c.args.n - c.loop.counter} (pred_of _ (omega arith)) c.in_ok-i.ensures)

pub loop-preserved : goal.loop-preserved
loop-preserved c =
    skim_again c.loop.invariant (index_read (omega arith) c.in_ok-i.ensures) c.in_ok-p.ensures

pub returns : goal.returns
returns c = skim_done c.loop.invariant (omega arith)
