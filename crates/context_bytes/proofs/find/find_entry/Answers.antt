-- `context_bytes::find::find_entry` meets its contract: one law for each way. What is left has the same entry (`Finding`).
use Prim.Native.Nat.{◌-◌}
use mathlib.Core.Path.{◌≡◌}
use native.Mathlib.Omega.{arith}
use Rattle.request.proofs.Entries.{pred_of}
use Rattle.request.proofs.Steps.{index_read, index_refused}
use Rattle.context_bytes.proofs.Found.{finding_first, finding_stop, finding_before, finding_here, finding_no_part, finding_again, finding_done}
use Rattle.context_bytes.proofs.find.find_entry.Goals as goal

pub loop-init : goal.loop-init
loop-init c = let e : c.args.n - 0 ≡ c.args.n = omega arith in rw e (finding_first _ _ _ _)

pub returns-in_err-j : goal.returns-in_err-j
returns-in_err-j c = rw c.from_residual.ensures (finding_stop c.loop.invariant (index_refused (omega arith) c.in_err-j.ensures _))

pub returns-then-i-j : goal.returns-then-i-j
returns-then-i-j c =
    finding_before c.loop.invariant (index_read (pred_of _ (omega arith)) c.in_ok-j.ensures) c.if-i-j.true

pub returns-then-i-j-2 : goal.returns-then-i-j-2
returns-then-i-j-2 c =
    finding_here c.loop.invariant (index_read (pred_of _ (omega arith)) c.in_ok-j.ensures) c.if-i-j-2.true

pub returns-in_err-end : goal.returns-in_err-end
returns-in_err-end c =
    rw c.from_residual-in_err-end.ensures (finding_no_part c.loop.invariant (index_read (pred_of _ (omega arith)) c.in_ok-j.ensures) c.in_err-end.ensures)

pub loop-preserved : goal.loop-preserved
loop-preserved c =
    finding_again c.loop.invariant (index_read (omega arith) c.in_ok-j.ensures) c.in_ok-end.ensures c.if-i-j.false c.if-i-j-2.false

pub returns : goal.returns
returns c = finding_done c.loop.invariant (omega arith)
