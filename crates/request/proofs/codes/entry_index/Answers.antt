-- `request::codes::entry_index` meets its contract: one law for each way.
use Rattle.request.proofs.Steps.{index_short, index_falls, index_absent, index_is}
use Rattle.request.proofs.codes.entry_index.Goals as goal
use Rattle.request.proofs.codes.entry_index.Goals.{then-i-low-via-then-i-low, then-i-low-via-else-i-low+then-i}

pub returns-in_err-i : goal.returns-in_err-i
returns-in_err-i c = rw c.from_residual.ensures (index_short c.in_err-i.ensures)

pub returns-then-i-low : goal.returns-then-i-low
returns-then-i-low c =
    elim c.then-i-low.branch [
      | then-i-low-via-then-i-low w ↦ index_falls c.in_ok-i.ensures w.if-i-low.true
      | then-i-low-via-else-i-low+then-i w ↦ index_absent c.in_ok-i.ensures w.if-i-low.false w.if-i.true
    ]

pub returns : goal.returns
returns c = index_is c.in_ok-i.ensures c.if-i-low.false c.if-i.false
