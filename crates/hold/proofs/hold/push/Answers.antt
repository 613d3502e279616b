-- `hold::hold::push` meets its contract.
use Rattle.hold.proofs.Pushes.{fits_some, pushed_once, pushed_cleaned}
use Rattle.hold.proofs.hold.push.Goals as goal

pub returns-then-cells : goal.returns-then-cells
returns-then-cells c = pushed_once c.requires.loose c.requires.n_in_bounds c.requires.p_bound c.if-cells.true

pub returns : goal.returns
returns c =
    rw (← fits_some _ c.then_some.ensures) (pushed_cleaned c.requires.loose c.requires.n_in_bounds c.requires.p_bound c.clean.ensures)
