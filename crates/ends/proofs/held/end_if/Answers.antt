-- From its steps (Holds).
use mathlib.Core.Path.{refl}
use Rattle.ends.proofs.Holds.{if_given, if_ends, if_short}
use Rattle.ends.proofs.held.end_if.Goals as goal

pub returns-in_err-merge : goal.returns-in_err-merge
returns-in_err-merge c =
    rw c.from_residual.ensures
    (if_short c.requires c.in_err-merge.ensures refl)

pub ask_whole-requires : goal.ask_whole-requires
ask_whole-requires c = if_given c.requires c.in_ok-merge.ensures refl

pub returns : goal.returns
returns c = if_ends c.requires c.in_ok-merge.ensures refl c.ask_whole.ensures
