-- From its steps (Holds).
use mathlib.Core.Path.{refl}
use Rattle.ends.proofs.Holds.{loop_plain, loop_short, loop_given, loop_begins}
use Rattle.ends.proofs.held.begin_loop.Goals as goal

pub returns-in_default : goal.returns-in_default
returns-in_default c = loop_plain c.requires c.in_default.is c.copy.ensures

pub returns-in_err-push_sum : goal.returns-in_err-push_sum
returns-in_err-push_sum c =
    rw c.from_residual.ensures
    (loop_short c.requires c.in-Some.is c.in_err-push_sum.ensures refl)

pub ask_whole-requires : goal.ask_whole-requires
ask_whole-requires c = loop_given c.requires c.in-Some.is c.in_ok-push_sum.ensures refl

pub returns : goal.returns
returns c = loop_begins c.requires c.in-Some.is c.in_ok-push_sum.ensures refl c.ask_whole.ensures
