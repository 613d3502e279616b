-- `request::lists::returned` meets its contract.
use Rattle.request.proofs.Variables.{returned_none, returned_part, held_piece}
use native.Mathlib.Omega.{arith}
use Rattle.request.proofs.lists.returned.Goals as goal

pub make-requires : goal.make-requires
make-requires c =
    record { good = c.requires.good; room = c.requires.room.0; child_bound = (held_piece c.args.cells.now c.in-Some.is c.requires.room.1, omega (arith, c.requires.good.base)) }

pub returns-in-None : goal.returns-in-None
returns-in-None c = returned_none c.requires.good c.in-None.is

pub returns-in-Some : goal.returns-in-Some
returns-in-Some c = returned_part c.in-Some.is c.make.ensures
