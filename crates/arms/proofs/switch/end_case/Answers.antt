-- `arms::switch::end_case` meets its contract: a join, and room for the next visit.
use mathlib.Core.Path.{refl}
use Rattle.arms.proofs.Switching.{case_over, case_tidies, case_joined}
use Rattle.arms.proofs.switch.end_case.Goals as goal

pub join-requires : goal.join-requires
join-requires c =
    record { memory = c.requires.memory; stack_slot_le_k = (c.requires.low, c.requires.high); room = c.requires.roomy }

pub returns-in_err-join : goal.returns-in_err-join
returns-in_err-join c = rw c.from_residual.ensures (case_over c.requires c.in_err-join.ensures refl)

pub tidy-requires : goal.tidy-requires
tidy-requires c =
    let q9 = case_tidies c.requires c.in_ok-join.ensures in
    record { memory = q9.0; slots_bound = q9.1 }

pub returns : goal.returns
returns c = case_joined c.requires c.in_ok-join.ensures refl c.tidy.ensures
