-- `report::outcome::walk_function` meets its contract: the walk's refusal, 16 at its end, or a report in memory.
use Rattle.report.proofs.Walking.{walk_enters, walk_halted, walk_own, walk_sub, walk_over, walk_went}
use mathlib.Core.Path.{refl}
use Rattle.requests.proofs.Basing.{passed}
use borrow.Author.Rules.{rules}
use Rattle.report.proofs.outcome.walk_function.Goals as goal

pub add_function-requires : goal.add_function-requires
add_function-requires c = record { function_entered = walk_enters c.requires; base_bound = search rules }

pub check_totals-requires : goal.check_totals-requires
check_totals-requires c =
    let q9 = walk_own c.requires c.add_function.ensures c.in-Ok.is in
    record { memory = q9.0; own_bound = (q9.1, walk_sub c.requires c.add_function.ensures c.in-Ok.is) }

pub returns-in_err-check_totals-in-Ok : goal.returns-in_err-check_totals-in-Ok
returns-in_err-check_totals-in-Ok c =
    rw (passed c.from_residual.ensures.1, c.in_err-check_totals-in-Ok.ensures.0)
    (walk_over c.requires c.add_function.ensures c.in-Ok.is refl c.in_err-check_totals-in-Ok.ensures.1)

pub returns-in-Err : goal.returns-in-Err
returns-in-Err c = walk_halted c.requires c.add_function.ensures c.in-Err.is

pub returns-in_ok-check_totals-in-Ok : goal.returns-in_ok-check_totals-in-Ok
returns-in_ok-check_totals-in-Ok c =
    walk_went c.requires c.add_function.ensures c.in-Ok.is refl c.in_ok-check_totals-in-Ok.ensures
