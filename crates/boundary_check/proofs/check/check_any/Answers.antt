-- `boundary_check::check::check_any` meets its contract: the file's refusal, or what is answered of the module that was read.
use mathlib.Core.Path.{refl}
use Rattle.field.proofs.Refusals.{some_number}
use Rattle.boundary_check.proofs.Checks.{file_read, file_refused, file_checked}
use borrow.Author.Rules.{rules}
use Rattle.boundary_check.proofs.check.check_any.Goals as goal

pub read_file-requires : goal.read_file-requires
read_file-requires c = search rules

pub returns-in-Err : goal.returns-in-Err
returns-in-Err c =
    file_refused c.in-Err.ensures c.args.request.now c.args.report.now c.args.context.now (some_number _)

pub check_in-requires : goal.check_in-requires
check_in-requires c = rw (c.new.ensures.bytes, c.new.ensures.tables) (file_read c.in_default.ensures refl)

pub returns : goal.returns
returns c =
    file_checked c.in_default.ensures c.args.request.now c.args.report.now c.args.context.now refl (rw (c.new.ensures.bytes, c.new.ensures.tables) at c.check_in.ensures)
