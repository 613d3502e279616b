-- `request::write::write_variables` meets its contract.
use Rattle.request.proofs.Writing.{variables_room, variables_left, variables_writes}
use native.Mathlib.Omega.{arith}
use Rattle.request.proofs.write.write_variables.Goals as goal

pub field-requires : goal.field-requires
field-requires c = omega (arith, variables_room c.args.cells.now c.args.n c.args.writer.now c.requires.fits)

pub write_entries-requires : goal.write_entries-requires
write_entries-requires c =
    record { good = c.requires.good; n_bound = c.requires.n_bound; fits = variables_left c.args.cells.now c.args.n c.args.writer.now c.width.ensures c.field_of.ensures c.field.ensures c.requires.fits }

pub returns : goal.returns
returns c =
    variables_writes _ _ _ c.width.ensures c.field_of.ensures c.field.ensures c.write_entries.ensures
