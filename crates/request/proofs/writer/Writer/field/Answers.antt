-- `request::writer::Writer::field` meets its contract.
use Rattle.request.proofs.Writing.{written_one}
use mathlib.Core.Path.{refl}
use Rattle.request.proofs.writer.Writer.field.Goals as goal

pub returns : goal.returns
returns c = record { same = refl; written = written_one c.write.ensures }
