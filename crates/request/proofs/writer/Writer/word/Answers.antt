-- `request::writer::Writer::word` meets its contract.
use Rattle.request.proofs.Writing.{written_two}
use mathlib.Core.Path.{refl}
use Rattle.request.proofs.writer.Writer.word.Goals as goal

pub returns : goal.returns
returns c = record { same = refl; written = written_two c.args.value c.write_word.ensures }
