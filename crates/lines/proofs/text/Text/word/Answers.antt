-- `lines::text::Text::word` meets its contract. The loop has written the bytes before this one.
use Rattle.lines.proofs.Writing.{word_more}
use native.Mathlib.Omega.{arith}
use Rattle.lines.proofs.text.Text.word.Goals as goal

pub loop-b-preserved : goal.loop-b-preserved
loop-b-preserved c = word_more c.args.word.now (omega arith) c.loop-b.invariant c.byte.ensures
