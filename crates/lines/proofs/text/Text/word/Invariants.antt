-- `lines::text::Text::word` meets its contract. The loop has written the bytes before this one.
use lib.ListN.{take}
use Rattle.lines.specs.Wrote.{Writes}
use Rattle.lines.proofs.text.Text.word.Given as goal

abbrev pub invariant-loop-b : goal.invariant-loop-b
invariant-loop-b l = Writes l.initial.self l.self (take l.b-index l.word)
