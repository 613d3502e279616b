-- `lines::contexts::write_variables` meets its contract. The entries that the iterator still gives are left to write.
use Rattle.part.specs.Store.{part}
use Rattle.part.proofs.Listing.{On}
use Rattle.lines.specs.Text.{variables_text}
use Rattle.lines.proofs.Along.{Along}
use Rattle.lines.proofs.contexts.write_variables.Given as goal

abbrev pub invariant-loop-x : goal.invariant-loop-x
invariant-loop-x l = On l.cells l.x-iterator × Along l.initial.text l.text (variables_text l.word (part l.cells l.map)) (variables_text l.word (part l.cells l.x-iterator.rest))
