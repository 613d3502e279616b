-- `tickingtor_add_binding` meets its contract: it is what `add_in` answers over arrays of its own, as a number.
use Rattle.boundary.proofs.Answers.{answers}
use Rattle.tickingtor.proofs.add.tickingtor_add_binding.Goals as goal

pub returns : goal.returns
returns c = answers c.add_in-told.ensures _ c.map_err.ensures.cases c.word_of.ensures
