-- `tickingtor_input_to_bindings` meets its contract: it is what `input_in` answers over arrays of its own, as a number.
use Rattle.boundary.proofs.Answers.{answers}
use Rattle.tickingtor.proofs.input.tickingtor_input_to_bindings.Goals as goal

pub returns : goal.returns
returns c = answers c.input_in-told.ensures _ c.map_err.ensures.cases c.word_of.ensures
