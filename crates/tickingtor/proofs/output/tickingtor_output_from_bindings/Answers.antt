-- `tickingtor_output_from_bindings` meets its contract: it is what `output_in` answers over arrays of its own, as a number.
use Rattle.boundary.proofs.Answers.{answers}
use Rattle.tickingtor.proofs.output.tickingtor_output_from_bindings.Goals as goal

pub returns : goal.returns
returns c = answers c.output_in-told.ensures _ c.map_err.ensures.cases c.word_of.ensures
