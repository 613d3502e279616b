-- `slide_one` meets its contract.
use Rattle.part.proofs.Slides.{slid}
use Rattle.part.proofs.collect.slide_one.Goals as goal

pub returns : goal.returns
returns c =
    slid c.requires.cell_words_in_bounds c.word.ensures c.send-c.ensures c.word-2.ensures c.send-r.ensures c.word-3.ensures c.word-entries.ensures c.word-depth.ensures c.word-packed.ensures c.put.ensures c.set_word.ensures
