-- `report::answer` meets its contract: what is printed is the text of the input.
use mathlib.Core.Path.{refl, ◌∙◌}
use mathlib.Core.List.{[]}
use Rattle.report.proofs.Whole.{by_firsts, input-refused, input-walked, was_read}
use Rattle.report.proofs.answer.Goals as goal
use Rattle.report.proofs.answer.Goals.{in-Err, in-Ok}

pub print-requires : goal.print-requires
print-requires g c =
    elim c.match-read.branch [
      | in-Err w ↦ rw w.outcome-is (by_firsts (record { starts = []; firsts = _ }) _ (input-refused c.args.input.now (rw (c.front-bytes.ensures, w.in-Err.is) at c.read_file-read.ensures)))
      | in-Ok w ↦
          rw (w.outcome-is, w.places-is, w.space-is) (by_firsts _ _ (input-walked c.args.input.now (c.new-file.ensures.bytes ∙ c.front-bytes.ensures) w.behind.ensures (rw (c.new-file.ensures.bytes, c.new-file.ensures.tables) (was_read (rw w.in-Ok.is at c.read_file-read.ensures) refl)) w.walk_read-outcome.ensures.text))
    ]
