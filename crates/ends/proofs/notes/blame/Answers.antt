-- `ends::notes::blame` meets its contract: the lower of two statements is kept.
use mathlib.Core.Path.{refl}
use Rattle.ends.proofs.notes.blame.Goals as goal

pub returns : goal.returns
returns c = record { full = refl; fault = c.lower_at.ensures; held = refl; deep = refl; wide = refl }
