-- `forms::trim::trim_globals` meets its contract: the map, and the frame's entry for it.
use Rattle.forms.proofs.Trimming.{globals_trimmed}
use Rattle.forms.proofs.trim.trim_globals.Goals as goal

pub returns : goal.returns
returns c =
    globals_trimmed _ _ _ _ c.trim_map-m.ensures c.keep.ensures
