-- `sizes_of` meets its contract.
use Rattle.part.proofs.Measures.{sizes-of}
use mathlib.Core.Path.{refl}
use Rattle.part.proofs.store.sizes_of.Goals as goal

pub returns : goal.returns
returns c = sizes-of c.min-entries.ensures c.max-depth.ensures refl c.passes-over.ensures
