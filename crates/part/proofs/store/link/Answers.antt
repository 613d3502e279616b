-- `link` meets its contract.
use mathlib.Core.Path.{refl}
use Rattle.part.proofs.Chains.{chained}
use Rattle.part.proofs.store.link.Goals as goal

pub returns : goal.returns
returns c =
    chained c.requires c.word.ensures c.word-2.ensures c.word-3.ensures c.hash-h.ensures.0 refl c.set_word.ensures
