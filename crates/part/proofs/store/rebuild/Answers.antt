-- `rebuild` meets its contract.
use Rattle.part.proofs.Chains.{relink_asked, rebuilt_anew}
use Rattle.part.proofs.store.rebuild.Goals as goal

pub relink-requires : goal.relink-requires
relink-requires c =
    let q9 = relink_asked c.requires.formed c.requires.distinct c.empty.ensures in
    record { formed = q9.0; distinct = q9.1.0; linked = q9.1.1 }

pub returns : goal.returns
returns c = rebuilt_anew c.requires.formed c.requires.distinct c.empty.ensures c.relink.ensures
