-- `context::required_context::RequiredContext::get` meets its contract: the entry of the variable in its map.
use Rattle.context.proofs.Contexts.{map_there, map_has}
use Rattle.context.proofs.required_context.RequiredContext.get.Goals as goal

pub get-requires : goal.get-requires
get-requires c = record { good = c.requires.good; a_bound = rw c.entry_of-m.ensures.0 (map_there c.requires.has_context.0 c.args.var) }

pub returns : goal.returns
returns c = rw (c.entry_of-m.ensures.0, c.entry_of-m.ensures.1, map_has _ _ c.args.var) at c.get.ensures
