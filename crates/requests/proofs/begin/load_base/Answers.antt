-- `requests::begin::load_base` meets its contract.
use Rattle.requests.proofs.Basing.{based}
use Rattle.requests.proofs.begin.load_base.Goals as goal

pub returns : goal.returns
returns c = based c.requires c.returned-entry.ensures c.save_context.ensures
