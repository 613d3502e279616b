-- `variable_type` meets its contract: by the kind of the variable.
use Rattle.target.proofs.Taking.{global-type, local_type}
use Rattle.target.proofs.store.variable_type.Goals as goal

pub returns-in-Global : goal.returns-in-Global
returns-in-Global c = global-type _ _ _ c.in-Global.is c.requires.sees c.global.ensures

pub returns-in-Local : goal.returns-in-Local
returns-in-Local c = local_type _ _ _ c.requires.f_in_bounds c.in-Local.is c.requires.sees c.local.ensures
