-- `context::required_context::RequiredContext::remove` meets its contract: by what is left of the variable's map, then by its kind.
use mathlib.Core.Path.{refl}
use Rattle.context.proofs.Contexts.{map_asks, map_panics, globals_left, locals_left}
use Rattle.context.proofs.required_context.RequiredContext.remove.Goals as goal

pub alter-requires : goal.alter-requires
alter-requires c =
    let q9 = map_asks c.args.var c.requires.good c.requires.has_context.0 c.requires.has_context.1.1 c.requires.room in
    rw c.entry_of-m.ensures.0 (record { good = q9.0; m_bound = q9.1.0; room = q9.1.1 })

pub returns-in_err-left : goal.returns-in_err-left
returns-in_err-left c =
    rw c.from_residual.ensures (map_panics _ _ _ c.requires.has_context.0 c.args.var (rw (c.entry_of-m.ensures.0, c.entry_of-m.ensures.1) at c.in_err-left.ensures) refl)

pub returns-in-Global : goal.returns-in-Global
returns-in-Global c =
    globals_left _ _ _ c.requires.has_context.0 (rw (c.entry_of-m.ensures.0, c.entry_of-m.ensures.1) at c.in_ok-left.ensures) refl c.in-Global.is

pub returns-in-Local : goal.returns-in-Local
returns-in-Local c =
    locals_left _ _ _ c.requires.has_context.0 (rw (c.entry_of-m.ensures.0, c.entry_of-m.ensures.1) at c.in_ok-left.ensures) refl c.in-Local.is
