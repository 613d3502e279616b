-- `expression::variables::global` meets its contract. Assumes nothing.
use mathlib.Core.Path.{refl}
use Rattle.memory.proofs.Joins.{got_gone, got_there}
use Rattle.expression.proofs.Globals.{visit_totalling, later_closing, later_15, later_ends, first_closing, first_ends}
use Rattle.expression.proofs.variables.global.Goals as goal

pub ask_global-r-requires : goal.ask_global-r-requires
ask_global-r-requires c = visit_totalling c.requires.visiting _ c.requires.g_lt_spine

pub close-requires : goal.close-requires
close-requires c =
    first_closing c.requires.visiting _ c.requires.g_lt_spine c.ask_global-r.ensures (got_gone c.args.cells.now _ c.in-None.is c.get-seen.ensures)

pub returns-then-over : goal.returns-then-over
returns-then-over c =
    λ bytes r. rw c.halt.ensures (later_15 c.requires.visiting _ c.requires.g_lt_spine c.ask_global-r.ensures (got_there c.args.cells.now _ c.in-Some.is c.get-seen.ensures).1 _ c.over.ensures c.if-over.true refl refl)

pub close-requires-in-Some : goal.close-requires-in-Some
close-requires-in-Some c =
    later_closing c.requires.visiting _ c.requires.g_lt_spine c.ask_global-r.ensures (got_there c.args.cells.now _ c.in-Some.is c.get-seen.ensures).1

pub returns-in-None : goal.returns-in-None
returns-in-None c =
    λ bytes r. first_ends c.requires.visiting _ c.requires.g_lt_spine c.ask_global-r.ensures (got_gone c.args.cells.now _ c.in-None.is c.get-seen.ensures) _ r c.close.ensures

pub returns-else-over : goal.returns-else-over
returns-else-over c =
    λ bytes r. later_ends c.requires.visiting _ c.requires.g_lt_spine c.ask_global-r.ensures (got_there c.args.cells.now _ c.in-Some.is c.get-seen.ensures).1 _ c.over.ensures c.if-over.false r c.close-in-Some.ensures
