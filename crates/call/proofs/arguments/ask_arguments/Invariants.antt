-- `call::arguments::ask_arguments` meets its contract. Assumes nothing.
use mathlib.Core.Path.{◌≡◌}
use lib.ListN.{length}
use Rattle.std.specs.Prelude.{Ok}
use Rattle.call.specs.Calls.{AskedArguments}
use Rattle.call.proofs.arguments.ask_arguments.Given as goal

abbrev pub invariant-loop-i : goal.invariant-loop-i
invariant-loop-i l = AskedArguments l.file.bytes l.file.t l.initial.cells l.initial.slots l.fr l.row l.fn.began.visits l.i (Ok l.tally) l.cells l.slots × ((length l.cells ≡ length l.initial.cells) × (length l.slots ≡ length l.initial.slots))
