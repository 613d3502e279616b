-- `operands::made::ask_joined` meets its contract. The invariant: the asks from the number k on are done.
use mathlib.Core.Bool.{true}
use lib.ListN.{drop}
use Rattle.operands.specs.Rows.{scope_under, operands_in}
use mathlib.Core.List.{map}
use Rattle.clearance.specs.Needs.{ask_whole}
use Rattle.operands.specs.Lists.{components}
use Rattle.operands.specs.AsksAll.{AsksAll}
use Rattle.operands.proofs.made.ask_joined.Given as goal

abbrev pub invariant-loop-k : goal.invariant-loop-k
invariant-loop-k l = AsksAll (scope_under l.operands) (drop l.k (map ask_whole (components (operands_in l.operands)))) l.initial.cells l.initial.slots l.n l.cells l.slots true
