-- `operands::made::ask_letters` meets its contract. The invariant: the asks from the number k on are done.
use mathlib.Core.Bool.{true}
use lib.ListN.{drop}
use Rattle.operands.specs.Rows.{scope_under, operands_in}
use Rattle.clearance.specs.Needs.{ask_picked}
use Rattle.operands.specs.Lists.{letters}
use Rattle.operands.specs.AsksAll.{wanted_in, AsksAll}
use Rattle.operands.proofs.made.ask_letters.Given as goal

abbrev pub invariant-loop-k : goal.invariant-loop-k
invariant-loop-k l = AsksAll (scope_under l.operands) (drop l.k (ask_picked (operands_in l.operands 0) (letters (operands_in l.operands)) 0 (wanted_in l.initial.cells l.initial.slots l.n))) l.initial.cells l.initial.slots l.n l.cells l.slots true
