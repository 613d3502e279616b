-- `pruner::totals::write_pruner` meets its contract: the body, then the header before it.
use mathlib.Core.Path.{refl, ◌∙◌}
use Rattle.memory.specs.Layout.{globals_slot}
use Rattle.memory.proofs.Slots.{slot_low}
use Rattle.pruner.proofs.Whole.{globals_fit, functions_fit, head_room, pruner-written}
use native.Mathlib.Omega.{arith}
use borrow.Author.Rules.{rules}
use Rattle.pruner.proofs.totals.write_pruner.Goals as goal

pub write_variables-requires : goal.write_variables-requires
write_variables-requires c =
    record { good = c.requires.has_totals.memory.good; n_bound = (slot_low c.requires.has_totals.memory globals_slot (omega arith)).1; fits = globals_fit c.requires.has_totals c.args.out.now c.requires.min_pruner_in_bounds.0 c.requires.min_pruner_in_bounds.1 }

pub write_functions-requires : goal.write_functions-requires
write_functions-requires c = record { has_totals = c.requires.has_totals; fits = functions_fit c.requires.has_totals c.args.out.now c.requires.min_pruner_in_bounds.0 c.requires.min_pruner_in_bounds.1 refl refl c.write_variables.ensures }

pub head-requires : goal.head-requires
head-requires c = head_room c.requires.has_totals c.args.out.now c.requires.min_pruner_in_bounds.0 c.requires.min_pruner_in_bounds.1 refl refl c.write_variables.ensures c.write_functions.ensures

pub returns : goal.returns
returns c = search rules ∙ pruner-written c.requires.has_totals c.args.out.now c.requires.min_pruner_in_bounds.0 c.requires.min_pruner_in_bounds.1 refl refl c.write_variables.ensures c.write_functions.ensures c.head.ensures.is
