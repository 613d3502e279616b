-- `bindings::outputs::returned_from` meets its contract: the result's piece, where there is a result and it comes to something.
use mathlib.Core.Path.{refl}
use Rattle.bindings.proofs.Returning.{bound_result, no_result, entry_none, entry_made}
use borrow.Author.Rules.{rules}
use Rattle.bindings.proofs.outputs.returned_from.Goals as goal

pub returns-in_default : goal.returns-in_default
returns-in_default c = no_result _ _ _ c.requires.good c.in_default.is

pub from_binding-requires-clause-bound : goal.from_binding-requires-clause-bound
from_binding-requires-clause-bound c = bound_result _ c.in-Some.is c.requires.bound_result.0

pub returns-in_default-from_binding : goal.returns-in_default-from_binding
returns-in_default-from_binding c =
    entry_none _ _ _ c.from_table.ensures c.in_default-from_binding.ensures (search rules) c.in-Some.is (search rules) refl

pub returns : goal.returns
returns c =
    entry_made _ _ _ c.from_table.ensures c.in-Some-from_binding.ensures (search rules) c.in-Some.is (search rules) refl c.make.ensures
