-- `bindings::outputs::from_binding` meets its contract: by whether there is a binding, and whether it is required.
use native.Mathlib.Omega.{arith}
use mathlib.Core.Path.{refl, sym, ◌∙◌}
use Rattle.bindings.proofs.Members.{chosen_all, chosen_none, chosen_past, chosen_empty, chosen_type}
use Rattle.bindings.proofs.outputs.from_binding.Goals as goal

pub contains-requires : goal.contains-requires
contains-requires c = rw c.in-Some.is at c.requires.bound

pub returns-then-contains : goal.returns-then-contains
returns-then-contains c = chosen_all _ _ _ _ c.in-Some.is (sym c.contains.ensures ∙ c.if-contains.true)

pub returns-else-contains : goal.returns-else-contains
returns-else-contains c = chosen_none _ _ _ _ c.in-Some.is (sym c.contains.ensures ∙ c.if-contains.false)

pub returns-then-t-x : goal.returns-then-t-x
returns-then-t-x c = chosen_past _ _ _ _ c.in-None.is c.if-t-x.true

pub returns-then-p-eq-EMPTY_PIECE : goal.returns-then-p-eq-EMPTY_PIECE
returns-then-p-eq-EMPTY_PIECE c = chosen_empty _ _ _ _ c.in-None.is (omega (arith, c.if-t-x.false)) refl c.if-p-eq-EMPTY_PIECE.true

pub returns-else-p-eq-EMPTY_PIECE : goal.returns-else-p-eq-EMPTY_PIECE
returns-else-p-eq-EMPTY_PIECE c = chosen_type _ _ _ _ c.in-None.is (omega (arith, c.if-t-x.false)) refl c.if-p-eq-EMPTY_PIECE.false
