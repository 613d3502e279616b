-- What the code reads in a list of bindings.
use Rattle.std.specs.Prelude.{◌≡◌, true, false, List, ℕ, Option, Some, None}
use Rattle.bindings.specs.Bindings.{set_of}
use Rattle.bindings.specs.ContextBindings.{are_bindings}

abbrev pub SetIs : List ℕ → Option ℕ → Type 0
SetIs bs None = are_bindings bs ≡ false
SetIs bs (Some s) = (are_bindings bs ≡ true) × (s ≡ set_of bs)
