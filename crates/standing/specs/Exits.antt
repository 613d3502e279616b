-- The slots of the needs after a break, a continue and a return.
use Rattle.std.specs.Prelude.{ℕ}
use Rattle.strays.specs.declared.exits.Exits.{Exits as ExitsOf}

abbrev pub Exits : Type 0
Exits = ExitsOf ℕ
