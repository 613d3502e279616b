-- The lowest that fails, as the code answers it.
use Rattle.std.specs.Prelude.{ℕ, Option, Some, None}
use Rattle.std.proofs.Math.Option.{Option as Maybe, some, none as nothing}

abbrev pub blamed : Option ℕ → Maybe ℕ
blamed None = nothing
blamed (Some n) = some n
