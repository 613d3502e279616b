-- Whether the needs are within the bound, of what an ask answers.
use Rattle.std.specs.Prelude.{⊤, Bool, true, false, Option, Some, None}

abbrev pub fits : Option ⊤ → Bool
fits None = false
fits (Some u) = true
