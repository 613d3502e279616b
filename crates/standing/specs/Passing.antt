-- What a pass carries along, as the definitions have it: with whether the bound was passed, in which case nothing else counts.
use Rattle.std.specs.Prelude.{ℕ, Bool, true, false, Option, Some, None}
use Rattle.standing.specs.declared.passing.Passing as declared

pub record Passing : Type 0 where
  pub full : Bool
  pub fault : Option ℕ
  pub held : Bool
  pub deep : Bool
  pub wide : Bool

-- within the bound
abbrev pub going : declared.Passing → Passing
going p = record { full = false; fault = p.fault; held = p.held; deep = p.deep; wide = p.wide }

-- what a stretch of a pass gives
abbrev pub outcome : Option declared.Passing → Passing
outcome None = record { full = true; fault = None; held = false; deep = false; wide = false }
outcome (Some p) = going p
