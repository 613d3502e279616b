-- The lower of two that may be absent.
use Rattle.std.specs.Prelude.{ℕ}
use Rattle.std.proofs.Math.Option.{Option, some, none as nothing}
use Rattle.clearance.specs.Judged.{lower}

unfoldable pub lower_of : Option ℕ → Option ℕ → Option ℕ
lower_of nothing o = o
lower_of (some n) o = lower n o
