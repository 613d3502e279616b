-- Two contexts above the current one, as two blocks leave them: joined in its place, or forgotten.
use Rattle.std.specs.Prelude.{Bool, List, ℕ, ◌+◌}
use Rattle.block.specs.Saved.{Lowered, Dropped, Joined}

-- they are joined, and the join takes the place of the context at k; whether a limit is passed
pub record JoinedUp (s rs : List ℕ) (k : ℕ) (r : Bool) (u us : List ℕ) : Type 0 where
  pub between : List ℕ
  pub joined : Joined s rs (k + 4) r u between
  pub lowered : Lowered between k us

-- whatever the store: both are cleared
pub record BothDropped (rs : List ℕ) (k : ℕ) (us : List ℕ) : Type 0 where
  pub between : List ℕ
  pub upper : Dropped rs (k + 4) between
  pub lower : Dropped between k us
