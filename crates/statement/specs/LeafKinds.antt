-- The kinds of the leaves.
use Rattle.std.specs.Prelude.{◌≡◌, ℕ, ◌≤◌}

-- it is no emit, holds no block, and calls no function
pub record LeafKind (kind : ℕ) : Type 0 where
  pub low : 5 ≤ kind
  pub no_call : kind ≡ 14 → ⊥
