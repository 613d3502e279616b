-- What an accessor answers.
use Rattle.std.specs.Prelude.{ℕ, ◌≡◌}
use Rattle.module.specs.Module.{BlockRange}

-- a block's range by its two numbers
pub record RangeIs (range : BlockRange) (first count : ℕ) : Type 0 where
  pub is_first : first ≡ range.first
  pub is_count : count ≡ range.count
