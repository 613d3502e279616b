-- A slot's path, written to the first two words of what was lent.
use Rattle.std.specs.Prelude.{ℕ, ◌≡◌, List, length, take, drop}
use Rattle.clearance.specs.Scope.{Place}

pub record Written (place : Place) (before after : List ℕ) : Type 0 where
  pub is : take 2 after ≡ place
  pub rest : drop 2 after ≡ drop 2 before
  pub long : length after ≡ length before
