-- A module that was read: the file's bytes, and the tables that were made of them.
use Rattle.std.specs.Prelude.{ℕ, List}

pub record File : Type 0 where
  pub bytes : List ℕ
  pub t : List ℕ
