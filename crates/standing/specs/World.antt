-- What a pass is given: a judged function of a module that was read, with the tables that were filled of it.
use Rattle.std.specs.Prelude.{ℕ, ◌<◌, ◌≡◌, Bool, true, List, length}
use Rattle.module.specs.Tables.{function_of}
use Rattle.access.specs.Access.{statement_at}
use Rattle.clearance.specs.Judged.{fits_statement}
use Rattle.judge.specs.Given.{scope_at, Given}
use Rattle.framed.specs.Given.{Read, Judged}

pub record World (bytes t : List ℕ) (f : ℕ) (types alike : List ℕ) (paths : List Bool) : Type 0 where
  pub given : Given bytes t f types alike paths
  pub read : Read (scope_at bytes t f)
  pub judged : Judged (scope_at bytes t f)
  pub fit : (n : ℕ) → n < length (function_of bytes t f).statements → fits_statement (scope_at bytes t f) (statement_at bytes t f n) ≡ true
