-- What a statement that leaves is given, and what a pass comes to there, whatever the marks and the other blocks.
use Rattle.std.specs.Prelude.{ℕ, ◌+◌, ◌<◌, ◌≤◌, ◌≡◌, Bool, false, List, length, get_or}
use Rattle.module.specs.Module.{BlockHandle, Kill}
use Rattle.module.specs.Tables.{function_of}
use Rattle.access.specs.declared.kinded.Kinded.{Kinded}
use Rattle.access.specs.Access.{statement_row}
use Rattle.clearance.specs.Tree.{Tree, statement}
use Rattle.judge.specs.Given.{scope_at}
use Rattle.standing.specs.Slots.{Ready}
use Rattle.standing.specs.Standing.{Targets, inside, Walked}
use Rattle.standing.specs.World.{World}
use Rattle.standing.specs.Passing.{Passing}
use Rattle.standing.specs.Exits.{Exits}
use Rattle.judge.specs.declared.subject.Subject.{Subject}

pub record LeaveGiven (bytes t : List ℕ) (f : ℕ) (types alike : List ℕ) (paths : List Bool) (s rs : List ℕ) (n : ℕ) (x : Exits) (p : Passing) (l : ℕ) (row : Kinded) : Type 0 where
  pub world : World bytes t f types alike paths
  pub ready : Ready (scope_at bytes t f) s rs n
  pub targets : Targets n x
  pub going : p.full ≡ false
  pub spare : n + 2 ≤ length rs
  pub there : l < length (function_of bytes t f).statements
  pub is : row ≡ statement_row bytes t f l

abbrev pub LeaveGivenOf : Subject → List ℕ → List ℕ → ℕ → Exits → Passing → ℕ → Kinded → Type 0
LeaveGivenOf j s rs n x p l row = LeaveGiven j.file.now.bytes j.file.now.t j.f.0 j.types.now j.alike.now j.paths.now s rs n x p l row

pub record Leaves (bytes t : List ℕ) (f : ℕ) (s rs : List ℕ) (n : ℕ) (x : Exits) (p : Passing) (l : ℕ) (u ws : List ℕ) (q : Passing) : Type 0 where
  pub is : (marks : List ℕ) (block : BlockHandle → Tree) →
      Walked (scope_at bytes t f) (inside (statement (function_of bytes t f) marks block l (get_or (function_of bytes t f).statements l Kill))) s rs n x p u ws q
