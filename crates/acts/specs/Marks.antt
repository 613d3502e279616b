-- What has the mark of an act, in a pass: what it is given, and what it comes to.
use Rattle.std.specs.Prelude.{ℕ, ◌+◌, ◌-◌, ◌≤◌, ◌≡◌, Bool, false, List, length}
use Rattle.module.specs.Tables.{function_of}
use Rattle.clearance.specs.Scope.{Scope}
use Rattle.clearance.specs.Tree.{Act, act, marked, emits}
use Rattle.judge.specs.Given.{scope_at}
use Rattle.standing.specs.Slots.{Ready}
use Rattle.standing.specs.Standing.{Targets, inside, Walked}
use Rattle.standing.specs.World.{World}
use Rattle.standing.specs.Passing.{Passing}
use Rattle.standing.specs.Exits.{Exits}
use Rattle.judge.specs.declared.subject.Subject.{Subject}

-- what a marked act is given: a copy of the needs at hand takes one slot more than an act
pub record PassGiven (bytes t : List ℕ) (f : ℕ) (types alike : List ℕ) (paths : List Bool) (s rs path : List ℕ) (n : ℕ) (p : Passing) : Type 0 where
  pub world : World bytes t f types alike paths
  pub ready : Ready (scope_at bytes t f) s rs n
  pub going : p.full ≡ false
  pub spare : n + 7 ≤ length rs
  pub room : length (function_of bytes t f).expressions + 2 ≤ length path

abbrev pub PassGivenOf : Subject → List ℕ → List ℕ → List ℕ → ℕ → Passing → Type 0
PassGivenOf j s rs path n p = PassGiven j.file.now.bytes j.file.now.t j.f.0 j.types.now j.alike.now j.paths.now s rs path n p

-- the act x of the statement l, with the mark m, whatever the mark's position and the exits; a lent path is as long as it was
pub record ByMark (S : Scope) (l : ℕ) (m : Bool) (x : Act) (s rs : List ℕ) (n : ℕ) (p : Passing) (t us before after : List ℕ) (q : Passing) : Type 0 where
  pub cells : length t ≡ length s
  pub slots : length us ≡ length rs
  pub ready : q.full ≡ false → Ready S t us n
  pub each : (e : Exits) (mark : ℕ) → Targets n e → Walked S (inside (marked l mark m (act x))) s rs n e p t us q
  pub long : length after ≡ length before

-- the expressions of the emit l from the first to the last, whatever the exits
pub record EmitsPassed (S : Scope) (marks : List ℕ) (l first last : ℕ) (s rs : List ℕ) (n : ℕ) (p : Passing) (t us before after : List ℕ) (q : Passing) : Type 0 where
  pub ready : q.full ≡ false → Ready S t us n
  pub each : (e : Exits) → Targets n e → Walked S (inside (emits S.function marks l first 0 ((last + 1) - first))) s rs n e p t us q
  pub long : length after ≡ length before
