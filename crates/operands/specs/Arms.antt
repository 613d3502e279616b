-- What is asked of an expression's operands, and what the code of that is given.
use Rattle.std.specs.Prelude.{ℕ, ◌+◌, ◌-◌, ◌<◌, ◌≤◌, ◌≡◌, Bool, true, List, length}
use Rattle.part.specs.PartReq.{PartReq}
use Rattle.module.specs.Tables.{function_of}
use Rattle.access.specs.declared.kinded.Kinded.{Kinded}
use Rattle.access.specs.Access.{operand_at}
use Rattle.clearance.specs.Scope.{Scope, shape_of, type_of, arm}
use Rattle.clearance.specs.Needs.{Ask, asks, gives}
use Rattle.clearance.specs.IsNeed.{IsNeed}
use Rattle.judge.specs.Given.{scope_at, Row}
use Rattle.framed.specs.Kept.{Kept}
use Rattle.hold.specs.Hold.{in_slot, Live}
use Rattle.standing.specs.World.{World}
use Rattle.operands.specs.AsksAll.{wanted_in, ListGiven, AsksAll}
use Rattle.judge.specs.declared.subject.Subject.{Subject}
use Rattle.judge.specs.declared.expression.SubjectExpression.{SubjectExpression}

-- the operands of an expression
abbrev pub operands_of : SubjectExpression → ℕ → ℕ
operands_of x = operand_at x.subject.now.file.now.bytes x.row

-- what the need a of the expression e asks
abbrev pub asks_of : Scope → ℕ → PartReq → List Ask
asks_of S e a = asks S (arm S e) a

-- The last of n slots has the needs at hand, the one before it the part that is needed of the expression e.
pub record OperandsGiven (bytes t : List ℕ) (f : ℕ) (types alike : List ℕ) (paths : List Bool) (s rs : List ℕ) (n e : ℕ) : Type 0 where
  pub world : World bytes t f types alike paths
  pub there : e < length (function_of bytes t f).expressions
  pub gives : gives (arm (scope_at bytes t f) e) ≡ true
  pub live : Live s rs n
  pub two : 2 ≤ n
  pub spare : n + 2 ≤ length rs
  pub need : Kept (scope_at bytes t f) (in_slot s rs (n - 1))
  pub wanted : IsNeed (shape_of (scope_at bytes t f) (type_of (scope_at bytes t f) e)) (wanted_in s rs n)

abbrev pub OperandsGivenOf : Subject → List ℕ → List ℕ → ℕ → ℕ → Type 0
OperandsGivenOf j s rs n e = OperandsGiven j.file.now.bytes j.file.now.t j.f.0 j.types.now j.alike.now j.paths.now s rs n e

-- the same, with the expression's row
pub record ArmGiven (bytes t : List ℕ) (f : ℕ) (types alike : List ℕ) (paths : List Bool) (e : ℕ) (row : Kinded) (s rs : List ℕ) (n : ℕ) : Type 0 where
  pub expression : Row bytes t f types alike paths e row
  pub gives : gives (arm (scope_at bytes t f) e) ≡ true
  pub asks : ListGiven (scope_at bytes t f) (asks_of (scope_at bytes t f) e (wanted_in s rs n)) s rs n

abbrev pub ArmGivenOf : SubjectExpression → List ℕ → List ℕ → ℕ → Type 0
ArmGivenOf x s rs n = ArmGiven x.subject.now.file.now.bytes x.subject.now.file.now.t x.subject.now.f.0 x.subject.now.types.now x.subject.now.alike.now x.subject.now.paths.now x.e.0 x.row s rs n

-- all of it was asked
abbrev pub AsksOperands : List ℕ → List ℕ → (f e : ℕ) → (s rs : List ℕ) → ℕ → (u us : List ℕ) → Bool → Type 0
AsksOperands bytes t f e s rs n u us r = AsksAll (scope_at bytes t f) (asks_of (scope_at bytes t f) e (wanted_in s rs n)) s rs n u us r

-- a path has room for every pointer's, and is no longer than a step allows
pub record PathRoom (bytes t : List ℕ) (f : ℕ) (path : List ℕ) : Type 0 where
  pub enough : length (function_of bytes t f).expressions + 2 ≤ length path
  pub few : length path ≤ 1026
