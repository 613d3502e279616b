-- What the laws take for given of a function within its module: what reading guarantees, and that it is judged.
use Rattle.std.specs.Prelude.{◌<◌, ◌≡◌, true, length}
use Rattle.module.specs.Module.{ExpressionHandle}
use Rattle.valid.specs.Valid.{OperandsBelow, NamesBelow}
use Rattle.clearance.specs.Scope.{Scope, expressions_of, typed}
use Rattle.clearance.specs.Judged.{judged_expression}
use Rattle.judge.specs.Alike.{Lower}

-- a type's bases are lower than it, operands lower than their expression, and what is named is there
pub record Read (S : Scope) : Type 0 where
  pub lower : Lower S.program.types
  pub operands : (e : ExpressionHandle) → e < length (expressions_of S) → OperandsBelow e (typed S e).expression
  pub names : (e : ExpressionHandle) → e < length (expressions_of S) →
      NamesBelow (length S.program.globals) (length S.function.arguments) (length S.function.locals) (typed S e).expression

-- each of its expressions is judged
pub record Judged (S : Scope) : Type 0 where
  pub each : (e : ExpressionHandle) → e < length (expressions_of S) → judged_expression S e ≡ true
