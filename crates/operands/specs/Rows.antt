-- What the definitions are asked of a row in a function: the function within its module, and the row's operands by number.
use Rattle.std.specs.Prelude.{ℕ}
use Rattle.access.specs.Access.{operand_at}
use Rattle.clearance.specs.Scope.{Scope}
use Rattle.judge.specs.Given.{scope_at}
use Rattle.operands.specs.declared.row.Operands.{Operands}

abbrev pub scope_under : Operands → Scope
scope_under x = scope_at x.file.now.bytes x.file.now.t x.f.0

abbrev pub operands_in : Operands → ℕ → ℕ
operands_in x = operand_at x.file.now.bytes x.row
