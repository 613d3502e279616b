-- What the definitions are asked of a subject: its lists, one by one.
use Rattle.std.specs.Prelude.{ℕ, Bool}
use Rattle.module.specs.Module.{Function}
use Rattle.module.specs.Tables.{function_of}
use Rattle.access.specs.declared.kinded.Kinded.{Kinded}
use Rattle.clearance.specs.Scope.{Scope}
use Rattle.judge.specs.declared.subject.Subject.{Subject}
use Rattle.judge.specs.Given.{scope_at, Row, Fits, FitsStatement}

abbrev pub scope_of : Subject → Scope
scope_of j = scope_at j.file.now.bytes j.file.now.t j.f.0

abbrev pub function_in : Subject → Function
function_in j = function_of j.file.now.bytes j.file.now.t j.f.0

abbrev pub RowOf : Subject → ℕ → Kinded → Type 0
RowOf j e row = Row j.file.now.bytes j.file.now.t j.f.0 j.types.now j.alike.now j.paths.now e row

abbrev pub FitsOf : Subject → ℕ → Bool → Type 0
FitsOf j e r = Fits j.file.now.bytes j.file.now.t j.f.0 e r

abbrev pub FitsStatementOf : Subject → ℕ → Bool → Type 0
FitsStatementOf j s r = FitsStatement j.file.now.bytes j.file.now.t j.f.0 s r
