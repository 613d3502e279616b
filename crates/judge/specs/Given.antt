-- What the code of "judged" is given: a function of a module that was read, the table of its types, and what was filled from them.
use Rattle.std.specs.Prelude.{ℕ, ◌<◌, ◌≡◌, Bool, List, length}
use Rattle.module.specs.Tables.{function_of, module_of}
use Rattle.access.specs.declared.kinded.Kinded.{Kinded}
use Rattle.access.specs.Access.{typed_at, operand_at, expression_row, statement_at}
use Rattle.valid.specs.There.{There}
use Rattle.context.specs.Types.{types_of}
use Rattle.clearance.specs.Scope.{Scope}
use Rattle.clearance.specs.Judged.{fits_index, fits_expression, fits_statement}
use Rattle.judge.specs.Paths.{PathTable}
use Rattle.judge.specs.Shapes.{Shapes, indexed}

-- the function f within its module
abbrev pub scope_at : List ℕ → List ℕ → ℕ → Scope
scope_at bytes t f = record { program = module_of bytes t; function = function_of bytes t f }

-- what says of an expression whether it is a value
pub record Values (bytes t : List ℕ) (f : ℕ) (types : List ℕ) (paths : List Bool) : Type 0 where
  pub same : (module_of bytes t).types ≡ types_of types
  pub table : PathTable (function_of bytes t f).expressions paths

pub record Given (bytes t : List ℕ) (f : ℕ) (types alike : List ℕ) (paths : List Bool) : Type 0 where
  pub of : There bytes t f
  pub values : Values bytes t f types paths
  pub shapes : Shapes types alike

-- the row of an expression of the function
pub record Row (bytes t : List ℕ) (f : ℕ) (types alike : List ℕ) (paths : List Bool) (e : ℕ) (row : Kinded) : Type 0 where
  pub given : Given bytes t f types alike paths
  pub there : e < length (function_of bytes t f).expressions
  pub is : row ≡ expression_row bytes t f e

-- r says whether the expression e fits
abbrev pub Fits : List ℕ → List ℕ → ℕ → ℕ → Bool → Type 0
Fits bytes t f e r = r ≡ fits_expression (scope_at bytes t f) e (typed_at bytes t f e).expression

-- whether an index fits its base, by its row
abbrev pub fits_base : Scope → List ℕ → Kinded → ℕ → Bool
fits_base S bytes row e = fits_index S (indexed S row.kind (operand_at bytes row 1)) (operand_at bytes row 0) e

-- r says whether the statement s fits
abbrev pub FitsStatement : List ℕ → List ℕ → ℕ → ℕ → Bool → Type 0
FitsStatement bytes t f s r = r ≡ fits_statement (scope_at bytes t f) (statement_at bytes t f s)
