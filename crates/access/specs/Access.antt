-- What stands at each handle of a module that was read, by the file's bytes and the tables. That the module has it there, where
-- it has one of that number, is proofs/Access.antt.
use Rattle.std.specs.Prelude.{ℕ, ◌+◌, List, get_or}
use Rattle.std.proofs.Math.Option.{Option, some, none as nothing}
use Rattle.std.specs.Prelude.{Option as Optional, Some, None}
use Rattle.module.specs.declared.handles.ExpressionHandle.{ExpressionHandle as Handle}
use Rattle.module.specs.Module.{TypeHandle, GlobalHandle, LocalHandle, FunctionHandle, ExpressionHandle, BlockHandle, Statement, Typed, BlockRange, FunctionArg, FunctionResult}
use Rattle.module.specs.Record.{body_at}
use Rattle.module.specs.Decode.{arg_of, typed_of, st_of}
use Rattle.module.specs.Reading.{range_of}
use Rattle.module.specs.Tables.{word, row_at, items_at, starts_of, locals_from, expressions_from, statements_from, global_body, item_body}
use Rattle.access.specs.declared.kinded.Kinded.{Kinded}
use Rattle.access.specs.declared.whole.Bound.{Bound}
use Rattle.module.specs.declared.access.BlockRange as declared

-- the numbers of an expression and of a statement among the items of the file
abbrev pub expression_number : List ℕ → FunctionHandle → ExpressionHandle → ℕ
expression_number t f e = expressions_from (row_at t f) + e

abbrev pub statement_number : List ℕ → FunctionHandle → ℕ → ℕ
statement_number t f s = statements_from (row_at t f) + s

unfoldable pub global_at : List ℕ → List ℕ → GlobalHandle → TypeHandle
global_at bytes t g = get_or (global_body bytes t g) 0 0

unfoldable pub argument_at : List ℕ → List ℕ → FunctionHandle → ℕ → FunctionArg
argument_at bytes t f i = arg_of (item_body bytes t ((row_at t f).items + i))

unfoldable pub local_at : List ℕ → List ℕ → FunctionHandle → LocalHandle → TypeHandle
local_at bytes t f l = get_or (item_body bytes t (locals_from (row_at t f) + l)) 0 0

unfoldable pub typed_at : List ℕ → List ℕ → FunctionHandle → ExpressionHandle → Typed
typed_at bytes t f e = typed_of (item_body bytes t (expression_number t f e))

unfoldable pub statement_at : List ℕ → List ℕ → FunctionHandle → ℕ → Statement
statement_at bytes t f s = st_of (item_body bytes t (statement_number t f s))

unfoldable pub range_at : List ℕ → FunctionHandle → BlockHandle → BlockRange
range_at t f b = range_of (starts_of t (row_at t f)) (row_at t f).statements b

-- the operands of a record that has a kind, by number
abbrev pub operand_at : List ℕ → Kinded → ℕ → ℕ
operand_at bytes r j = get_or (body_at bytes r.offset) (r.before + j) 0

-- a number that may be left out
abbrev pub number_in : Optional ℕ → Option ℕ
number_in None = nothing
number_in (Some n) = some n

-- the number of an expression that may be left out
unfoldable pub handle_in : Optional Handle → Option ExpressionHandle
handle_in None = nothing
handle_in (Some e) = some e.0

-- a record whose field `before - 1` is its kind
abbrev pub kinded_at : List ℕ → ℕ → ℕ → ℕ → Kinded
kinded_at bytes offset j before = record { kind = get_or (body_at bytes offset) j 0; offset = offset; before = before }

unfoldable pub expression_row : List ℕ → List ℕ → FunctionHandle → ExpressionHandle → Kinded
expression_row bytes t f e = kinded_at bytes (word t (items_at + expression_number t f e)) 1 2

unfoldable pub statement_row : List ℕ → List ℕ → FunctionHandle → ℕ → Kinded
statement_row bytes t f s = kinded_at bytes (word t (items_at + statement_number t f s)) 0 1

-- A type with its binding, as an argument and a result.
abbrev pub arg_from : Bound → FunctionArg
arg_from r = record { type = r.ty.0; binding = number_in r.binding }

abbrev pub result_from : Optional Bound → Option FunctionResult
result_from None = nothing
result_from (Some r) = some (record { type = r.ty.0; binding = number_in r.binding })

abbrev pub range_from : declared.BlockRange → BlockRange
range_from r = record { first = r.first; count = r.count }
