-- What the tables of a file stand for, while it is read and when it has been read.
use Rattle.std.specs.Prelude.{ℕ, ◌+◌, ◌*◌, ◌/◌, Bool, List, eqb, get_or, set}
use Rattle.field.specs.Limits.{max_bytes, max_types, max_globals, max_functions, max_expressions}
use Rattle.module.specs.declared.tables.Row.{Row}
use Rattle.module.specs.declared.tables.Counts.{Counts}
use Rattle.module.specs.Module.{Function, Module}
use Rattle.module.specs.Record.{body_at}
use Rattle.module.specs.Decode.{tab, type_of, result_of, arg_of, typed_of, st_of}
use Rattle.module.specs.Operands.{Scope}
use Rattle.module.specs.Reading.{Open, Reading, closed}

-- A record has at least its header.
abbrev pub max_items : ℕ
max_items = max_bytes / 4

-- where each region begins
abbrev pub types_at : ℕ
types_at = 8 * max_functions

abbrev pub globals_at : ℕ
globals_at = types_at + max_types

abbrev pub items_at : ℕ
items_at = globals_at + max_globals

abbrev pub blocks_at : ℕ
blocks_at = items_at + max_items

abbrev pub marks_at : ℕ
marks_at = blocks_at + max_items

abbrev pub head_at : ℕ
head_at = marks_at + max_expressions

abbrev pub words : ℕ
words = head_at + 3

abbrev pub word : List ℕ → ℕ → ℕ
word t i = get_or t i 0

unfoldable pub row_at : List ℕ → ℕ → Row
row_at t f =
    record {
      offset = word t (8 * f);
      items = word t (8 * f + 1);
      arguments = word t (8 * f + 2);
      locals = word t (8 * f + 3);
      expressions = word t (8 * f + 4);
      statements = word t (8 * f + 5);
      earlier = word t (8 * f + 6);
      blocks = word t (8 * f + 7);
    }

unfoldable pub set_row : List ℕ → ℕ → Row → List ℕ
set_row t f r =
    set
    (set
    (set
    (set
    (set
    (set (set (set t (8 * f) r.offset) (8 * f + 1) r.items) (8 * f + 2) r.arguments)
    (8 * f + 3)
    r.locals)
    (8 * f + 4)
    r.expressions)
    (8 * f + 5)
    r.statements)
    (8 * f + 6)
    r.earlier)
    (8 * f + 7)
    r.blocks

-- the items of each sort, from the function's first
abbrev pub locals_from : Row → ℕ
locals_from r = r.items + r.arguments

abbrev pub expressions_from : Row → ℕ
expressions_from r = locals_from r + r.locals

abbrev pub statements_from : Row → ℕ
statements_from r = expressions_from r + r.expressions

abbrev pub items_to : Row → ℕ
items_to r = statements_from r + r.statements

-- the fields of a type, a global and an item
abbrev pub type_body : List ℕ → List ℕ → ℕ → List ℕ
type_body bytes t i = body_at bytes (word t (types_at + i))

abbrev pub global_body : List ℕ → List ℕ → ℕ → List ℕ
global_body bytes t i = body_at bytes (word t (globals_at + i))

abbrev pub item_body : List ℕ → List ℕ → ℕ → List ℕ
item_body bytes t i = body_at bytes (word t (items_at + i))

abbrev pub entry_of : List ℕ → Row → Bool
entry_of bytes r = eqb (get_or (body_at bytes r.offset) 0 0) 1

unfoldable pub emitted_of : List ℕ → ℕ → List Bool
emitted_of t n = tab n (λ e. eqb (word t (marks_at + e)) 1)

-- the first statement of each block
abbrev pub starts_of : List ℕ → Row → List ℕ
starts_of t r = tab r.blocks (λ b. word t (blocks_at + (r.earlier + b)))

-- the function that a row stands for
unfoldable pub open_of : List ℕ → List ℕ → Row → Open
open_of bytes t r =
    record {
      entry = entry_of bytes r;
      result = result_of (body_at bytes r.offset);
      arguments = tab r.arguments (λ i. arg_of (item_body bytes t (r.items + i)));
      locals = tab r.locals (λ i. get_or (item_body bytes t (locals_from r + i)) 0 0);
      expressions = tab r.expressions (λ i. typed_of (item_body bytes t (expressions_from r + i)));
      emitted = emitted_of t r.expressions;
      statements = tab r.statements (λ i. st_of (item_body bytes t (statements_from r + i)));
      starts = starts_of t r;
    }

unfoldable pub function_of : List ℕ → List ℕ → ℕ → Function
function_of bytes t f = closed (open_of bytes t (row_at t f))

-- what has been read
unfoldable pub reading_of : List ℕ → List ℕ → Counts → Reading
reading_of bytes t c =
    record {
      stage = c.stage;
      types = tab c.types (λ i. type_of (type_body bytes t i));
      globals = tab c.globals (λ i. get_or (global_body bytes t i) 0 0);
      functions = tab c.functions (function_of bytes t);
      open_one = open_of bytes t c.row;
    }

-- what the next record may refer to
unfoldable pub scope_in : List ℕ → List ℕ → Counts → Scope
scope_in bytes t c =
    record {
      types = c.types;
      globals = c.globals;
      functions = c.functions;
      arguments = c.row.arguments;
      locals = c.row.locals;
      expressions = c.row.expressions;
      statements = c.row.statements;
      entries = tab c.functions (λ f. entry_of bytes (row_at t f));
      emitted = emitted_of t c.row.expressions;
    }

-- The module that the tables stand for when all has been read.
unfoldable pub module_of : List ℕ → List ℕ → Module
module_of bytes t =
    record {
      types = tab (word t head_at) (λ i. type_of (type_body bytes t i));
      globals = tab (word t (head_at + 1)) (λ i. get_or (global_body bytes t i) 0 0);
      functions = tab (word t (head_at + 2)) (function_of bytes t);
    }
