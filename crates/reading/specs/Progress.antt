-- One record more: what is written into the tables, what the counts are then, and how far the tables are in use while a file is read.
use Rattle.std.specs.Prelude.{ℕ, zero, suc, ◌+◌, ◌*◌, ◌-◌, ◌<◌, ◌≤◌, ◌≡◌, true, false, cond, List, [], eqb, length, get_or, set}
use Rattle.field.specs.Limits.{max_bytes, max_types, max_globals, max_functions, max_expressions}
use Rattle.module.specs.declared.record.Mark.{Mark}
use Rattle.module.specs.declared.record.Mark.TheVariants.{TY, GV, FN, AR, LV, EX, BK, ST}
use Rattle.module.specs.declared.tables.Row.{Row}
use Rattle.module.specs.declared.tables.Counts.{Counts}
use Rattle.module.specs.Record.{length_at, body_at}
use Rattle.module.specs.File.{placed, over, fine}
use Rattle.module.specs.Reading.{in_arguments, in_locals, in_expressions, stage_of, added}
use Rattle.module.specs.Tables.{types_at, globals_at, items_at, blocks_at, marks_at, words, row_at, items_to, reading_of, scope_in}

-- the marks of n expressions set, from e on
unfoldable pub mark_from : List ℕ → ℕ → ℕ → List ℕ
mark_from t e zero = t
mark_from t e (suc n) = mark_from (set t (marks_at + e) 1) (suc e) n

-- the marks after a statement with these fields: an emit, of kind 0, sets them from its first to its last
unfoldable pub mark_by : List ℕ → List ℕ → List ℕ
mark_by fs t = cond (eqb (get_or fs 0 0) 0) (mark_from t (get_or fs 1 0) (suc (get_or fs 2 0) - get_or fs 1 0)) t

-- the offset of the open function's next item
abbrev pub with_item : List ℕ → ℕ → Row → List ℕ
with_item t at r = set t (items_at + items_to r) at

-- the tables with the record at `at`
unfoldable pub table_with : List ℕ → List ℕ → ℕ → Mark → Counts → List ℕ
table_with bytes t at TY c = set t (types_at + c.types) at
table_with bytes t at GV c = set t (globals_at + c.globals) at
table_with bytes t at FN c = t
table_with bytes t at AR c = with_item t at c.row
table_with bytes t at LV c = with_item t at c.row
table_with bytes t at EX c = set (with_item t at c.row) (marks_at + c.row.expressions) 0
table_with bytes t at BK c = set t (blocks_at + (c.row.earlier + c.row.blocks)) c.row.statements
table_with bytes t at ST c = mark_by (body_at bytes at) (with_item t at c.row)

-- the row of a function that begins at `at`, after this one
abbrev pub row_after : ℕ → Row → Row
row_after at r =
    record {
      offset = at;
      items = items_to r;
      arguments = 0;
      locals = 0;
      expressions = 0;
      statements = 0;
      earlier = r.earlier + r.blocks;
      blocks = 0;
    }

-- this row, with other counts
abbrev pub row_of : Row → ℕ → ℕ → ℕ → ℕ → ℕ → Row
row_of r arguments locals expressions statements blocks =
    record {
      offset = r.offset;
      items = r.items;
      arguments = arguments;
      locals = locals;
      expressions = expressions;
      statements = statements;
      earlier = r.earlier;
      blocks = blocks;
    }

unfoldable pub row_with : ℕ → Mark → Row → Row
row_with at TY r = r
row_with at GV r = r
row_with at FN r = row_after at r
row_with at AR r = row_of r (r.arguments + 1) r.locals r.expressions r.statements r.blocks
row_with at LV r = row_of r r.arguments (r.locals + 1) r.expressions r.statements r.blocks
row_with at EX r = row_of r r.arguments r.locals (r.expressions + 1) r.statements r.blocks
row_with at BK r = row_of r r.arguments r.locals r.expressions r.statements (r.blocks + 1)
row_with at ST r = row_of r r.arguments r.locals r.expressions (r.statements + 1) r.blocks

unfoldable pub types_by : Mark → ℕ → ℕ
types_by TY n = n + 1
types_by GV n = n
types_by FN n = n
types_by AR n = n
types_by LV n = n
types_by EX n = n
types_by BK n = n
types_by ST n = n

unfoldable pub globals_by : Mark → ℕ → ℕ
globals_by TY n = n
globals_by GV n = n + 1
globals_by FN n = n
globals_by AR n = n
globals_by LV n = n
globals_by EX n = n
globals_by BK n = n
globals_by ST n = n

-- the counts with the record at `at`
unfoldable pub counts_with : ℕ → Mark → Counts → Counts
counts_with at mark c =
    record {
      stage = stage_of mark;
      types = types_by mark c.types;
      globals = globals_by mark c.globals;
      functions = c.functions;
      row = row_with at mark c.row;
    }

-- The counts are within their limits, and there are no more items and blocks than records before `at`.
pub record Fits (c : Counts) (at : ℕ) : Type 0 where
  pub room : 4 * (items_to c.row + (c.row.earlier + c.row.blocks)) ≤ at
  pub types : c.types ≤ max_types
  pub globals : c.globals ≤ max_globals
  pub functions : c.functions ≤ max_functions
  pub expressions : c.row.expressions ≤ max_expressions

-- What is in use: items come in the order of the stages, and the rows of ended functions lie one after the other, up to where the
-- last row ends. That row may be the last of them, until the next function begins.
pub record Used (bytes t : List ℕ) (c : Counts) (at : ℕ) : Type 0 where
  pub fits : Fits c at
  pub table : words ≤ length t
  pub size : length bytes ≤ max_bytes
  pub here : at ≤ length bytes
  pub no_locals : c.stage ≤ in_arguments → c.row.locals ≡ 0
  pub no_expressions : c.stage ≤ in_locals → c.row.expressions ≡ 0
  pub no_statements : c.stage ≤ in_expressions → c.row.statements ≡ 0
  pub items : (f : ℕ) → f < c.functions → items_to (row_at t f) ≤ items_to c.row
  pub blocks : (f : ℕ) → f < c.functions → (row_at t f).earlier + (row_at t f).blocks ≤ c.row.earlier + c.row.blocks
  pub next : (f : ℕ) → suc f < c.functions → items_to (row_at t f) ≤ (row_at t (suc f)).items

-- Between two records: the row is that of a function that has not ended, and it has a number.
pub record Progress (bytes t : List ℕ) (c : Counts) (at : ℕ) : Type 0 where
  pub used : Used bytes t c at
  pub before : (f : ℕ) → f < c.functions → items_to (row_at t f) ≤ c.row.items
  pub number : in_arguments ≤ c.stage → c.functions < max_functions

-- before a record is added: where a function begins the one before it has ended
abbrev pub Ready : Mark → List ℕ → List ℕ → Counts → ℕ → Type 0
Ready TY = Progress
Ready GV = Progress
Ready FN = Used
Ready AR = Progress
Ready LV = Progress
Ready EX = Progress
Ready BK = Progress
Ready ST = Progress

-- the record at `at` is whole, and is not refused
pub record Admitted (bytes t : List ℕ) (c : Counts) (at : ℕ) (mark : Mark) : Type 0 where
  pub whole : at + 4 + length_at bytes at ≤ length bytes
  pub in_place : placed mark c.stage ≡ true
  pub not_over : over mark (scope_in bytes [] c) (body_at bytes at) ≡ false
  pub allowed : fine mark (scope_in bytes t c) (body_at bytes at) ≡ true

-- With the record at `at`, the tables stand for what has been read with it, and they are ready for the next.
pub record Added (bytes t : List ℕ) (c : Counts) (at : ℕ) (mark : Mark) : Type 0 where
  pub is : reading_of bytes (table_with bytes t at mark c) (counts_with at mark c) ≡ added mark (body_at bytes at) (reading_of bytes t c)
  pub progress : Progress bytes (table_with bytes t at mark c) (counts_with at mark c) (at + 4 + length_at bytes at)

-- that each record that passes is added so: a law of proofs/Adding.antt
abbrev pub Adds : Type 0
Adds = (bytes t : List ℕ) (c : Counts) (at : ℕ) (mark : Mark) → Ready mark bytes t c at → Admitted bytes t c at mark → Added bytes t c at mark
