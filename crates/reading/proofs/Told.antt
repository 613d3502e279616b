-- The counts with one record more: what the checks of the record tell, mark by mark. They are within their limits, there is room for
-- them, and the later sorts of items have not begun.
use mathlib.Core.Path.{◌≡◌, refl}
use mathlib.Core.Bool.{Bool, true, false, ◌&&◌, ◌||◌, false≢true}
use mathlib.Core.List.{List, []}
use Prim.Native.Nat.{ℕ, suc, ◌+◌, ◌<◌, ◌≤◌}
use native.Mathlib.Omega.{arith}
use lib.Dec.{leb}
use borrow.Author.Tests.{eqb-true, leb-true, leb-false}
use Rattle.field.specs.Limits.{max_types, max_globals, max_functions, max_expressions, max_members, max_components}
use Rattle.module.specs.declared.record.Mark.{Mark}
use Rattle.module.specs.declared.record.Mark.TheVariants.{TY, GV, FN, AR, LV, EX, BK, ST}
use Rattle.module.specs.declared.tables.Row.{Row}
use Rattle.module.specs.declared.tables.Counts.{Counts}
use Rattle.module.specs.Reading.{in_types, in_globals, in_arguments, in_locals, in_expressions, in_blocks, stage_of}
use Rattle.module.specs.File.{placed, count_over, over}
use Rattle.module.specs.Tables.{row_at, items_to, scope_in}
use Rattle.reading.specs.Progress.{row_with, types_by, globals_by, counts_with, Fits, Used, Ready}

first_true : (p q : Bool) → (p && q) ≡ true → p ≡ true
first_true true q e = refl
first_true false q e = e

pub second_true : (p q : Bool) → (p && q) ≡ true → q ≡ true
second_true true q e = e
second_true false q e = absurd (false≢true e)

first_false : (p q : Bool) → (p || q) ≡ false → p ≡ false
first_false true q e = e
first_false false q e = refl

-- the row has at most one item or block more
pub record Grows (r s : Row) : Type 0 where
  pub items : items_to r ≤ items_to s
  pub blocks : r.earlier + r.blocks ≤ s.earlier + s.blocks
  pub one : items_to s + (s.earlier + s.blocks) ≤ suc (items_to r + (r.earlier + r.blocks))

pub grows : (at : ℕ) (mark : Mark) (r : Row) → Grows r (row_with at mark r)
unfolding row_with
grows at TY r = record { items = omega arith; blocks = omega arith; one = omega arith }
grows at GV r = record { items = omega arith; blocks = omega arith; one = omega arith }
grows at FN r = record { items = omega arith; blocks = omega arith; one = omega arith }
grows at AR r = record { items = omega arith; blocks = omega arith; one = omega arith }
grows at LV r = record { items = omega arith; blocks = omega arith; one = omega arith }
grows at EX r = record { items = omega arith; blocks = omega arith; one = omega arith }
grows at BK r = record { items = omega arith; blocks = omega arith; one = omega arith }
grows at ST r = record { items = omega arith; blocks = omega arith; one = omega arith }

module _ (c : Counts) (at : ℕ) where
  fits_of : (mark : Mark) (n : ℕ) → Fits c at → types_by mark c.types ≤ max_types → globals_by mark c.globals ≤ max_globals → (row_with at mark c.row).expressions ≤ max_expressions → Fits (counts_with at mark c) (at + 4 + n)
  unfolding counts_with
  fits_of mark n f a b e =
      let g = grows at mark c.row in
      record { room = omega (arith, g.one, f.room); types = a; globals = b; functions = f.functions; expressions = e }

  pub fits_with : (mark : Mark) (bytes fs : List ℕ) (n : ℕ) → Fits c at → over mark (scope_in bytes [] c) fs ≡ false → Fits (counts_with at mark c) (at + 4 + n)
  unfolding over scope_in types_by globals_by row_with
  fits_with TY bytes fs n f o =
      let l = leb-false max_types c.types (first_false (leb max_types c.types) (count_over 0 6 1 max_members fs) o) in
      fits_of TY n f (omega arith) f.globals f.expressions
  fits_with GV bytes fs n f o =
      let l = leb-false max_globals c.globals o in
      fits_of GV n f f.types (omega arith) f.expressions
  fits_with FN bytes fs n f o = fits_of FN n f f.types f.globals (omega arith)
  fits_with AR bytes fs n f o = fits_of AR n f f.types f.globals f.expressions
  fits_with LV bytes fs n f o = fits_of LV n f f.types f.globals f.expressions
  fits_with EX bytes fs n f o =
      let l = leb-false max_expressions c.row.expressions (first_false (leb max_expressions c.row.expressions) (count_over 1 8 2 max_components fs) o) in
      fits_of EX n f f.types f.globals (omega arith)
  fits_with BK bytes fs n f o = fits_of BK n f f.types f.globals f.expressions
  fits_with ST bytes fs n f o = fits_of ST n f f.types f.globals f.expressions

-- the later sorts of items have not begun
pub record Staged (c : Counts) : Type 0 where
  pub locals : c.stage ≤ in_arguments → c.row.locals ≡ 0
  pub expressions : c.stage ≤ in_locals → c.row.expressions ≡ 0
  pub statements : c.stage ≤ in_expressions → c.row.statements ≡ 0

pub staged_of : {bytes t : List ℕ} {c : Counts} {at : ℕ} → Used bytes t c at → Staged c
staged_of u = record { locals = u.no_locals; expressions = u.no_expressions; statements = u.no_statements }

pub staged_with : (c : Counts) (at : ℕ) (mark : Mark) → Staged c → placed mark c.stage ≡ true → Staged (counts_with at mark c)
unfolding placed counts_with stage_of row_with
staged_with c at TY s p =
    let q = eqb-true c.stage in_types p in
    record { locals = λ h. s.locals (omega arith); expressions = λ h. s.expressions (omega arith); statements = λ h. s.statements (omega arith) }
staged_with c at GV s p =
    let q = leb-true c.stage in_globals p in
    record { locals = λ h. s.locals (omega arith); expressions = λ h. s.expressions (omega arith); statements = λ h. s.statements (omega arith) }
staged_with c at FN s p = record { locals = λ h. refl; expressions = λ h. refl; statements = λ h. refl }
staged_with c at AR s p =
    let q = eqb-true c.stage in_arguments p in
    record { locals = λ h. s.locals (omega arith); expressions = λ h. s.expressions (omega arith); statements = λ h. s.statements (omega arith) }
staged_with c at LV s p =
    let q = leb-true c.stage in_locals (second_true (leb in_arguments c.stage) (leb c.stage in_locals) p) in
    record { locals = λ h. absurd (omega arith); expressions = λ h. s.expressions (omega arith); statements = λ h. s.statements (omega arith) }
staged_with c at EX s p =
    let q = leb-true c.stage in_expressions (second_true (leb in_arguments c.stage) (leb c.stage in_expressions) p) in
    record { locals = λ h. absurd (omega arith); expressions = λ h. absurd (omega arith); statements = λ h. s.statements (omega arith) }
staged_with c at BK s p = record { locals = λ h. absurd (omega arith); expressions = λ h. absurd (omega arith); statements = λ h. absurd (omega arith) }
staged_with c at ST s p = record { locals = λ h. absurd (omega arith); expressions = λ h. absurd (omega arith); statements = λ h. absurd (omega arith) }

module _ (bytes t : List ℕ) (c : Counts) (at : ℕ) where
  -- what holds of the tables before the record, whether a function has just ended or not
  pub ready_used : (mark : Mark) → Ready mark bytes t c at → Used bytes t c at
  ready_used TY p = p.used
  ready_used GV p = p.used
  ready_used FN p = p
  ready_used AR p = p.used
  ready_used LV p = p.used
  ready_used EX p = p.used
  ready_used BK p = p.used
  ready_used ST p = p.used

  -- the rows of ended functions lie before the one that is open then
  pub before_with : (mark : Mark) → Ready mark bytes t c at → (f : ℕ) → f < c.functions → items_to (row_at t f) ≤ (row_with at mark c.row).items
  unfolding row_with
  before_with TY p = p.before
  before_with GV p = p.before
  before_with FN p = p.items
  before_with AR p = p.before
  before_with LV p = p.before
  before_with EX p = p.before
  before_with BK p = p.before
  before_with ST p = p.before

  -- and that one has a number
  pub number_with : (mark : Mark) (fs : List ℕ) → Ready mark bytes t c at → placed mark c.stage ≡ true → over mark (scope_in bytes [] c) fs ≡ false → in_arguments ≤ stage_of mark → c.functions < max_functions
  unfolding placed over scope_in stage_of
  number_with TY fs p q o h = absurd (omega arith)
  number_with GV fs p q o h = absurd (omega arith)
  number_with FN fs p q o h = leb-false max_functions c.functions o
  number_with AR fs p q o h =
      let s = eqb-true c.stage in_arguments q in
      p.number (omega arith)
  number_with LV fs p q o h = p.number (leb-true in_arguments c.stage (first_true (leb in_arguments c.stage) (leb c.stage in_locals) q))
  number_with EX fs p q o h = p.number (leb-true in_arguments c.stage (first_true (leb in_arguments c.stage) (leb c.stage in_expressions) q))
  number_with BK fs p q o h = p.number (leb-true in_arguments c.stage q)
  number_with ST fs p q o h =
      let s = eqb-true c.stage in_blocks q in
      p.number (omega arith)
