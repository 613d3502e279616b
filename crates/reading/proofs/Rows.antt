-- A row that is written is read back, and every other word stays.
use mathlib.Core.Path.{◌≡◌, ◌∙◌}
use mathlib.Core.Logic.{◌≢◌}
use mathlib.Core.List.{List}
use Prim.Native.Nat.{ℕ, ◌+◌, ◌*◌, ◌<◌, ◌≤◌}
use native.Mathlib.Omega.{arith}
use lib.ListN.{length, set, length-set}
use lib.Seq.{get_or-set_same, get_or-set_other}
use Rattle.module.specs.declared.tables.Row.{Row}
use Rattle.module.specs.Tables.{word, row_at, set_row}

pub length-set_row : (t : List ℕ) (f : ℕ) (r : Row) → length (set_row t f r) ≡ length t
unfolding set_row
length-set_row t f r = simp length-set

-- the table after the first words of a row
abbrev at_1 : List ℕ → ℕ → Row → List ℕ
at_1 t f r = set t (8 * f) r.offset

abbrev at_2 : List ℕ → ℕ → Row → List ℕ
at_2 t f r = set (at_1 t f r) (8 * f + 1) r.items

abbrev at_3 : List ℕ → ℕ → Row → List ℕ
at_3 t f r = set (at_2 t f r) (8 * f + 2) r.arguments

abbrev at_4 : List ℕ → ℕ → Row → List ℕ
at_4 t f r = set (at_3 t f r) (8 * f + 3) r.locals

abbrev at_5 : List ℕ → ℕ → Row → List ℕ
at_5 t f r = set (at_4 t f r) (8 * f + 4) r.expressions

abbrev at_6 : List ℕ → ℕ → Row → List ℕ
at_6 t f r = set (at_5 t f r) (8 * f + 5) r.statements

abbrev at_7 : List ℕ → ℕ → Row → List ℕ
at_7 t f r = set (at_6 t f r) (8 * f + 6) r.earlier

module _ (t : List ℕ) (f : ℕ) (r : Row) where
  pub set_row_other : (i : ℕ) → (8 * f ≤ i → i < 8 * f + 8 → ⊥) → word (set_row t f r) i ≡ word t i
  unfolding set_row
  set_row_other i h =
      get_or-set_other (at_7 t f r) (8 * f + 7) i r.blocks 0 (λ e. h (omega arith) (omega arith))
      ∙ get_or-set_other (at_6 t f r) (8 * f + 6) i r.earlier 0 (λ e. h (omega arith) (omega arith))
      ∙ get_or-set_other (at_5 t f r) (8 * f + 5) i r.statements 0 (λ e. h (omega arith) (omega arith))
      ∙ get_or-set_other (at_4 t f r) (8 * f + 4) i r.expressions 0 (λ e. h (omega arith) (omega arith))
      ∙ get_or-set_other (at_3 t f r) (8 * f + 3) i r.locals 0 (λ e. h (omega arith) (omega arith))
      ∙ get_or-set_other (at_2 t f r) (8 * f + 2) i r.arguments 0 (λ e. h (omega arith) (omega arith))
      ∙ get_or-set_other (at_1 t f r) (8 * f + 1) i r.items 0 (λ e. h (omega arith) (omega arith))
      ∙ get_or-set_other t (8 * f) i r.offset 0 (λ e. h (omega arith) (omega arith))

  module _ (room : 8 * f + 8 ≤ length t) where
    is_offset : word (set_row t f r) (8 * f) ≡ r.offset
    unfolding set_row
    is_offset = get_or-set_other (at_7 t f r) (8 * f + 7) (8 * f) r.blocks 0 (λ e. omega arith) ∙ get_or-set_other (at_6 t f r) (8 * f + 6) (8 * f) r.earlier 0 (λ e. omega arith) ∙ get_or-set_other (at_5 t f r) (8 * f + 5) (8 * f) r.statements 0 (λ e. omega arith) ∙ get_or-set_other (at_4 t f r) (8 * f + 4) (8 * f) r.expressions 0 (λ e. omega arith) ∙ get_or-set_other (at_3 t f r) (8 * f + 3) (8 * f) r.locals 0 (λ e. omega arith) ∙ get_or-set_other (at_2 t f r) (8 * f + 2) (8 * f) r.arguments 0 (λ e. omega arith) ∙ get_or-set_other (at_1 t f r) (8 * f + 1) (8 * f) r.items 0 (λ e. omega arith) ∙ get_or-set_same t (8 * f) r.offset 0 (omega arith)

    is_items : word (set_row t f r) (8 * f + 1) ≡ r.items
    unfolding set_row
    is_items = get_or-set_other (at_7 t f r) (8 * f + 7) (8 * f + 1) r.blocks 0 (λ e. omega arith) ∙ get_or-set_other (at_6 t f r) (8 * f + 6) (8 * f + 1) r.earlier 0 (λ e. omega arith) ∙ get_or-set_other (at_5 t f r) (8 * f + 5) (8 * f + 1) r.statements 0 (λ e. omega arith) ∙ get_or-set_other (at_4 t f r) (8 * f + 4) (8 * f + 1) r.expressions 0 (λ e. omega arith) ∙ get_or-set_other (at_3 t f r) (8 * f + 3) (8 * f + 1) r.locals 0 (λ e. omega arith) ∙ get_or-set_other (at_2 t f r) (8 * f + 2) (8 * f + 1) r.arguments 0 (λ e. omega arith) ∙ get_or-set_same (at_1 t f r) (8 * f + 1) r.items 0 (simp length-set (omega arith))

    is_arguments : word (set_row t f r) (8 * f + 2) ≡ r.arguments
    unfolding set_row
    is_arguments = get_or-set_other (at_7 t f r) (8 * f + 7) (8 * f + 2) r.blocks 0 (λ e. omega arith) ∙ get_or-set_other (at_6 t f r) (8 * f + 6) (8 * f + 2) r.earlier 0 (λ e. omega arith) ∙ get_or-set_other (at_5 t f r) (8 * f + 5) (8 * f + 2) r.statements 0 (λ e. omega arith) ∙ get_or-set_other (at_4 t f r) (8 * f + 4) (8 * f + 2) r.expressions 0 (λ e. omega arith) ∙ get_or-set_other (at_3 t f r) (8 * f + 3) (8 * f + 2) r.locals 0 (λ e. omega arith) ∙ get_or-set_same (at_2 t f r) (8 * f + 2) r.arguments 0 (simp length-set (omega arith))

    is_locals : word (set_row t f r) (8 * f + 3) ≡ r.locals
    unfolding set_row
    is_locals = get_or-set_other (at_7 t f r) (8 * f + 7) (8 * f + 3) r.blocks 0 (λ e. omega arith) ∙ get_or-set_other (at_6 t f r) (8 * f + 6) (8 * f + 3) r.earlier 0 (λ e. omega arith) ∙ get_or-set_other (at_5 t f r) (8 * f + 5) (8 * f + 3) r.statements 0 (λ e. omega arith) ∙ get_or-set_other (at_4 t f r) (8 * f + 4) (8 * f + 3) r.expressions 0 (λ e. omega arith) ∙ get_or-set_same (at_3 t f r) (8 * f + 3) r.locals 0 (simp length-set (omega arith))

    is_expressions : word (set_row t f r) (8 * f + 4) ≡ r.expressions
    unfolding set_row
    is_expressions = get_or-set_other (at_7 t f r) (8 * f + 7) (8 * f + 4) r.blocks 0 (λ e. omega arith) ∙ get_or-set_other (at_6 t f r) (8 * f + 6) (8 * f + 4) r.earlier 0 (λ e. omega arith) ∙ get_or-set_other (at_5 t f r) (8 * f + 5) (8 * f + 4) r.statements 0 (λ e. omega arith) ∙ get_or-set_same (at_4 t f r) (8 * f + 4) r.expressions 0 (simp length-set (omega arith))

    is_statements : word (set_row t f r) (8 * f + 5) ≡ r.statements
    unfolding set_row
    is_statements = get_or-set_other (at_7 t f r) (8 * f + 7) (8 * f + 5) r.blocks 0 (λ e. omega arith) ∙ get_or-set_other (at_6 t f r) (8 * f + 6) (8 * f + 5) r.earlier 0 (λ e. omega arith) ∙ get_or-set_same (at_5 t f r) (8 * f + 5) r.statements 0 (simp length-set (omega arith))

    is_earlier : word (set_row t f r) (8 * f + 6) ≡ r.earlier
    unfolding set_row
    is_earlier = get_or-set_other (at_7 t f r) (8 * f + 7) (8 * f + 6) r.blocks 0 (λ e. omega arith) ∙ get_or-set_same (at_6 t f r) (8 * f + 6) r.earlier 0 (simp length-set (omega arith))

    is_blocks : word (set_row t f r) (8 * f + 7) ≡ r.blocks
    unfolding set_row
    is_blocks = get_or-set_same (at_7 t f r) (8 * f + 7) r.blocks 0 (simp length-set (omega arith))

    pub set_row_same : row_at (set_row t f r) f ≡ r
    unfolding row_at
    set_row_same = rw (is_offset, is_items, is_arguments, is_locals, is_expressions, is_statements, is_earlier, is_blocks)

  pub set_row_apart : (g : ℕ) → g ≢ f → row_at (set_row t f r) g ≡ row_at t g
  unfolding row_at
  set_row_apart g n =
      rw
      (set_row_other (8 * g) (λ a b. n (omega arith)), set_row_other (8 * g + 1) (λ a b. n (omega arith)), set_row_other (8 * g + 2) (λ a b. n (omega arith)), set_row_other (8 * g + 3) (λ a b. n (omega arith)), set_row_other (8 * g + 4) (λ a b. n (omega arith)), set_row_other (8 * g + 5) (λ a b. n (omega arith)), set_row_other (8 * g + 6) (λ a b. n (omega arith)), set_row_other (8 * g + 7) (λ a b. n (omega arith)))
