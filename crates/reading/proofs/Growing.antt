-- The open function with one record more, as its row and the tables have it: each sort of items stays, or has the new one at its end, or
-- there is none of it yet.
use mathlib.Core.Path.{◌≡◌, refl}
use mathlib.Core.List.{List, [], ◌∷◌, ◌++◌}
use Prim.Native.Nat.{ℕ, ◌+◌, ◌<◌, ◌≤◌}
use native.Mathlib.Omega.{arith}
use lib.Dec.{eqb}
use lib.ListN.{get_or}
use Rattle.module.specs.declared.record.Mark.TheVariants.{FN, AR, LV, EX, BK, ST}
use Rattle.module.specs.declared.tables.Row.{Row}
use Rattle.module.specs.declared.tables.Counts.{Counts}
use Rattle.module.specs.Record.{body_at}
use Rattle.module.specs.Decode.{tab, arg_of, typed_of, st_of}
use Rattle.module.specs.Reading.{emit_by, opened, grown}
use Rattle.module.specs.Tables.{word, items_at, blocks_at, marks_at, items_to, locals_from, expressions_from, statements_from, item_body, emitted_of, starts_of, open_of}
use Rattle.module.proofs.Tab.{length-tab, tab-same}
use Rattle.reading.specs.Progress.{row_with}
use Rattle.reading.proofs.Kept.{Kept, listed, listed_more}
use Rattle.reading.proofs.Same.{sort, starts, open_same}

-- a function that begins has nothing yet
pub open_new : (bytes t : List ℕ) (at : ℕ) (r : Row) → open_of bytes t (row_with at FN r) ≡ opened (body_at bytes at)
unfolding open_of emitted_of row_with opened tab
open_new bytes t at r = refl

none_of : {A : Type 0} (n : ℕ) (f g : ℕ → A) → n ≡ 0 → tab n f ≡ tab n g
none_of n f g z = tab-same n f g (λ i l. absurd (omega arith))

-- the marks of this row's expressions are the same in both tables
abbrev pub Marked : List ℕ → List ℕ → Row → Type 0
Marked t u r = (e : ℕ) → e < r.expressions → word u (marks_at + e) ≡ word t (marks_at + e)

pub emitted_same : (t u : List ℕ) (r : Row) → Marked t u r → emitted_of u r.expressions ≡ emitted_of t r.expressions
unfolding emitted_of
emitted_same t u r m = listed t u (λ w. eqb w 1) (λ e. marks_at + e) r.expressions m

module _ (bytes t u : List ℕ) (c : Counts) (k : Kept t u c) (at : ℕ) where
  abbrev row : Row
  row = c.row

  -- a sort of items that the row keeps, that has one more, that has none
  old : {A : Type 0} (of : List ℕ → A) (n from : ℕ) → from + n ≤ items_to row → tab n (λ i. of (item_body bytes u (from + i))) ≡ tab n (λ i. of (item_body bytes t (from + i)))
  old of n from h = sort bytes u t row k.items k.blocks of n from h

  new : {A : Type 0} (of : List ℕ → A) (n from : ℕ) → from + n ≡ items_to row → word u (items_at + items_to row) ≡ at → tab (n + 1) (λ i. of (item_body bytes u (from + i))) ≡ tab n (λ i. of (item_body bytes t (from + i))) ++ (of (body_at bytes at) ∷ [])
  new of n from h w =
      listed_more t u (λ v. of (body_at bytes v)) (λ i. items_at + (from + i)) n (λ i l. k.items (from + i) (omega arith)) at (rw h w)

  none : {A : Type 0} (of : List ℕ → A) (n from from2 : ℕ) → n ≡ 0 → tab n (λ i. of (item_body bytes u (from + i))) ≡ tab n (λ i. of (item_body bytes t (from2 + i)))
  none of n from from2 z = none_of n (λ i. of (item_body bytes u (from + i))) (λ i. of (item_body bytes t (from2 + i))) z

  same_starts : starts_of u row ≡ starts_of t row
  same_starts = starts bytes u t row k.items k.blocks

  pub open_kept : Marked t u row → open_of bytes u row ≡ open_of bytes t row
  open_kept m = open_same bytes u t row k.items k.blocks m

  module _ (w : word u (items_at + items_to row) ≡ at) where
    pub open_argument : Marked t u row → row.locals ≡ 0 → row.expressions ≡ 0 → row.statements ≡ 0 → open_of bytes u (row_with at AR row) ≡ grown AR (body_at bytes at) (open_of bytes t row)
    unfolding open_of row_with grown
    open_argument m a b d =
        rw
        (new arg_of row.arguments row.items (omega arith) w, none (λ fs. get_or fs 0 0) row.locals (row.items + (row.arguments + 1)) (locals_from row) a, none typed_of row.expressions (row.items + (row.arguments + 1) + row.locals) (expressions_from row) b, emitted_same t u row m, none st_of row.statements (row.items + (row.arguments + 1) + row.locals + row.expressions) (statements_from row) d, same_starts)

    pub open_local : Marked t u row → row.expressions ≡ 0 → row.statements ≡ 0 → open_of bytes u (row_with at LV row) ≡ grown LV (body_at bytes at) (open_of bytes t row)
    unfolding open_of row_with grown
    open_local m b d =
        rw
        (old arg_of row.arguments row.items (omega arith), new (λ fs. get_or fs 0 0) row.locals (locals_from row) (omega arith) w, none typed_of row.expressions (locals_from row + (row.locals + 1)) (expressions_from row) b, emitted_same t u row m, none st_of row.statements (locals_from row + (row.locals + 1) + row.expressions) (statements_from row) d, same_starts)

    pub open_expression : Marked t u row → word u (marks_at + row.expressions) ≡ 0 → row.statements ≡ 0 → open_of bytes u (row_with at EX row) ≡ grown EX (body_at bytes at) (open_of bytes t row)
    unfolding open_of emitted_of row_with grown
    open_expression m z d =
        rw
        (old arg_of row.arguments row.items (omega arith), old (λ fs. get_or fs 0 0) row.locals (locals_from row) (omega arith), new typed_of row.expressions (expressions_from row) (omega arith) w, listed_more t u (λ v. eqb v 1) (λ e. marks_at + e) row.expressions m 0 z, none st_of row.statements (expressions_from row + (row.expressions + 1)) (statements_from row) d, same_starts)

    pub open_statement : emitted_of u row.expressions ≡ emit_by (body_at bytes at) (emitted_of t row.expressions) → open_of bytes u (row_with at ST row) ≡ grown ST (body_at bytes at) (open_of bytes t row)
    unfolding open_of row_with grown
    open_statement e =
        rw
        (old arg_of row.arguments row.items (omega arith), old (λ fs. get_or fs 0 0) row.locals (locals_from row) (omega arith), old typed_of row.expressions (expressions_from row) (omega arith), e, new st_of row.statements (statements_from row) (omega arith) w, same_starts)

  pub open_block : Marked t u row → word u (blocks_at + (row.earlier + row.blocks)) ≡ row.statements → open_of bytes u (row_with at BK row) ≡ grown BK (body_at bytes at) (open_of bytes t row)
  unfolding open_of row_with grown
  open_block m w =
      rw
      (old arg_of row.arguments row.items (omega arith), old (λ fs. get_or fs 0 0) row.locals (locals_from row) (omega arith), old typed_of row.expressions (expressions_from row) (omega arith), emitted_same t u row m, old st_of row.statements (statements_from row) (omega arith), listed_more t u (λ v. v) (λ b. blocks_at + (row.earlier + b)) row.blocks (λ b l. k.blocks (row.earlier + b) (omega arith)) row.statements w, length-tab row.statements (λ i. st_of (item_body bytes t (statements_from row + i))))
