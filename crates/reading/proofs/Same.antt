-- Words that a row uses and that two tables share: it stands for the same function in both.
use mathlib.Core.Path.{◌≡◌, ap}
use mathlib.Core.List.{List}
use Prim.Native.Nat.{ℕ, ◌+◌, ◌<◌, ◌≤◌}
use native.Mathlib.Omega.{arith}
use lib.Dec.{eqb}
use lib.ListN.{get_or}
use Rattle.module.specs.declared.tables.Row.{Row}
use Rattle.module.specs.Record.{body_at}
use Rattle.module.specs.Decode.{tab, arg_of, typed_of, st_of}
use Rattle.module.specs.Reading.{closed}
use Rattle.module.specs.Tables.{word, items_at, blocks_at, marks_at, items_to, locals_from, expressions_from, statements_from, item_body, starts_of, emitted_of, open_of}
use Rattle.module.proofs.Tab.{tab-same}

module _ (bytes t u : List ℕ) (r : Row) (items : (i : ℕ) → i < items_to r → word t (items_at + i) ≡ word u (items_at + i)) (blocks : (b : ℕ) → b < r.earlier + r.blocks → word t (blocks_at + b) ≡ word u (blocks_at + b)) where
  -- a sort of items, n of them from `from` on, by what the fields of each mean
  pub sort : {A : Type 0} (of : List ℕ → A) (n from : ℕ) → from + n ≤ items_to r → tab n (λ i. of (item_body bytes t (from + i))) ≡ tab n (λ i. of (item_body bytes u (from + i)))
  sort of n from h =
      tab-same n (λ i. of (item_body bytes t (from + i))) (λ i. of (item_body bytes u (from + i)))
      (λ i l. ap (λ (k : ℕ). of (body_at bytes k)) (items (from + i) (omega arith)))

  pub starts : starts_of t r ≡ starts_of u r
  starts =
      tab-same r.blocks (λ b. word t (blocks_at + (r.earlier + b))) (λ b. word u (blocks_at + (r.earlier + b)))
      (λ b l. blocks (r.earlier + b) (omega arith))

  pub closed_same : closed (open_of bytes t r) ≡ closed (open_of bytes u r)
  unfolding closed open_of
  closed_same =
      rw
      (sort arg_of r.arguments r.items (omega arith), sort (λ fs. get_or fs 0 0) r.locals (locals_from r) (omega arith), sort typed_of r.expressions (expressions_from r) (omega arith), sort st_of r.statements (statements_from r) (omega arith), starts)

  pub open_same : ((e : ℕ) → e < r.expressions → word t (marks_at + e) ≡ word u (marks_at + e)) → open_of bytes t r ≡ open_of bytes u r
  unfolding open_of emitted_of
  open_same marks =
      rw
      (sort arg_of r.arguments r.items (omega arith), sort (λ fs. get_or fs 0 0) r.locals (locals_from r) (omega arith), sort typed_of r.expressions (expressions_from r) (omega arith), sort st_of r.statements (statements_from r) (omega arith), starts, tab-same r.expressions (λ e. eqb (word t (marks_at + e)) 1) (λ e. eqb (word u (marks_at + e)) 1) (λ e l. ap (λ (k : ℕ). eqb k 1) (marks e l)))
