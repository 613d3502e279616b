-- What each turn of the loops adds: bases that the table finds alike, types that are not alike, and a type's entry in the table.
use Prim.Native.Nat.{ℕ, ◌+◌, ◌<◌, ◌≤◌}
use native.Mathlib.Omega.{arith}
use mathlib.Core.Path.{◌≡◌, sym, ap, ◌∙◌}
use mathlib.Core.Bool.{Bool, true, false}
use mathlib.Core.List.{List}
use lib.Dec.{eqb}
use lib.ListN.{length, get_or}
use borrow.Author.Count.{below_more}
use borrow.Author.Tests.{eq-eqb, eqb-true}
use Rattle.module.specs.Module.{TypeInner, Opaque}
use Rattle.context.specs.Types.{type_count, types_of}
use Rattle.bindings.proofs.Returning.{types_long}
use Rattle.clearance.specs.Scope.{kind, bases, pairwise, alike_inner}
use Rattle.judge.specs.Alike.{alike_in, by_table, Lower, Lowest, Upto, AlikeTable}
use Rattle.judge.proofs.Pairwise.{fails, pairwise-long, pairwise-at, pairwise-all}
use Rattle.judge.proofs.Equivalence.{alike_refl}
use Rattle.judge.proofs.Table.{inner_by_table, upto_all}

-- the first i of two lists of types are alike by the table
pub record Compared (table xs ys : List ℕ) (i : ℕ) : Type 0 where
  pub each : (k : ℕ) → k < i → by_table table (get_or xs k 0) (get_or ys k 0) ≡ true

module _ (table xs ys : List ℕ) where
  pub compared_none : Compared table xs ys 0
  compared_none = record { each = λ k l. absurd (omega arith) }

  pub lengths_differ : {n m : ℕ} → n ≡ length xs → m ≡ length ys → (n ≡ m → ⊥) → false ≡ pairwise (by_table table) xs ys
  lengths_differ e f d =
      sym (fails (pairwise (by_table table) xs ys) (λ h. d (e ∙ (pairwise-long (by_table table) xs ys h ∙ sym f))))

  -- the entries u and v of the types that stand at i
  module _ {i x y u v : ℕ} (l : i < length xs) (a : x ≡ get_or xs i 0) (b : y ≡ get_or ys i 0) (e : u ≡ get_or table x 0) (f : v ≡ get_or table y 0) where
    entry_x : u ≡ get_or table (get_or xs i 0) 0
    entry_x = e ∙ ap (λ (z : ℕ). get_or table z 0) a

    entry_y : v ≡ get_or table (get_or ys i 0) 0
    entry_y = f ∙ ap (λ (z : ℕ). get_or table z 0) b

    pub entries_differ : (u ≡ v → ⊥) → false ≡ pairwise (by_table table) xs ys
    unfolding by_table
    entries_differ d =
        sym (fails (pairwise (by_table table) xs ys)
        (λ h. d (entry_x ∙ (eqb-true (get_or table (get_or xs i 0) 0) (get_or table (get_or ys i 0) 0) (pairwise-at (by_table table) xs ys h i l) ∙ sym entry_y))))

    pub compared_next : u ≡ v → Compared table xs ys i → Compared table xs ys (i + 1)
    unfolding by_table
    compared_next d C =
        record {
          each =
              below_more (λ (k : ℕ). by_table table (get_or xs k 0) (get_or ys k 0) ≡ true) i C.each
              (eq-eqb (get_or table (get_or xs i 0) 0) (get_or table (get_or ys i 0) 0) (sym entry_x ∙ (d ∙ entry_y)));
        }

  pub compared_all : {n m i : ℕ} → n ≡ length xs → m ≡ length ys → n ≡ m → n ≤ i → Compared table xs ys i → true ≡ pairwise (by_table table) xs ys
  compared_all e f d l C = sym (pairwise-all (by_table table) xs ys (omega arith) (λ k h. C.each k (omega arith)))

-- the insides, by the kinds' answer and the bases'
module _ (same : ℕ → ℕ → Bool) (x y : TypeInner) {k : Bool} (e : k ≡ pairwise eqb (kind x) (kind y)) where
  pub inner_bases : {r : Bool} → k ≡ true → r ≡ pairwise same (bases x) (bases y) → r ≡ alike_inner same x y
  unfolding alike_inner
  inner_bases h f = rw (← e, h) f

  pub inner_differs : k ≡ false → false ≡ alike_inner same x y
  unfolding alike_inner
  inner_differs h = rw (← e, h)

-- none of the types below j is alike to n
pub record Passed (types : List TypeInner) (n j : ℕ) : Type 0 where
  pub low : j ≤ n
  pub each : (i : ℕ) → i < j → alike_in types i n ≡ false

module _ (types : List TypeInner) (L : Lower types) (n : ℕ) where
  pub passed_none : Passed types n 0
  passed_none = record { low = omega arith; each = λ i l. absurd (omega arith) }

  module _ (table : List ℕ) (U : Upto types table n) {j : ℕ} {r : Bool} (e : r ≡ alike_inner (by_table table) (get_or types j Opaque) (get_or types n Opaque)) (P : Passed types n j) where
    pub passed_found : r ≡ true → Lowest types n j
    passed_found h = record { low = P.low; is = sym (inner_by_table types L table n U j P.low) ∙ (sym e ∙ h); first = P.each }

    pub passed_next : j < n → r ≡ false → Passed types n (j + 1)
    passed_next l h =
        record {
          low = omega arith;
          each =
              below_more (λ (i : ℕ). alike_in types i n ≡ false) j P.each
              (sym (inner_by_table types L table n U j P.low) ∙ (sym e ∙ h));
        }

  pub passed_all : {j : ℕ} → n ≤ j → Passed types n j → Lowest types n n
  passed_all l P = record { low = omega arith; is = alike_refl types L n; first = λ i h. P.each i (omega arith) }

-- the whole table
pub filled : (rows table : List ℕ) {n k : ℕ} → Lower (types_of rows) → n ≡ type_count rows → length table ≡ n → n ≤ k → Upto (types_of rows) table k → AlikeTable (types_of rows) table
filled rows table {n} {k} L e f l U =
    upto_all (types_of rows) L table k (f ∙ (e ∙ sym (types_long rows))) (omega (arith, types_long rows)) U
