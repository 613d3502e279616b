-- Words in use do not change: what is listed by them stays, and so do the ended functions, whose rows lie within what is in use.
use mathlib.Core.Path.{◌≡◌, ap, ◌∙◌}
use mathlib.Core.Logic.{◌≢◌}
use mathlib.Core.List.{List, [], ◌∷◌, ◌++◌}
use Prim.Native.Nat.{ℕ, suc, ◌+◌, ◌*◌, ◌<◌, ◌≤◌}
use native.Mathlib.Omega.{arith}
use lib.ListN.{set}
use lib.Seq.{get_or-set_other}
use Rattle.field.specs.Limits.{max_types, max_globals, max_functions}
use Rattle.module.specs.declared.tables.Counts.{Counts}
use Rattle.module.specs.Decode.{tab}
use Rattle.module.specs.Tables.{word, types_at, globals_at, items_at, blocks_at, marks_at, max_items, row_at, items_to, function_of}
use Rattle.module.proofs.Tab.{tab-same}
use Rattle.reading.specs.Progress.{Used}
use Rattle.reading.proofs.Same.{closed_same}

-- the words in use, but for the marks of expressions
pub record Kept (t u : List ℕ) (c : Counts) : Type 0 where
  pub rows : (i : ℕ) → i < 8 * c.functions → word u i ≡ word t i
  pub types : (i : ℕ) → i < c.types → word u (types_at + i) ≡ word t (types_at + i)
  pub globals : (i : ℕ) → i < c.globals → word u (globals_at + i) ≡ word t (globals_at + i)
  pub items : (i : ℕ) → i < items_to c.row → word u (items_at + i) ≡ word t (items_at + i)
  pub blocks : (b : ℕ) → b < c.row.earlier + c.row.blocks → word u (blocks_at + b) ≡ word t (blocks_at + b)

-- the word p is none of them
pub record Free (c : Counts) (p : ℕ) : Type 0 where
  pub rows : (i : ℕ) → i < 8 * c.functions → i ≢ p
  pub types : (i : ℕ) → i < c.types → types_at + i ≢ p
  pub globals : (i : ℕ) → i < c.globals → globals_at + i ≢ p
  pub items : (i : ℕ) → i < items_to c.row → items_at + i ≢ p
  pub blocks : (b : ℕ) → b < c.row.earlier + c.row.blocks → blocks_at + b ≢ p

-- each region has what is counted in it
pub record Regions (c : Counts) : Type 0 where
  pub functions : c.functions ≤ max_functions
  pub types : c.types ≤ max_types
  pub globals : c.globals ≤ max_globals
  pub items : items_to c.row ≤ max_items
  pub blocks : c.row.earlier + c.row.blocks ≤ max_items

pub used_regions : {bytes t : List ℕ} {c : Counts} {at : ℕ} → Used bytes t c at → Regions c
used_regions u =
    let f = u.fits in
    let s = u.size in
    let h = u.here in
    record { functions = f.functions; types = f.types; globals = f.globals; items = omega arith; blocks = omega arith }

module _ (c : Counts) (g : Regions c) where
  pub free_type : c.types < max_types → Free c (types_at + c.types)
  free_type h =
      record {
        rows = λ i l e. omega arith;
        types = λ i l e. omega arith;
        globals = λ i l e. omega arith;
        items = λ i l e. omega arith;
        blocks = λ i l e. omega arith;
      }

  pub free_global : c.globals < max_globals → Free c (globals_at + c.globals)
  free_global h =
      record {
        rows = λ i l e. omega arith;
        types = λ i l e. omega arith;
        globals = λ i l e. omega arith;
        items = λ i l e. omega arith;
        blocks = λ i l e. omega arith;
      }

  pub free_item : items_to c.row < max_items → Free c (items_at + items_to c.row)
  free_item h =
      record {
        rows = λ i l e. omega arith;
        types = λ i l e. omega arith;
        globals = λ i l e. omega arith;
        items = λ i l e. omega arith;
        blocks = λ i l e. omega arith;
      }

  pub free_above : (p : ℕ) → blocks_at + (c.row.earlier + c.row.blocks) ≤ p → Free c p
  free_above p h =
      record {
        rows = λ i l e. omega arith;
        types = λ i l e. omega arith;
        globals = λ i l e. omega arith;
        items = λ i l e. omega arith;
        blocks = λ i l e. omega arith;
      }

pub kept_put : (t : List ℕ) (p v : ℕ) (c : Counts) → Free c p → Kept t (set t p v) c
kept_put t p v c h =
    record {
      rows = λ i l. get_or-set_other t p i v 0 (h.rows i l);
      types = λ i l. get_or-set_other t p (types_at + i) v 0 (h.types i l);
      globals = λ i l. get_or-set_other t p (globals_at + i) v 0 (h.globals i l);
      items = λ i l. get_or-set_other t p (items_at + i) v 0 (h.items i l);
      blocks = λ i l. get_or-set_other t p (blocks_at + i) v 0 (h.blocks i l);
    }

pub kept_twice : {t u w : List ℕ} {c : Counts} → Kept t u c → Kept u w c → Kept t w c
kept_twice a b =
    record {
      rows = λ i l. b.rows i l ∙ a.rows i l;
      types = λ i l. b.types i l ∙ a.types i l;
      globals = λ i l. b.globals i l ∙ a.globals i l;
      items = λ i l. b.items i l ∙ a.items i l;
      blocks = λ i l. b.blocks i l ∙ a.blocks i l;
    }

-- the marks stand above all that is in use beside them
pub kept_below : (t u : List ℕ) (c : Counts) → Regions c → ((i : ℕ) → i < marks_at → word u i ≡ word t i) → Kept t u c
kept_below t u c g same =
    record {
      rows = λ i l. same i (omega arith);
      types = λ i l. same (types_at + i) (omega arith);
      globals = λ i l. same (globals_at + i) (omega arith);
      items = λ i l. same (items_at + i) (omega arith);
      blocks = λ i l. same (blocks_at + i) (omega arith);
    }

-- What is listed by the words at certain places: the same, and with one more.
module _ {A : Type 0} (t u : List ℕ) (of : ℕ → A) (place : ℕ → ℕ) (n : ℕ) (same : (i : ℕ) → i < n → word u (place i) ≡ word t (place i)) where
  pub listed : tab n (λ i. of (word u (place i))) ≡ tab n (λ i. of (word t (place i)))
  listed = tab-same n (λ i. of (word u (place i))) (λ i. of (word t (place i))) (λ i l. ap of (same i l))

  pub listed_more : (v : ℕ) → word u (place n) ≡ v → tab (n + 1) (λ i. of (word u (place i))) ≡ tab n (λ i. of (word t (place i))) ++ (of v ∷ [])
  unfolding tab
  listed_more v e =
      let o : n + 1 ≡ suc n = omega arith in
      rw (o, listed, e)

module _ (bytes t u : List ℕ) (c : Counts) (at : ℕ) (used : Used bytes t c at) (k : Kept t u c) where
  pub row_kept : (f : ℕ) → f < c.functions → row_at u f ≡ row_at t f
  unfolding row_at
  row_kept f l =
      rw
      (k.rows (8 * f) (omega arith), k.rows (8 * f + 1) (omega arith), k.rows (8 * f + 2) (omega arith), k.rows (8 * f + 3) (omega arith), k.rows (8 * f + 4) (omega arith), k.rows (8 * f + 5) (omega arith), k.rows (8 * f + 6) (omega arith), k.rows (8 * f + 7) (omega arith))

  function_kept : (f : ℕ) → f < c.functions → function_of bytes u f ≡ function_of bytes t f
  unfolding function_of
  function_kept f l =
      let a = used.items f l in
      let b = used.blocks f l in
      rw (row_kept f l) (closed_same bytes u t (row_at t f) (λ i h. k.items i (omega arith)) (λ i h. k.blocks i (omega arith)))

  pub functions-kept : tab c.functions (function_of bytes u) ≡ tab c.functions (function_of bytes t)
  functions-kept = tab-same c.functions (function_of bytes u) (function_of bytes t) function_kept
