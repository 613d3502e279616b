-- When all has been read, the tables with the counts of the whole stand for the module, and its rows lie one after the other.
use mathlib.Core.Path.{◌≡◌, ◌∙◌}
use mathlib.Core.List.{List}
use Prim.Native.Nat.{ℕ, suc, ◌+◌, ◌<◌, ◌≤◌}
use native.Mathlib.Omega.{arith}
use lib.ListN.{length, get_or, set, length-set}
use lib.Seq.{get_or-set_same, get_or-set_other}
use Rattle.module.specs.declared.tables.Counts.{Counts}
use Rattle.module.specs.Record.{body_at}
use Rattle.module.specs.Decode.{type_of}
use Rattle.module.specs.File.{accepted, go, answer_of}
use Rattle.module.specs.Tables.{word, words, types_at, globals_at, head_at, row_at, reading_of, module_of}
use Rattle.access.specs.Laid.{Laid}
use Rattle.reading.specs.Progress.{Used}
use Rattle.reading.specs.Reads.{headed}
use Rattle.reading.proofs.Kept.{Kept, used_regions, kept_below, listed, row_kept, functions-kept}

module _ (t : List ℕ) (c : Counts) where
  -- the table with the first of the counts, and with two
  abbrev one : List ℕ
  one = set t head_at c.types

  abbrev two : List ℕ
  two = set one (head_at + 1) c.globals

  below : (i : ℕ) → i < head_at → word (headed t c) i ≡ word t i
  unfolding headed
  below i h =
      get_or-set_other two (head_at + 2) i c.functions 0 (λ e. omega arith)
      ∙ get_or-set_other one (head_at + 1) i c.globals 0 (λ e. omega arith)
      ∙ get_or-set_other t head_at i c.types 0 (λ e. omega arith)

  module _ (table : words ≤ length t) where
    is_types : word (headed t c) head_at ≡ c.types
    unfolding headed
    is_types =
        get_or-set_other two (head_at + 2) head_at c.functions 0 (λ e. omega arith)
        ∙ get_or-set_other one (head_at + 1) head_at c.globals 0 (λ e. omega arith)
        ∙ get_or-set_same t head_at c.types 0 (omega arith)

    is_globals : word (headed t c) (head_at + 1) ≡ c.globals
    unfolding headed
    is_globals = get_or-set_other two (head_at + 2) (head_at + 1) c.functions 0 (λ e. omega arith) ∙ get_or-set_same one (head_at + 1) c.globals 0 (simp length-set (omega arith))

    is_functions : word (headed t c) (head_at + 2) ≡ c.functions
    unfolding headed
    is_functions = get_or-set_same two (head_at + 2) c.functions 0 (simp length-set (omega arith))

module _ (bytes t : List ℕ) (c : Counts) (at : ℕ) (u : Used bytes t c at) where
  kept : Kept t (headed t c) c
  kept = kept_below t (headed t c) c (used_regions u) (λ i h. below t c i (omega arith))

  pub module_is : answer_of (go (reading_of bytes t c)) ≡ accepted (module_of bytes (headed t c))
  unfolding module_of reading_of
  module_is =
      rw
      (is_types t c u.table, is_globals t c u.table, is_functions t c u.table, functions-kept bytes t (headed t c) c at u kept, listed t (headed t c) (λ k. type_of (body_at bytes k)) (λ i. types_at + i) c.types kept.types, listed t (headed t c) (λ k. get_or (body_at bytes k) 0 0) (λ i. globals_at + i) c.globals kept.globals)

  row_same : (f : ℕ) → f < c.functions → row_at (headed t c) f ≡ row_at t f
  row_same = row_kept bytes t (headed t c) c at u kept

  pub laid : Laid (headed t c)
  laid =
      record {
        next =
            λ f h.
            let l : suc f < c.functions = rw (is_functions t c u.table) at h in
            rw (row_same f (omega arith), row_same (suc f) l) (u.next f l);
        within =
            λ f h.
            let l : f < c.functions = rw (is_functions t c u.table) at h in
            rw (row_same f l) (omega (arith, u.items f l, (used_regions u).items));
      }
