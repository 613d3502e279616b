-- Where a function ends, the tables stand for what the definition has then, and they are as far in use as before.
use mathlib.Core.Path.{◌≡◌, refl, sym, ap}
use mathlib.Core.Bool.{Bool, true, false}
use mathlib.Core.List.{List, [], ◌∷◌, ◌++◌}
use Prim.Native.Nat.{ℕ, suc, ◌+◌, ◌*◌, ◌<◌, ◌≤◌}
use native.Mathlib.Omega.{arith}
use native.Mathlib.Decide.{ℕ_discrete}
use lib.ListN.{length, get_or}
use borrow.Author.Tests.{leb-true}
use Rattle.field.specs.Limits.{max_functions}
use Rattle.module.specs.declared.tables.Row.{Row}
use Rattle.module.specs.declared.tables.Counts.{Counts}
use Rattle.module.specs.Record.{body_at}
use Rattle.module.specs.Decode.{tab, type_of}
use Rattle.module.specs.Reading.{Reading, in_arguments, closed}
use Rattle.module.specs.declared.record.Mark.{Mark}
use Rattle.module.specs.declared.record.Mark.TheVariants.{TY, GV, FN, AR, LV, EX, BK, ST}
use Rattle.module.specs.File.{go, ended, ended_at}
use Rattle.module.specs.Tables.{word, types_at, globals_at, items_at, blocks_at, row_at, set_row, items_to, open_of, function_of, reading_of}
use Rattle.std.specs.Prelude.{Result, Ok}
use Rattle.field.specs.declared.refusal.Refusal.{Refusal}
use Rattle.reading.specs.Progress.{Used, Progress, Ready}
use Rattle.reading.specs.Ends.{next_of, one_more, is_open, rule_of, step_by, table_by, step_ended, table_ended, step_at, table_at}
use Rattle.reading.proofs.Rows.{length-set_row, set_row_other, set_row_same, set_row_apart}
use Rattle.reading.proofs.Same.{open_same}
use Rattle.reading.proofs.Kept.{Kept, listed, functions-kept}

module _ (bytes t : List ℕ) (c : Counts) (number : c.functions < max_functions) where
  -- what stands above the rows is not touched
  above : (i : ℕ) → types_at ≤ i → word (set_row t c.functions c.row) i ≡ word t i
  above i h = set_row_other t c.functions c.row i (λ a b. omega arith)

  same : (r : Row) → open_of bytes (set_row t c.functions c.row) r ≡ open_of bytes t r
  same r =
      open_same bytes (set_row t c.functions c.row) t r (λ i l. above _ (omega arith)) (λ i l. above _ (omega arith)) (λ e l. above _ (omega arith))

  module _ (room : 8 * c.functions + 8 ≤ length t) where
    function_new : function_of bytes (set_row t c.functions c.row) c.functions ≡ closed (open_of bytes t c.row)
    unfolding function_of
    function_new = rw (set_row_same t c.functions c.row room, same c.row)

    module _ (at : ℕ) (used : Used bytes t c at) where
      kept : Kept t (set_row t c.functions c.row) c
      kept =
          record {
            rows = λ i l. set_row_other t c.functions c.row i (λ a b. omega arith);
            types = λ i l. above (types_at + i) (omega arith);
            globals = λ i l. above (globals_at + i) (omega arith);
            items = λ i l. above (items_at + i) (omega arith);
            blocks = λ i l. above (blocks_at + i) (omega arith);
          }

      reading_ended : (r : Reading) → r ≡ reading_of bytes t c → reading_of bytes (set_row t c.functions c.row) (one_more c) ≡ record { stage = r.stage; types = r.types; globals = r.globals; functions = r.functions ++ (closed r.open_one ∷ []); open_one = r.open_one }
      unfolding reading_of tab
      reading_ended r e =
          let o : c.functions + 1 ≡ suc c.functions = omega arith in
          rw
          (e, o, same c.row, function_new, functions-kept bytes t (set_row t c.functions c.row) c at used kept, listed t (set_row t c.functions c.row) (λ k. type_of (body_at bytes k)) (λ i. types_at + i) c.types kept.types, listed t (set_row t c.functions c.row) (λ k. get_or (body_at bytes k) 0 0) (λ i. globals_at + i) c.globals kept.globals)

module _ (bytes t : List ℕ) (c : Counts) (at : ℕ) (p : Progress bytes t c at) where
  number : is_open c ≡ true → c.functions < max_functions
  number o = p.number (leb-true in_arguments c.stage o)

  room : is_open c ≡ true → 8 * c.functions + 8 ≤ length t
  room o = omega (arith, number o, p.used.table)

  next_by : (o r : Bool) → is_open c ≡ o → rule_of bytes t c ≡ r → next_of bytes (table_by o r t c) (step_by o r c) ≡ ended (reading_of bytes t c)
  unfolding next_of ended reading_of
  next_by false r e k = rw e
  next_by true false e k = rw (e, k)
  next_by true true e k = rw (e, k) (ap go (reading_ended bytes t c (number e) (room e) at p.used (reading_of bytes t c) refl))

  pub ended_is : next_of bytes (table_ended bytes t c) (step_ended bytes t c) ≡ ended (reading_of bytes t c)
  unfolding table_ended step_ended
  ended_is = next_by (is_open c) (rule_of bytes t c) refl refl

  -- the rows with the one that is put down: what holds of it and of the earlier ones holds of all
  each : (P : Row → Type 0) → is_open c ≡ true → P c.row → ((f : ℕ) → f < c.functions → P (row_at t f)) → (f : ℕ) → f < c.functions + 1 → P (row_at (set_row t c.functions c.row) f)
  each P o new old f l =
      elim (ℕ_discrete f c.functions) [
        | yes e ↦ rw (e, set_row_same t c.functions c.row (room o)) new
        | no n ↦ rw (set_row_apart t c.functions c.row f n) (old f (omega arith))
      ]

  follows : is_open c ≡ true → (f : ℕ) → suc f < c.functions + 1 → items_to (row_at (set_row t c.functions c.row) f) ≤ (row_at (set_row t c.functions c.row) (suc f)).items
  follows o f l =
      elim (ℕ_discrete (suc f) c.functions) [
        | yes e ↦ rw (e, set_row_same t c.functions c.row (room o), set_row_apart t c.functions c.row f (λ q. omega arith)) (p.before f (omega arith))
        | no n ↦ rw (set_row_apart t c.functions c.row f (λ q. omega arith), set_row_apart t c.functions c.row (suc f) n) (p.used.next f (omega arith))
      ]

  used_more : is_open c ≡ true → Used bytes (set_row t c.functions c.row) (one_more c) at
  used_more o =
      let u = p.used in
      let n = number o in
      record {
        fits = record { room = u.fits.room; types = u.fits.types; globals = u.fits.globals; functions = omega arith; expressions = u.fits.expressions };
        table = rw (length-set_row t c.functions c.row) u.table;
        size = u.size;
        here = u.here;
        no_locals = u.no_locals;
        no_expressions = u.no_expressions;
        no_statements = u.no_statements;
        items = each (λ r. items_to r ≤ items_to c.row) o (omega arith) u.items;
        blocks = each (λ r. r.earlier + r.blocks ≤ c.row.earlier + c.row.blocks) o (omega arith) u.blocks;
        next = follows o;
      }

  went_by : (o r : Bool) → is_open c ≡ o → (d : Counts) → step_by o r c ≡ Ok d → Used bytes (table_by o r t c) d at × (d.stage ≡ c.stage)
  went_by false r e d q =
      let k : c ≡ d = cc in
      rw (sym k) (p.used, refl)
  went_by true false e d q =
      let z : ◌≡◌ {A = ℕ} 0 1 = cc in
      absurd (omega arith)
  went_by true true e d q =
      let k : one_more c ≡ d = cc in
      rw (sym k) (used_more e, refl)

  -- the file goes on after the function
  pub ended_used : (d : Counts) → step_ended bytes t c ≡ Ok d → Used bytes (table_ended bytes t c) d at × (d.stage ≡ c.stage)
  unfolding table_ended step_ended
  ended_used d q = went_by (is_open c) (rule_of bytes t c) refl d q

  pub at_is : (mark : Mark) → next_of bytes (table_at bytes t mark c) (step_at bytes t mark c) ≡ ended_at mark (reading_of bytes t c)
  unfolding next_of table_at step_at ended_at
  at_is TY = refl
  at_is GV = refl
  at_is FN = ended_is
  at_is AR = refl
  at_is LV = refl
  at_is EX = refl
  at_is BK = refl
  at_is ST = refl

  -- a record of any mark but FN finds the counts as they were
  unmoved : (d : Counts) → ◌≡◌ {A = Result Counts Refusal} (Ok c) (Ok d) → Progress bytes t d at × (d.stage ≡ c.stage)
  unmoved d q =
      let k : c ≡ d = cc in
      rw (sym k) (p, refl)

  pub at_ready : (mark : Mark) (d : Counts) → step_at bytes t mark c ≡ Ok d → Ready mark bytes (table_at bytes t mark c) d at × (d.stage ≡ c.stage)
  unfolding table_at step_at
  at_ready TY d q = unmoved d q
  at_ready GV d q = unmoved d q
  at_ready FN d q = ended_used d q
  at_ready AR d q = unmoved d q
  at_ready LV d q = unmoved d q
  at_ready EX d q = unmoved d q
  at_ready BK d q = unmoved d q
  at_ready ST d q = unmoved d q
