-- One record more: the tables with it stand for what has been read with it, and they are ready for the next record.
use mathlib.Core.Path.{◌≡◌, refl, ap, ◌∙◌}
use mathlib.Core.Bool.{true}
use mathlib.Core.List.{List}
use Prim.Native.Nat.{ℕ, suc, ◌+◌, ◌<◌, ◌≤◌}
use native.Mathlib.Omega.{arith}
use lib.ListN.{length, get_or, set, length-set}
use lib.Seq.{get_or-set_same, get_or-set_other}
use Rattle.module.specs.declared.record.Mark.{Mark}
use Rattle.module.specs.declared.record.Mark.TheVariants.{TY, GV, FN, AR, LV, EX, BK, ST}
use Rattle.module.specs.declared.tables.Row.{Row}
use Rattle.module.specs.declared.tables.Counts.{Counts}
use Rattle.module.specs.Record.{length_at, body_at}
use Rattle.module.specs.Decode.{tab, type_of}
use Rattle.module.specs.Reading.{stage_of, emit_by, types_with, globals_with, grown, added}
use Rattle.module.specs.File.{fine}
use Rattle.module.specs.Tables.{word, types_at, globals_at, items_at, blocks_at, marks_at, words, max_items, row_at, items_to, type_body, global_body, open_of, scope_in, reading_of}
use Rattle.reading.specs.Progress.{mark_by, with_item, table_with, row_with, types_by, globals_by, counts_with, Fits, Used, Progress, Ready, Admitted, Adds}
use Rattle.reading.proofs.Marking.{length-mark_by, below_mark_by, flags_are, emit_within}
use Rattle.reading.proofs.Kept.{Kept, Regions, used_regions, free_type, free_global, free_item, free_above, kept_put, kept_twice, kept_below, listed, listed_more, row_kept, functions-kept}
use Rattle.reading.proofs.Growing.{Marked, emitted_same, open_new, open_kept, open_argument, open_local, open_expression, open_statement, open_block}
use Rattle.reading.proofs.Told.{grows, fits_with, Staged, staged_of, staged_with, ready_used, before_with, number_with}

length-with : (bytes t : List ℕ) (c : Counts) (at : ℕ) (mark : Mark) → length (table_with bytes t at mark c) ≡ length t
unfolding table_with
length-with bytes t c at TY = length-set t (types_at + c.types) at
length-with bytes t c at GV = length-set t (globals_at + c.globals) at
length-with bytes t c at FN = refl
length-with bytes t c at AR = length-set t (items_at + items_to c.row) at
length-with bytes t c at LV = length-set t (items_at + items_to c.row) at
length-with bytes t c at EX = length-set (with_item t at c.row) (marks_at + c.row.expressions) 0 ∙ length-set t (items_at + items_to c.row) at
length-with bytes t c at BK = length-set t (blocks_at + (c.row.earlier + c.row.blocks)) c.row.statements
length-with bytes t c at ST = length-mark_by (body_at bytes at) (with_item t at c.row) ∙ length-set t (items_at + items_to c.row) at

-- a word below the marks leaves them
marked_put : (t : List ℕ) (p v : ℕ) (r : Row) → p < marks_at → Marked t (set t p v) r
marked_put t p v r h e l = get_or-set_other t p (marks_at + e) v 0 (λ q. omega arith)

module _ (bytes t : List ℕ) (c : Counts) (at : ℕ) (used : Used bytes t c at) (whole : at + 4 + length_at bytes at ≤ length bytes) where
  regions : Regions c
  regions = used_regions used

  item_room : items_to c.row < max_items
  item_room =
      let f = used.fits in
      let s = used.size in
      omega arith

  block_room : c.row.earlier + c.row.blocks < max_items
  block_room =
      let f = used.fits in
      let s = used.size in
      omega arith

  kept_item : Kept t (with_item t at c.row) c
  kept_item = kept_put t (items_at + items_to c.row) at c (free_item c regions item_room)

  kept_with : (mark : Mark) (n : ℕ) → Fits (counts_with at mark c) n → Kept t (table_with bytes t at mark c) c
  unfolding table_with counts_with types_by globals_by
  kept_with TY n f = kept_put t (types_at + c.types) at c (free_type c regions (omega (arith, f.types)))
  kept_with GV n f = kept_put t (globals_at + c.globals) at c (free_global c regions (omega (arith, f.globals)))
  kept_with FN n f = kept_below t t c regions (λ i l. refl)
  kept_with AR n f = kept_item
  kept_with LV n f = kept_item
  kept_with EX n f =
      let b = block_room in
      kept_twice kept_item (kept_put (with_item t at c.row) (marks_at + c.row.expressions) 0 c (free_above c regions (marks_at + c.row.expressions) (omega arith)))
  kept_with BK n f =
      let p : ℕ = blocks_at + (c.row.earlier + c.row.blocks) in
      kept_put t p c.row.statements c (free_above c regions p (omega arith))
  kept_with ST n f = kept_twice kept_item (kept_below (with_item t at c.row) (mark_by (body_at bytes at) (with_item t at c.row)) c regions (below_mark_by (body_at bytes at) (with_item t at c.row)))

  -- the word that is written
  item_new : word (with_item t at c.row) (items_at + items_to c.row) ≡ at
  item_new =
      let i = item_room in
      let l = used.table in
      get_or-set_same t (items_at + items_to c.row) at 0 (omega arith)

  types-old : (u : List ℕ) → Kept t u c → tab c.types (λ i. type_of (type_body bytes u i)) ≡ tab c.types (λ i. type_of (type_body bytes t i))
  types-old u k = listed t u (λ w. type_of (body_at bytes w)) (λ i. types_at + i) c.types k.types

  globals-old : (u : List ℕ) → Kept t u c → tab c.globals (λ i. get_or (global_body bytes u i) 0 0) ≡ tab c.globals (λ i. get_or (global_body bytes t i) 0 0)
  globals-old u k = listed t u (λ w. get_or (body_at bytes w) 0 0) (λ i. globals_at + i) c.globals k.globals

  -- each part of what has been read, by the record's mark
  module _ (n : ℕ) where
    types-with : (mark : Mark) → Fits (counts_with at mark c) n → Kept t (table_with bytes t at mark c) c → tab (types_by mark c.types) (λ i. type_of (type_body bytes (table_with bytes t at mark c) i)) ≡ types_with mark (body_at bytes at) (tab c.types (λ i. type_of (type_body bytes t i)))
    unfolding types_by types_with counts_with table_with
    types-with TY f k =
        let l = used.table in
        let w : word (table_with bytes t at TY c) (types_at + c.types) ≡ at = get_or-set_same t (types_at + c.types) at 0 (omega (arith, f.types)) in
        listed_more t (table_with bytes t at TY c) (λ v. type_of (body_at bytes v)) (λ i. types_at + i) c.types k.types at w
    types-with GV f k = types-old (table_with bytes t at GV c) k
    types-with FN f k = types-old (table_with bytes t at FN c) k
    types-with AR f k = types-old (table_with bytes t at AR c) k
    types-with LV f k = types-old (table_with bytes t at LV c) k
    types-with EX f k = types-old (table_with bytes t at EX c) k
    types-with BK f k = types-old (table_with bytes t at BK c) k
    types-with ST f k = types-old (table_with bytes t at ST c) k

    globals-with : (mark : Mark) → Fits (counts_with at mark c) n → Kept t (table_with bytes t at mark c) c → tab (globals_by mark c.globals) (λ i. get_or (global_body bytes (table_with bytes t at mark c) i) 0 0) ≡ globals_with mark (body_at bytes at) (tab c.globals (λ i. get_or (global_body bytes t i) 0 0))
    unfolding globals_by globals_with counts_with table_with
    globals-with TY f k = globals-old (table_with bytes t at TY c) k
    globals-with GV f k =
        let l = used.table in
        let w : word (table_with bytes t at GV c) (globals_at + c.globals) ≡ at = get_or-set_same t (globals_at + c.globals) at 0 (omega (arith, f.globals)) in
        listed_more t (table_with bytes t at GV c) (λ v. get_or (body_at bytes v) 0 0) (λ i. globals_at + i) c.globals k.globals at w
    globals-with FN f k = globals-old (table_with bytes t at FN c) k
    globals-with AR f k = globals-old (table_with bytes t at AR c) k
    globals-with LV f k = globals-old (table_with bytes t at LV c) k
    globals-with EX f k = globals-old (table_with bytes t at EX c) k
    globals-with BK f k = globals-old (table_with bytes t at BK c) k
    globals-with ST f k = globals-old (table_with bytes t at ST c) k

    marked_item : Marked t (with_item t at c.row) c.row
    marked_item =
        let i = item_room in
        marked_put t (items_at + items_to c.row) at c.row (omega arith)

    open_with : (mark : Mark) → Fits (counts_with at mark c) n → Staged (counts_with at mark c) → Kept t (table_with bytes t at mark c) c → fine mark (scope_in bytes t c) (body_at bytes at) ≡ true → open_of bytes (table_with bytes t at mark c) (row_with at mark c.row) ≡ grown mark (body_at bytes at) (open_of bytes t c.row)
    unfolding table_with row_with grown counts_with stage_of types_by globals_by scope_in
    open_with TY f s k a = open_kept bytes t (table_with bytes t at TY c) c k at (marked_put t (types_at + c.types) at c.row (omega (arith, f.types)))
    open_with GV f s k a = open_kept bytes t (table_with bytes t at GV c) c k at (marked_put t (globals_at + c.globals) at c.row (omega (arith, f.globals)))
    open_with FN f s k a = open_new bytes t at c.row
    open_with AR f s k a = open_argument bytes t (table_with bytes t at AR c) c k at item_new marked_item (s.locals (omega arith)) (s.expressions (omega arith)) (s.statements (omega arith))
    open_with LV f s k a = open_local bytes t (table_with bytes t at LV c) c k at item_new marked_item (s.expressions (omega arith)) (s.statements (omega arith))
    open_with EX f s k a =
        let i = item_room in
        let l = used.table in
        let v : List ℕ = with_item t at c.row in
        let m : Marked t (table_with bytes t at EX c) c.row = λ e h. get_or-set_other v (marks_at + c.row.expressions) (marks_at + e) 0 0 (λ q. omega arith) ∙ marked_item e h in
        let w : word (table_with bytes t at EX c) (items_at + items_to c.row) ≡ at = get_or-set_other v (marks_at + c.row.expressions) (items_at + items_to c.row) 0 0 (λ q. omega arith) ∙ item_new in
        let z : word (table_with bytes t at EX c) (marks_at + c.row.expressions) ≡ 0 = get_or-set_same v (marks_at + c.row.expressions) 0 0 (rw (length-set t (items_at + items_to c.row) at) (omega (arith, f.expressions))) in
        open_expression bytes t (table_with bytes t at EX c) c k at w m z (s.statements (omega arith))
    open_with BK f s k a =
        let b = block_room in
        let l = used.table in
        let p : ℕ = blocks_at + (c.row.earlier + c.row.blocks) in
        open_block bytes t (table_with bytes t at BK c) c k at (marked_put t p c.row.statements c.row (omega arith)) (get_or-set_same t p c.row.statements 0 (omega arith))
    open_with ST f s k a =
        let i = item_room in
        let v : List ℕ = with_item t at c.row in
        let w = emit_within (scope_in bytes t c) (body_at bytes at) a in
        let l : words ≤ length v = rw (length-set t (items_at + items_to c.row) at) used.table in
        let e = flags_are (body_at bytes at) v c.row.expressions (λ q. ((w q).0, omega (arith, (w q).1, used.fits.expressions))) l in
        open_statement bytes t (table_with bytes t at ST c) c k at (below_mark_by (body_at bytes at) v (items_at + items_to c.row) (omega arith) ∙ item_new) (e ∙ ap (emit_by (body_at bytes at)) (emitted_same t v c.row marked_item))

module _ (bytes t : List ℕ) (c : Counts) (at : ℕ) (mark : Mark) (ready : Ready mark bytes t c at) (a : Admitted bytes t c at mark) where
  used : Used bytes t c at
  used = ready_used bytes t c at mark ready

  fits : Fits (counts_with at mark c) (at + 4 + length_at bytes at)
  fits = fits_with c at mark bytes (body_at bytes at) (length_at bytes at) used.fits a.not_over

  staged : Staged (counts_with at mark c)
  staged = staged_with c at mark (staged_of used) a.in_place

  kept : Kept t (table_with bytes t at mark c) c
  kept = kept_with bytes t c at used a.whole mark (at + 4 + length_at bytes at) fits

  pub added_is : reading_of bytes (table_with bytes t at mark c) (counts_with at mark c) ≡ added mark (body_at bytes at) (reading_of bytes t c)
  unfolding reading_of counts_with added
  added_is =
      rw
      (types-with bytes t c at used a.whole (at + 4 + length_at bytes at) mark fits kept, globals-with bytes t c at used a.whole (at + 4 + length_at bytes at) mark fits kept, functions-kept bytes t (table_with bytes t at mark c) c at used kept, open_with bytes t c at used a.whole (at + 4 + length_at bytes at) mark fits staged kept a.allowed)

  -- the row of an ended function is as it was
  same : (f : ℕ) → f < c.functions → row_at (table_with bytes t at mark c) f ≡ row_at t f
  same = row_kept bytes t (table_with bytes t at mark c) c at used kept

  pub progress_added : Progress bytes (table_with bytes t at mark c) (counts_with at mark c) (at + 4 + length_at bytes at)
  unfolding counts_with
  progress_added =
      let g = grows at mark c.row in
      record {
        used =
            record {
              fits = fits;
              table = rw (length-with bytes t c at mark) used.table;
              size = used.size;
              here = a.whole;
              no_locals = staged.locals;
              no_expressions = staged.expressions;
              no_statements = staged.statements;
              items = λ f l. rw (same f l) (omega (arith, used.items f l, g.items));
              blocks = λ f l. rw (same f l) (omega (arith, used.blocks f l, g.blocks));
              next = λ f l. rw (same f (omega arith), same (suc f) l) (used.next f l);
            };
        before = λ f l. rw (same f l) (before_with bytes t c at mark ready f l);
        number = number_with bytes t c at mark (body_at bytes at) ready a.in_place a.not_over;
      }

-- each record that is admitted is added so
pub adds : Adds
adds bytes t c at mark ready a = record { is = added_is bytes t c at mark ready a; progress = progress_added bytes t c at mark ready a }
