-- One record, check by check: each step of the code is the definition's.
use mathlib.Core.Path.{◌≡◌, refl, sym, ap, ◌∙◌}
use mathlib.Core.Bool.{Bool, true, false, ◌&&◌}
use mathlib.Core.List.{List, []}
use Prim.Native.Nat.{ℕ, ◌+◌, ◌*◌, ◌<◌, ◌≤◌}
use native.Mathlib.Omega.{arith}
use lib.ListN.{length}
use borrow.Author.Tests.{lt-ltb, le-ltb}
use mathlib.Core.Option.{some}
use Rattle.field.specs.Field.{field_at}
use Rattle.module.specs.declared.record.Mark.{Mark}
use Rattle.module.specs.declared.record.Mark.TheVariants.{TY, GV, FN, AR, LV, EX, BK, ST}
use Rattle.module.specs.declared.tables.Counts.{Counts}
use Rattle.std.specs.Prelude as rattle
use Rattle.std.specs.Prelude.{Some, None}
use Rattle.module.specs.Record.{mark_of, known, body_at, even}
use Rattle.module.specs.Reading.{scope_of, added}
use Rattle.module.specs.File.{Next, go, stop, ◌>>=◌, placed, over, fine, ended_at, body_next, mark_next, record_next}
use Rattle.module.specs.Scan.{Stamped}
use Rattle.module.specs.Tables.{reading_of, scope_in}
use Rattle.std.specs.Prelude.{Result, Ok, Err}
use Rattle.field.specs.declared.refusal.Refusal.{Refusal}
use Rattle.field.specs.declared.refusal.Refusal.TheVariants.{RecordCut, MarkMisplaced, ModuleLimit, ValueNotAllowed}
use Rattle.field.specs.Refusal.{number}
use Rattle.reading.specs.Progress.{Fits, Admitted, Added, table_with, counts_with}
use Rattle.reading.specs.Ends.{next_of, step_at, table_at}
use Rattle.reading.specs.Steps.{after, Unseen, Between, Begun, Stepped}
use Rattle.reading.proofs.States.{scope_is}
use Rattle.reading.proofs.Told.{second_true, ready_used}
use Rattle.reading.proofs.Adding.{adds}
use Rattle.reading.proofs.Closing.{at_is, at_ready}

-- where the file does not go on, nothing is asked of the tables
pub stops : (bytes t seen : List ℕ) (at : ℕ) (r : Refusal) (next : Next) → stop (number r) ≡ next → Stepped bytes t seen at next (Err r)
unfolding next_of
stops bytes t seen at r next e = record { is = e; progress = λ d q. grind arith; unseen = λ d q. grind arith }

module _ {bytes t seen : List ℕ} {c : Counts} {at : ℕ} (mark : Mark) (b : Begun bytes t seen c at mark) where
  pub begun_fits : Fits c at
  begun_fits = (ready_used bytes t c at mark b.ready).fits

  pub stamps_fit : 8 * at + 16 ≤ 4294967295
  stamps_fit =
      let u = ready_used bytes t c at mark b.ready in
      omega (arith, u.here, u.size)

-- no limit asks for the tables
over_any : (mark : Mark) (bytes t : List ℕ) (c : Counts) (fs : List ℕ) → over mark (scope_in bytes [] c) fs ≡ over mark (scope_in bytes t c) fs
unfolding over scope_in
over_any TY bytes t c fs = refl
over_any GV bytes t c fs = refl
over_any FN bytes t c fs = refl
over_any AR bytes t c fs = refl
over_any LV bytes t c fs = refl
over_any EX bytes t c fs = refl
over_any BK bytes t c fs = refl
over_any ST bytes t c fs = refl

-- the body of a record
module _ (bytes t : List ℕ) (c : Counts) (at : ℕ) (mark : Mark) (o : Bool) (is_over : o ≡ over mark (scope_in bytes [] c) (body_at bytes at)) where
  over_is : over mark (scope_of (reading_of bytes t c)) (body_at bytes at) ≡ o
  over_is = rw (scope_is bytes t c) (sym (is_over ∙ over_any mark bytes t c (body_at bytes at)))

  over_next : o ≡ true → stop 4 ≡ body_next bytes at mark (reading_of bytes t c)
  unfolding body_next
  over_next e = rw (over_is ∙ e)

  pub too_many : (seen : List ℕ) → o ≡ true → Stepped bytes t seen at (body_next bytes at mark (reading_of bytes t c)) (Err ModuleLimit)
  too_many seen e = stops bytes t seen at ModuleLimit (body_next bytes at mark (reading_of bytes t c)) (over_next e)

  module _ (f : Bool) (is-fine : f ≡ (even bytes at && fine mark (scope_in bytes t c) (body_at bytes at))) (within : o ≡ false) where
    fine-is : (even bytes at && fine mark (scope_of (reading_of bytes t c)) (body_at bytes at)) ≡ f
    fine-is = rw (scope_is bytes t c) (sym is-fine)

    wrong_next : f ≡ false → stop 5 ≡ body_next bytes at mark (reading_of bytes t c)
    unfolding body_next
    wrong_next e = rw (over_is ∙ within, fine-is ∙ e)

    pub not_allowed : (seen : List ℕ) → f ≡ false → Stepped bytes t seen at (body_next bytes at mark (reading_of bytes t c)) (Err ValueNotAllowed)
    not_allowed seen e = stops bytes t seen at ValueNotAllowed (body_next bytes at mark (reading_of bytes t c)) (wrong_next e)

    right_next : f ≡ true → go (added mark (body_at bytes at) (reading_of bytes t c)) ≡ body_next bytes at mark (reading_of bytes t c)
    unfolding body_next
    right_next e = rw (over_is ∙ within, fine-is ∙ e)

    module _ (first : List ℕ) (b : Begun bytes t first c at mark) (e : f ≡ true) where
      admitted : Admitted bytes t c at mark
      admitted =
          record {
            whole = b.whole;
            in_place = b.in_place;
            not_over = sym is_over ∙ within;
            allowed = second_true (even bytes at) (fine mark (scope_in bytes t c) (body_at bytes at)) (sym is-fine ∙ e);
          }

      is_added : Added bytes t c at mark
      is_added = adds bytes t c at mark b.ready admitted

      on : (seen : List ℕ) → Stamped first seen (8 * at + 14) → Unseen seen (after bytes at)
      on seen s =
          record {
            room = omega (arith, s.same, b.unseen.room);
            low = λ v. omega (arith, s.low v);
          }

      pub goes : (seen u : List ℕ) (d : Counts) → Stamped first seen (8 * at + 14) → u ≡ table_with bytes t at mark c → d ≡ counts_with at mark c → Stepped bytes u seen at (body_next bytes at mark (reading_of bytes t c)) (Ok d)
      unfolding next_of
      goes seen u d s w k =
          rw (w, k)
          (record {
            is = ap go is_added.is ∙ right_next e;
            progress =
                λ n q.
                let j : counts_with at mark c ≡ n = cc in
                rw (sym j) is_added.progress;
            unseen = λ n q. on seen s;
          })

-- the mark of a record, and the function that ends there
module _ (bytes t : List ℕ) (c : Counts) (at : ℕ) (mark : Mark) (p : Bool) (is-placed : p ≡ placed mark c.stage) where
  stage_is : placed mark (reading_of bytes t c).stage ≡ p
  unfolding reading_of
  stage_is = sym is-placed

  elsewhere_next : p ≡ false → stop 3 ≡ mark_next bytes at (some mark) (reading_of bytes t c)
  unfolding mark_next
  elsewhere_next e = rw (stage_is ∙ e)

  pub elsewhere : (seen : List ℕ) → p ≡ false → Stepped bytes t seen at (mark_next bytes at (some mark) (reading_of bytes t c)) (Err MarkMisplaced)
  elsewhere seen e = stops bytes t seen at MarkMisplaced (mark_next bytes at (some mark) (reading_of bytes t c)) (elsewhere_next e)

  module _ (seen : List ℕ) (b : Between bytes t seen c at) (e : p ≡ true) (s : Result Counts Refusal) (u : List ℕ) (is-step : s ≡ step_at bytes t mark c) (is-table : u ≡ table_at bytes t mark c) where
    ends_next : ended_at mark (reading_of bytes t c) ≡ next_of bytes u s
    ends_next = rw (is-step, is-table) (sym (at_is bytes t c at b.progress mark))

    marked : mark_next bytes at (some mark) (reading_of bytes t c) ≡ (next_of bytes u s >>= body_next bytes at mark)
    unfolding mark_next
    marked = rw (stage_is ∙ e, ends_next)

    pub ends_wrong : (r : Refusal) → s ≡ Err r → Stepped bytes u seen at (mark_next bytes at (some mark) (reading_of bytes t c)) (Err r)
    unfolding next_of
    ends_wrong r k = rw (marked, k) (stops bytes u seen at r (stop (number r)) refl)

    module _ (d : Counts) (k : s ≡ Ok d) where
      pub begun : after bytes at ≤ length bytes → Begun bytes u seen d at mark
      begun whole =
          let r = at_ready bytes t c at b.progress mark d (sym is-step ∙ k) in
          record {
            ready = rw is-table r.0;
            unseen = b.unseen;
            whole = whole;
            in_place = rw r.1 (sym is-placed ∙ e);
          }

      pub then_body : (v after-seen : List ℕ) (r : Result Counts Refusal) → Stepped bytes v after-seen at (body_next bytes at mark (reading_of bytes u d)) r → Stepped bytes v after-seen at (mark_next bytes at (some mark) (reading_of bytes t c)) r
      unfolding next_of
      then_body v after-seen r h = rw (marked, k) h

-- the header of a record
module _ (bytes t : List ℕ) (c : Counts) (at : ℕ) where
  pub no_header : (seen : List ℕ) → length bytes < at + 4 → Stepped bytes t seen at (record_next bytes at (reading_of bytes t c)) (Err RecordCut)
  unfolding record_next
  no_header seen h = rw (lt-ltb (length bytes) (at + 4) h) (stops bytes t seen at RecordCut (stop 2) refl)

  module _ (header : at + 4 ≤ length bytes) where
    pub cut_off : (seen : List ℕ) → length bytes < after bytes at → Stepped bytes t seen at (record_next bytes at (reading_of bytes t c)) (Err RecordCut)
    unfolding record_next
    cut_off seen h = rw (le-ltb (length bytes) (at + 4) header, lt-ltb (length bytes) (after bytes at) h) (stops bytes t seen at RecordCut (stop 2) refl)

    module _ (whole : after bytes at ≤ length bytes) (letters : ℕ) (k : rattle.Option Mark) (is-letters : letters ≡ field_at bytes at) (is_known : known k ≡ mark_of letters) where
      headed : record_next bytes at (reading_of bytes t c) ≡ mark_next bytes at (known k) (reading_of bytes t c)
      unfolding record_next
      headed = rw (le-ltb (length bytes) (at + 4) header, le-ltb (length bytes) (after bytes at) whole, is_known, is-letters)

      pub no_mark : (seen : List ℕ) → k ≡ None → Stepped bytes t seen at (record_next bytes at (reading_of bytes t c)) (Err MarkMisplaced)
      unfolding known mark_next
      no_mark seen e = rw (headed, e) (stops bytes t seen at MarkMisplaced (stop 3) refl)

      pub then_mark : (v after-seen : List ℕ) (mark : Mark) (r : Result Counts Refusal) → k ≡ Some mark → Stepped bytes v after-seen at (mark_next bytes at (some mark) (reading_of bytes t c)) r → Stepped bytes v after-seen at (record_next bytes at (reading_of bytes t c)) r
      unfolding known
      then_mark v after-seen mark r e h = rw (headed, e) h
