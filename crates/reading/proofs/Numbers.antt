-- A refusal has a number from 1 to 5.
use Prim.Native.Nat.{ℕ, zero, suc, ◌+◌, ◌≤◌}
use native.Mathlib.Omega.{arith}
use mathlib.Core.Path.{◌≡◌, refl, subst}
use mathlib.Core.Bool.{Bool, true, false, not, ◌&&◌}
use mathlib.Core.List.{List}
use mathlib.Core.Option.{Option, some, none as nothing}
use lib.Dec.{ltb, leb}
use lib.ListN.{length}
use Rattle.field.specs.Field.{field_at}
use Rattle.field.specs.Limits.{max_bytes}
use Rattle.module.specs.declared.record.Mark.{Mark}
use Rattle.module.specs.declared.record.Mark.TheVariants.{TY, GV, FN, AR, LV, EX, BK, ST}
use Rattle.module.specs.Record.{mark_of, length_at, body_at, even}
use Rattle.module.specs.Reading.{Reading, in_arguments, scope_of, closed}
use Rattle.module.specs.Blocks.{block_rule}
use Rattle.module.specs.File.{Next, go, stop, ◌>>=◌, unless, placed, over, fine, ended, ended_at, body_next, mark_next, record_next, Answer, accepted, refused, answer_of, onward, read_from, start, read_module}

abbrev Numbered : ℕ → Type 0
Numbered n = (1 ≤ n) × (n ≤ 5)

abbrev NextNumbered : Next → Type 0
NextNumbered (go r) = Unit
NextNumbered (stop n) = Numbered n

abbrev AnswerNumbered : Answer → Type 0
AnswerNumbered (accepted m) = Unit
AnswerNumbered (refused n) = Numbered n

by_test : (b : Bool) (n : ℕ) (k : Next) → Numbered n → NextNumbered k → NextNumbered (unless b n k)
by_test true n k h j = h
by_test false n k h j = j

by_bind : (q : Next) (k : Reading → Next) → NextNumbered q → ((r : Reading) → NextNumbered (k r)) → NextNumbered (q >>= k)
by_bind (go r) k h j = j r
by_bind (stop n) k h j = h

ended-numbered : (r : Reading) → NextNumbered (ended r)
unfolding ended
ended-numbered r = by_test (leb in_arguments r.stage && not (block_rule (closed r.open_one))) 5 _ (omega arith) tt

at_numbered : (mark : Mark) (r : Reading) → NextNumbered (ended_at mark r)
unfolding ended_at
at_numbered TY r = tt
at_numbered GV r = tt
at_numbered FN r = ended-numbered r
at_numbered AR r = tt
at_numbered LV r = tt
at_numbered EX r = tt
at_numbered BK r = tt
at_numbered ST r = tt

body_numbered : (bytes : List ℕ) (at : ℕ) (mark : Mark) (r : Reading) → NextNumbered (body_next bytes at mark r)
unfolding body_next
body_numbered bytes at mark r =
    by_test (over mark (scope_of r) (body_at bytes at)) 4 _ (omega arith)
    (by_test (not (even bytes at && fine mark (scope_of r) (body_at bytes at))) 5 _ (omega arith) tt)

mark_numbered : (bytes : List ℕ) (at : ℕ) (m : Option Mark) (r : Reading) → NextNumbered (mark_next bytes at m r)
unfolding mark_next
mark_numbered bytes at nothing r = omega arith
mark_numbered bytes at (some mark) r =
    by_test (not (placed mark r.stage)) 3 _ (omega arith) (by_bind (ended_at mark r) (body_next bytes at mark) (at_numbered mark r) (body_numbered bytes at mark))

record_numbered : (bytes : List ℕ) (at : ℕ) (r : Reading) → NextNumbered (record_next bytes at r)
unfolding record_next
record_numbered bytes at r =
    by_test (ltb (length bytes) (at + 4)) 2 _ (omega arith)
    (by_test (ltb (length bytes) (at + 4 + length_at bytes at)) 2 _ (omega arith) (mark_numbered bytes at (mark_of (field_at bytes at)) r))

answer_numbered : (q : Next) → NextNumbered q → AnswerNumbered (answer_of q)
answer_numbered (go r) h = tt
answer_numbered (stop n) h = h

by_onward : (q : Next) (k : Reading → Answer) → NextNumbered q → ((r : Reading) → AnswerNumbered (k r)) → AnswerNumbered (onward q k)
by_onward (go r) k h j = j r
by_onward (stop n) k h j = h

-- the records one by one
module _ (most : ℕ) (bytes : List ℕ) (at : ℕ) (r : Reading) where
  pub from_end : leb (length bytes) at ≡ true → read_from (suc most) bytes at r ≡ answer_of (ended r)
  unfolding read_from
  from_end e = rw (e, read_from)

  pub from_next : leb (length bytes) at ≡ false → read_from (suc most) bytes at r ≡ onward (record_next bytes at r) (read_from most bytes (at + 4 + length_at bytes at))
  unfolding read_from
  from_next e = rw (e, read_from)

  from_by : (b : Bool) → leb (length bytes) at ≡ b → ((r : Reading) → AnswerNumbered (read_from most bytes (at + 4 + length_at bytes at) r)) → AnswerNumbered (read_from (suc most) bytes at r)
  from_by true e h = rw (from_end e) (answer_numbered (ended r) (ended-numbered r))
  from_by false e h = rw (from_next e) (by_onward (record_next bytes at r) (read_from most bytes (at + 4 + length_at bytes at)) (record_numbered bytes at r) h)

from_numbered : (most : ℕ) (bytes : List ℕ) (at : ℕ) (r : Reading) → AnswerNumbered (read_from most bytes at r)
unfolding read_from
from_numbered zero bytes at r = omega arith
from_numbered (suc most) bytes at r = from_by most bytes at r (leb (length bytes) at) refl (from_numbered most bytes (at + 4 + length_at bytes at))

module _ (bytes : List ℕ) where
  pub too_long : ltb max_bytes (length bytes) ≡ true → read_module bytes ≡ refused 1
  unfolding read_module
  too_long e = rw (e, read_module)

  pub from_start : ltb max_bytes (length bytes) ≡ false → read_module bytes ≡ read_from (suc (length bytes)) bytes 0 start
  unfolding read_module
  from_start e = rw (e, read_module)

  all_by : (b : Bool) → ltb max_bytes (length bytes) ≡ b → AnswerNumbered (read_module bytes)
  all_by true e = rw (too_long e) (omega arith)
  all_by false e = rw (from_start e) (from_numbered (suc (length bytes)) bytes 0 start)

  pub refusal_number : (n : ℕ) → read_module bytes ≡ refused n → (1 ≤ n) × (n ≤ 5)
  refusal_number n e = subst (λ (a : Answer). AnswerNumbered a) e (all_by (ltb max_bytes (length bytes)) refl)
