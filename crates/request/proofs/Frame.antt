-- The frame of a record: how long it is.
use Prim.Native.Nat.{ℕ, ◌+◌, ◌%◌, ◌≤◌, ◌<◌}
use native.Mathlib.Omega.{arith}
use native.Mathlib.Decide.{dec_lt}
use mathlib.Core.Path.{◌≡◌, refl, ◌∙◌}
use mathlib.Core.Bool.{Bool, true, false, ◌&&◌}
use mathlib.Core.List.{List}
use lib.Dec.{leb, eqb}
use lib.ListN.{length, get_or}
use borrow.Author.Tests.{lt-leb, ne_eqb}
use Rattle.field.specs.Limits.{absent}
use Rattle.field.specs.Field.{Bytes, field_at}
use Rattle.module.specs.Module.{Module}
use Rattle.request.specs.Fields.{framed, refused}
use Rattle.request.specs.Request.{request_of, judge, read_request}

fourth_fails : (a b c d e : Bool) → d ≡ false → a && b && c && d && e ≡ false
fourth_fails false b c d e z = refl
fourth_fails true false c d e z = refl
fourth_fails true true false d e z = refl
fourth_fails true true true d e z = rw z refl

-- a record is as long as its header says
pub other_length : (a b head long : ℕ) (s : List ℕ) → (head + long ≡ length s → ⊥) → framed a b head long s ≡ false
unfolding framed
other_length a b head long s h = fourth_fails (leb head (length s)) (eqb (get_or s 0 0) a) (eqb (get_or s 1 0) b) (eqb (head + long) (length s)) (eqb (long % 2) 0) (ne_eqb (head + long) (length s) h)

-- no request is longer than its header can say
pub overlong : (m : Module) (report : ℕ) (bytes : List ℕ) → Bytes bytes → 4 + absent < length bytes → read_request m report bytes ≡ refused 12
unfolding judge request_of field_at
overlong m report bytes h l =
    let one = h 2 in
    let other = h 3 in
    rw (other_length 82 81 4 (field_at bytes 2) bytes (λ e. omega arith))

-- what is shorter than its header is no record
pub frame_short : (a b head long : ℕ) (s : List ℕ) → length s < head → false ≡ framed a b head long s
unfolding framed
frame_short a b head long s h = rw (lt-leb head (length s) h)

-- a record is at least as long as its header
pub frame_inside : (a b head long : ℕ) (s : List ℕ) → framed a b head long s ≡ true → head ≤ length s
frame_inside a b head long s e =
    elim (dec_lt (length s) head) [
      | yes l ↦ let z : false ≡ true = frame_short a b head long s l ∙ e in let o : ◌≡◌ {A = ℕ} 0 1 = cc in absurd (omega arith)
      | no g ↦ omega arith
    ]
