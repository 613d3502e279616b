-- The lines of variables and records, one by one.
use Prim.Native.Nat.{ℕ, zero, suc, ◌+◌, ◌-◌, ◌<◌, ◌≤◌}
use mathlib.Core.Path.{◌≡◌, refl, sym}
use mathlib.Core.List.{List, [], ◌∷◌, ◌++◌}
use native.Mathlib.Omega.{arith}
use lib.ListN.{length, get_or, take, drop}
use Rattle.part.specs.PartReq.{spine}
use Rattle.part.specs.Store.{part, means, Seen}
use Rattle.memory.specs.Memory.{read, record_of, records_of}
use Rattle.memory.proofs.Slots.{read_at}
use Rattle.marks.proofs.Write.{slice_at}
use Rattle.lines.specs.Text.{number, part_text, line_text, variables_text, retval_word, retval_text, expr_word, record_text, records_text}
use Rattle.lines.specs.declared.text.Text.{Text}
use Rattle.lines.specs.Wrote.{Fits, Writes}
use Rattle.lines.proofs.Writing.{texts, Rooms, rooms, writes_as}
use Rattle.lines.proofs.Along.{Splits}

-- a line in five pieces
pub line_rooms : (word : List ℕ) (n : ℕ) (s : List ℕ) (p : ℕ) {at : ℕ} → Fits at (line_text word n (part s p)) → Rooms at (word ∷ (number n ∷ ((32 ∷ []) ∷ (part_text (part s p) ∷ ((10 ∷ []) ∷ [])))))
unfolding texts
line_rooms word n s p {at} f = rooms (word ∷ (number n ∷ ((32 ∷ []) ∷ (part_text (part s p) ∷ ((10 ∷ []) ∷ []))))) f refl

pub no_variables : (s : List ℕ) (n : ℕ) (word : List ℕ) → n < 3 → variables_text word (part s n) ≡ []
unfolding part means variables_text
no_variables s zero word h = refl
no_variables s (suc zero) word h = refl
no_variables s (suc (suc zero)) word h = refl
no_variables s (suc (suc (suc n))) word h = absurd (omega arith)

pub variable_line : {s : List ℕ} {n i c r k : ℕ} (word : List ℕ) → Seen s n i c r → k ≡ i - spine → Splits (variables_text word (part s n)) (line_text word k (part s c)) (variables_text word (part s r))
unfolding variables_text
variable_line word seen e = record { is = rw (seen.is, e) }

pub no_retval : (s : List ℕ) (n : ℕ) → n < 3 → retval_text (part s n) ≡ []
unfolding part means retval_text
no_retval s zero h = refl
no_retval s (suc zero) h = refl
no_retval s (suc (suc zero)) h = refl
no_retval s (suc (suc (suc n))) h = absurd (omega arith)

pub retval_line : {s : List ℕ} {n i c r : ℕ} → Seen s n i c r → retval_text (part s n) ≡ retval_word ++ (part_text (part s c) ++ (10 ∷ []))
unfolding retval_text
retval_line seen = rw seen.is

pub retval_rooms : {s : List ℕ} {n i c r at : ℕ} → Seen s n i c r → Fits at (retval_text (part s n)) → Rooms at (retval_word ∷ (part_text (part s c) ∷ ((10 ∷ []) ∷ [])))
unfolding texts
retval_rooms {s} {n} {i} {c} {r} {at} seen f = rooms (retval_word ∷ (part_text (part s c) ∷ ((10 ∷ []) ∷ []))) f (retval_line seen)

pub no_record : (s : List ℕ) (n k : ℕ) → n < 3 → record_text k (record_of (part s n)) ≡ []
unfolding part means record_text record_of
no_record s zero k h = refl
no_record s (suc zero) k h = refl
no_record s (suc (suc zero)) k h = refl
no_record s (suc (suc (suc n))) k h = absurd (omega arith)

pub record_line : {s : List ℕ} {n i c r : ℕ} (k : ℕ) → Seen s n i c r → record_text k (record_of (part s n)) ≡ line_text expr_word k (part s c)
unfolding record_text record_of
record_line k seen = rw seen.is

-- the records from the k-th of n on
abbrev pub records_left : (s rs : List ℕ) (base n k : ℕ) → List ℕ
records_left s rs base n k = records_text k (records_of (read s rs) (base + k) (n - k))

pub records_next : (s rs : List ℕ) (base n k : ℕ) → base + n ≤ length rs → k < n
    → Splits (records_left s rs base n k) (record_text k (record_of (part s (get_or (take (base + n - base) (drop base rs)) k 0)))) (records_left s rs base n (k + 1))
unfolding records_text records_of
records_next s rs base n k long h =
    let e : n - k ≡ suc (n - (k + 1)) = omega arith in
    let b : suc (base + k) ≡ base + (k + 1) = omega arith in
    let j : suc k ≡ k + 1 = omega arith in
    record { is = rw (slice_at rs base n k h, e, read_at s rs (base + k) (omega arith), b, j) }

pub records_none : (s rs : List ℕ) (base n k : ℕ) → n ≤ k → records_left s rs base n k ≡ []
unfolding records_text records_of
records_none s rs base n k h = let e : n - k ≡ 0 = omega arith in rw e

-- nothing is written
pub writes_none : {a : Text} {text : List ℕ} → text ≡ [] → Writes a a text
writes_none e = writes_as (sym e) (record { same = refl; wrote = record { is = refl; behind = omega arith } })
