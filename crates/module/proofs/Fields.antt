-- The fields of a record by number: the j-th stands 4 + 2 j bytes after the record's start, and past the last there is 0.
use mathlib.Core.Path.{◌≡◌, refl, ap, ◌∙◌}
use mathlib.Core.List.{List}
use Prim.Native.Nat.{ℕ, zero, suc, ◌+◌, ◌*◌, ◌-◌, ◌<◌, ◌≤◌}
use native.Mathlib.Nat.{le_of_suc-le-suc}
use native.Mathlib.Omega.{arith}
use lib.ListN.{length, get_or, get_or-eq_default}
use Rattle.field.specs.Field.{field_at}
use Rattle.module.specs.Record.{fields_to, body_at, count_at, end_at}

pub length-fields_to : (bytes : List ℕ) (end n : ℕ) → length (fields_to bytes end n) ≡ n
unfolding fields_to
length-fields_to bytes end zero = refl
length-fields_to bytes end (suc n) = ap suc (length-fields_to bytes end n)

at_fields_to : (bytes : List ℕ) (end n j : ℕ) → j < n → get_or (fields_to bytes end n) j 0 ≡ field_at bytes (end - 2 * (n - j))
unfolding fields_to
at_fields_to bytes end zero j h = absurd (omega arith)
at_fields_to bytes end (suc n) zero h = ap (λ (k : ℕ). field_at bytes (end - 2 * k)) (omega arith)
at_fields_to bytes end (suc n) (suc j) h =
    at_fields_to bytes end n j (le_of_suc-le-suc h) ∙ ap (λ (k : ℕ). field_at bytes (end - 2 * k)) (omega arith)

pub body_field : (bytes : List ℕ) (at j : ℕ) → j < count_at bytes at → get_or (body_at bytes at) j 0 ≡ field_at bytes (at + 4 + 2 * j)
unfolding body_at
body_field bytes at j h =
    at_fields_to bytes (end_at bytes at) (count_at bytes at) j h
    ∙ ap (field_at bytes) (omega arith)

pub body_past : (bytes : List ℕ) (at j : ℕ) → count_at bytes at ≤ j → get_or (body_at bytes at) j 0 ≡ 0
unfolding body_at
body_past bytes at j h =
    get_or-eq_default (fields_to bytes (end_at bytes at) (count_at bytes at)) 0 (rw length-fields_to h)
