-- Fields and bytes. The bytes of fields hold these fields, by recursion over the fields, each put together from its two bytes. Two bytes or more
-- begin with a field, and fewer hold none. What is left of what is left is left of the whole.
use Prim.Native.Nat.{ℕ, ◌+◌, ◌-◌, ◌*◌, ◌≤◌, ◌<◌}
use native.Mathlib.Omega.{arith}
use native.Mathlib.Nat.{mod-add-div}
use mathlib.Core.Path.{◌≡◌, refl, ap, ◌∙◌}
use mathlib.Core.List.{List, [], ◌∷◌}
use lib.ListN.{length, drop, length-drop}
use Rattle.std.proofs.lemmas.List.{drop-drop}
use Rattle.field.specs.Field.{field_at}
use Rattle.request.specs.Fields.{fields, bytes_of}
use Rattle.request.specs.Answers.{Tail, Field}

pub fields-bytes_of : (fs : List ℕ) → fields (bytes_of fs) ≡ fs
unfolding fields bytes_of
fields-bytes_of [] = refl
fields-bytes_of (f ∷ fs) = rw (mod-add-div f 256, fields-bytes_of fs)

pub length-bytes_of : (fs : List ℕ) → length (bytes_of fs) ≡ 2 * length fs
unfolding bytes_of
length-bytes_of [] = refl
length-bytes_of (f ∷ fs) = omega (arith, length-bytes_of fs)

pub no_field : (b : List ℕ) → length b < 2 → fields b ≡ []
unfolding fields
no_field [] h = refl
no_field (x ∷ []) h = refl
no_field (x ∷ (y ∷ bs)) h = absurd (omega arith)

pub some_field : (b : List ℕ) → 2 ≤ length b → fields b ≡ field_at b 0 ∷ fields (drop 2 b)
unfolding fields field_at
some_field [] h = absurd (omega arith)
some_field (x ∷ []) h = absurd (omega arith)
some_field (x ∷ (y ∷ bs)) h = refl

-- a tail: all, what stands behind so many bytes, and a tail of a tail
pub tail_drop : (b : List ℕ) (n : ℕ) → n ≤ length b → Tail b (drop n b)
tail_drop b n h =
    let e : n ≡ length b - length (drop n b) = simp length-drop (omega arith) in
    record { inside = simp length-drop (omega arith); is = ap (λ k. drop k b) e }

pub tail_all : (b : List ℕ) → Tail b b
tail_all b =
    let e : 0 ≡ length b - length b = omega arith in
    record { inside = omega arith; is = ap (λ k. drop k b) e }

pub tail_then : {a b c : List ℕ} → Tail a b → Tail b c → Tail a c
tail_then {a} {b} {c} x y =
    let e : (length a - length b) + (length b - length c) ≡ length a - length c = omega (arith, x.inside, y.inside) in
    record {
      inside = omega (arith, x.inside, y.inside);
      is = y.is ∙ ap (drop (length b - length c)) x.is ∙ drop-drop (length b - length c) (length a - length b) a ∙ ap (λ k. drop k a) e;
    }

pub first_field : (b : List ℕ) {i : ℕ} → 2 ≤ length b → i ≡ field_at b 0 → Field b i (drop 2 b)
first_field b h e = record { is = rw e (some_field b h); left = simp length-drop (omega arith); tail = tail_drop b 2 h }
