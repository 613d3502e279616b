-- The text of a requirement by what its number means: a plain one, or a cell, whose text is written in five pieces.
use Prim.Native.Nat.{ℕ, zero, suc, ◌<◌}
use mathlib.Core.Path.{◌≡◌, refl, sym, ap, ◌∙◌}
use mathlib.Core.Bool.{Bool, true, false, cond}
use mathlib.Core.List.{List, [], ◌∷◌, ◌++◌, append-nil}
use native.Mathlib.Omega.{arith}
use borrow.Author.Tests.{eq-eqb, ne_eqb}
use Rattle.part.specs.Store.{part, means, top, Good, Seen}
use Rattle.lines.specs.Text.{all_word, exist_word, number, text_from, whole_text, plain_text}
use Rattle.lines.specs.declared.text.Text.{Text}
use Rattle.lines.specs.Wrote.{Fits, Writes}
use Rattle.lines.proofs.Writing.{texts, Rooms, rooms, writes_then, writes_as}

pub whole_all : {n : ℕ} → n ≡ 0 → whole_text n ≡ all_word
unfolding whole_text
whole_all {n} e = rw (eq-eqb n 0 e)

pub whole_exist : {n : ℕ} → n ≡ 1 → whole_text n ≡ exist_word
unfolding whole_text
whole_exist {n} e = rw e

pub whole_none : {n : ℕ} → (n ≡ 0 → ⊥) → (n ≡ 1 → ⊥) → whole_text n ≡ (123 ∷ 125 ∷ [])
unfolding whole_text
whole_none {n} a b = rw (ne_eqb n 0 a, ne_eqb n 1 b)

pub plain_whole : (n : ℕ) {whole : Bool} → whole ≡ true → plain_text n whole ≡ whole_text n
unfolding plain_text
plain_whole n e = rw e

pub plain_end : (n : ℕ) {whole : Bool} → whole ≡ false → plain_text n whole ≡ (125 ∷ [])
unfolding plain_text
plain_end n e = rw e

pub plain_is : (s : List ℕ) (n : ℕ) (whole : Bool) → n < 3 → text_from (part s n) whole ≡ plain_text n whole
unfolding part means text_from plain_text whole_text
plain_is s zero whole h = refl
plain_is s (suc zero) whole h = refl
plain_is s (suc (suc zero)) whole h = refl
plain_is s (suc (suc (suc n))) whole h = absurd (omega arith)

cell_is : {s : List ℕ} {n i c r : ℕ} (whole : Bool) → Seen s n i c r → text_from (part s n) whole ≡ (cond whole 123 44 ∷ []) ++ (number i ++ ((58 ∷ []) ++ (text_from (part s c) true ++ text_from (part s r) false)))
unfolding text_from
cell_is whole seen = rw seen.is

pub cell_rooms : {s : List ℕ} {n i c r at b : ℕ} (whole : Bool) → Seen s n i c r → b ≡ cond whole 123 44 → Fits at (text_from (part s n) whole) → Rooms at ((b ∷ []) ∷ (number i ∷ ((58 ∷ []) ∷ (text_from (part s c) true ∷ (text_from (part s r) false ∷ [])))))
unfolding texts
cell_rooms {s} {n} {i} {c} {r} {at} {b} whole seen e f =
    rooms ((b ∷ []) ∷ (number i ∷ ((58 ∷ []) ∷ (text_from (part s c) true ∷ (text_from (part s r) false ∷ []))))) f
    (cell_is whole seen ∙ rw (e, append-nil (text_from (part s r) false)))

pub cell_writes : {s : List ℕ} {t₁ t₂ t₃ t₄ t₅ t₆ : Text} {n i c r b : ℕ} (whole : Bool) → Seen s n i c r → b ≡ cond whole 123 44
    → Writes t₁ t₂ (b ∷ []) → Writes t₂ t₃ (number i) → Writes t₃ t₄ (58 ∷ []) → Writes t₄ t₅ (text_from (part s c) true) → Writes t₅ t₆ (text_from (part s r) false)
    → Writes t₁ t₆ (text_from (part s n) whole)
cell_writes {s} {i = i} {c = c} {r = r} whole seen e v w x y z =
    writes_as
    (ap (λ (d : ℕ). (d ∷ []) ++ (number i ++ ((58 ∷ []) ++ (text_from (part s c) true ++ text_from (part s r) false)))) e ∙ sym (cell_is whole seen))
    (writes_then v (writes_then w (writes_then x (writes_then y z))))

-- what the two calls of its own ask
pub child_call : {s text : List ℕ} {n i c r at t : ℕ} → n ≡ t → Seen s n i c r → Good s → n < top s → Fits at text → (c < t) × (Good s × ((c < top s) × Fits at text))
child_call {s} {text} {n} {i} {c} {r} {at} {t} e seen good h f = (omega (arith, seen.child_low), (good, (omega (arith, seen.child_low), f)))

pub rest_call : {s text : List ℕ} {n i c r at t : ℕ} → n ≡ t → Seen s n i c r → Good s → n < top s → Fits at text → (r < t) × (Good s × ((r < top s) × Fits at text))
rest_call {s} {text} {n} {i} {c} {r} {at} {t} e seen good h f = (omega (arith, seen.rest_low), (good, (omega (arith, seen.rest_low), f)))
