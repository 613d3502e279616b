-- Texts written one behind the other are their sequence written, and a text that fits leaves room for its end: by recursion over the first.
use Prim.Native.Nat.{ℕ, suc, ◌+◌, ◌<◌, ◌≤◌}
use mathlib.Core.Path.{◌≡◌, sym, ap, ◌∙◌}
use mathlib.Core.List.{List, [], ◌∷◌, ◌++◌}
use native.Mathlib.Omega.{arith}
use native.Mathlib.Numerals.{add-one}
use lib.ListN.{length, get_or, take, drop, set, length-append}
use lib.Seq.{sets, sets-eq, take-suc}
use Rattle.lines.specs.declared.text.Text.{Text}
use Rattle.lines.specs.Wrote.{longest, Fits, Writes, Begins}

sets-append : (xs : List ℕ) (at : ℕ) (ys zs : List ℕ) → sets xs at (ys ++ zs) ≡ sets (sets xs at ys) (at + length ys) zs
sets-append xs at [] zs = let z : at + 0 ≡ at = omega arith in rw z
sets-append xs at (y ∷ ys) zs =
    let z : at + suc (length ys) ≡ suc at + length ys = omega arith in
    rw z (sets-append (set xs at y) (suc at) ys zs)

pub writes_then : {a b c : Text} {t u : List ℕ} → Writes a b t → Writes b c u → Writes a c (t ++ u)
writes_then {a} {b} {c} {t} {u} x y =
    record {
      same = y.same ∙ x.same;
      wrote = record {
        is = y.wrote.is ∙ rw (x.wrote.is, x.wrote.behind) (sym (sets-append a.out.now a.at t u));
        behind = omega (arith, length-append t u, x.wrote.behind, y.wrote.behind);
      };
    }

-- texts that are written one behind the other
unfoldable pub texts : List (List ℕ) → List ℕ
texts [] = []
texts (t ∷ ts) = t ++ texts ts

-- all of them fit
pub record Rooms (from : ℕ) (ts : List (List ℕ)) : Type 0 where
  pub room : from + length (texts ts) < longest

pub rooms : {from : ℕ} {text : List ℕ} (ts : List (List ℕ)) → Fits from text → text ≡ texts ts → Rooms from ts
rooms {from} {text} ts f e = record { room = omega (arith, f.room, ap length e) }

pub rooms_first : {from : ℕ} {t : List ℕ} {ts : List (List ℕ)} → Rooms from (t ∷ ts) → Fits from t
unfolding texts
rooms_first {from} {t} {ts} f = record { room = omega (arith, length-append t (texts ts), f.room) }

pub rooms_then : {a b : Text} {t : List ℕ} {ts : List (List ℕ)} → Rooms a.at (t ∷ ts) → Writes a b t → Rooms b.at ts
unfolding texts
rooms_then {a} {b} {t} {ts} f w = record { room = omega (arith, length-append t (texts ts), f.room, w.wrote.behind) }

-- a text by another name
pub fits_as : {t u : List ℕ} {from : ℕ} → t ≡ u → Fits from t → Fits from u
fits_as {t} {u} {from} e f = rw e at f

pub writes_as : {a b : Text} {t u : List ℕ} → t ≡ u → Writes a b t → Writes a b u
writes_as e w = rw e at w

-- a loop over the bytes of a word
pub word_more : (word : List ℕ) {a b c : Text} {k : ℕ} → k < length word → Writes a b (take k word) → Writes b c (get_or word k 0 ∷ []) → Writes a c (take (k + 1) word)
word_more word {k = k} h x y = rw (add-one k, take-suc word k 0 h) (writes_then x y)

-- a text from byte 0 on, in a buffer that is long enough
from_zero : (n : ℕ) → 0 + n ≡ n
from_zero n = omega arith

pub writes_first : {a b : Text} {text : List ℕ} → a.at ≡ 0 → Writes a b text → length text ≤ length a.out.now → Begins a b text
writes_first {a} {b} {text} z w l =
    let is : b.out.now ≡ sets a.out.now 0 text = rw z at w.wrote.is in
    record {
      same = w.same;
      front = record {
        is = is ∙ sets-eq text a.out.now 0 (omega arith) ∙ ap (λ (e : ℕ). text ++ drop e a.out.now) (from_zero (length text));
        behind = omega (arith, w.wrote.behind, z);
        within = omega (arith, w.wrote.behind, z);
      };
    }
