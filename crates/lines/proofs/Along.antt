-- A loop that writes line by line: what is written and what is left are the whole text.
use Prim.Native.Nat.{ℕ}
use mathlib.Core.Path.{◌≡◌, refl, sym, ap, ◌∙◌}
use mathlib.Core.List.{List, [], ◌++◌, append_assoc, append-nil}
use native.Mathlib.Omega.{arith}
use lib.ListN.{length, length-append}
use Rattle.lines.specs.declared.text.Text.{Text}
use Rattle.lines.specs.Wrote.{Fits, Writes}
use Rattle.lines.proofs.Writing.{writes_then, writes_as}

pub record Along (a b : Text) (total rest : List ℕ) : Type 0 where
  pub done : List ℕ
  pub writes : Writes a b done
  pub whole : total ≡ done ++ rest

-- what is left is a text and then the others
pub record Splits (rest t u : List ℕ) : Type 0 where
  pub is : rest ≡ t ++ u

pub along_none : {total rest : List ℕ} (a : Text) → total ≡ rest → Along a a total rest
along_none a e = record { done = []; writes = record { same = refl; wrote = record { is = refl; behind = omega arith } }; whole = e }

-- the next of them fits
pub along_fits : {a b : Text} {total rest t u : List ℕ} → Fits a.at total → Along a b total rest → Splits rest t u → Fits b.at t
along_fits {rest = rest} {t = t} {u = u} f w e =
    record {
      room = omega (arith, f.room, w.writes.wrote.behind, ap length w.whole, length-append w.done rest, ap length e.is, length-append t u);
    }

pub along_more : {a b c : Text} {total rest t u : List ℕ} → Along a b total rest → Splits rest t u → Writes b c t → Along a c total u
along_more {t = t} {u = u} w e v =
    record {
      done = w.done ++ t;
      writes = writes_then w.writes v;
      whole = w.whole ∙ ap (λ (r : List ℕ). w.done ++ r) e.is ∙ sym (append_assoc w.done t u);
    }

pub along_done : {a b : Text} {total rest : List ℕ} → Along a b total rest → rest ≡ [] → Writes a b total
along_done w e =
    writes_as (sym (w.whole ∙ ap (λ (r : List ℕ). w.done ++ r) e ∙ append-nil w.done)) w.writes
