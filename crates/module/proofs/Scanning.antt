-- Fields, one after the other: what is left of the scan gives the whole.
use mathlib.Core.Path.{◌≡◌, sym, ap}
use mathlib.Core.Bool.{Bool, true, false}
use mathlib.Core.List.{List, [], ◌∷◌}
use mathlib.Core.Option.{some, none as nothing}
use Prim.Native.Nat.{ℕ, zero, suc, ◌*◌, ◌-◌, ◌<◌, ◌≤◌}
use native.Mathlib.Omega.{arith}
use Rattle.field.specs.Field.{field_at}
use Rattle.module.specs.Record.{fields_to}
use Rattle.module.specs.Operands.{Left, one, many, pairs, then}

suc-pred : (n : ℕ) → 0 < n → n ≡ suc (n - 1)
suc-pred n h = omega arith

-- the first of the fields, and the others
pub fields_cons : (bytes : List ℕ) (end n : ℕ) → 0 < n → fields_to bytes end n ≡ field_at bytes (end - 2 * n) ∷ fields_to bytes end (n - 1)
unfolding fields_to
fields_cons bytes end zero h = absurd (omega arith)
fields_cons bytes end (suc n) h =
    let e : n ≡ suc n - 1 = omega arith in
    ap (λ (k : ℕ). field_at bytes (end - 2 * suc n) ∷ fields_to bytes end k) e

module _ (p : ℕ → Bool) where
  pub one_none : {xs : List ℕ} → xs ≡ [] → nothing ≡ one p xs
  unfolding one
  one_none e = rw e

  pub one-pass : {xs ys : List ℕ} {x : ℕ} → xs ≡ x ∷ ys → p x ≡ true → some ys ≡ one p xs
  unfolding one
  one-pass e h = rw (e, h)

  pub one-fail : {xs ys : List ℕ} {x : ℕ} → xs ≡ x ∷ ys → p x ≡ false → nothing ≡ one p xs
  unfolding one
  one-fail e h = rw (e, h)

  many-step : (xs : List ℕ) {whole left : Left} {more next : ℕ} → many p more xs ≡ whole → more ≡ suc next → left ≡ one p xs → then left (many p next) ≡ whole
  unfolding many
  many-step xs {whole} {left} {more} {next} s e t =
      let step : then (one p xs) (many p next) ≡ whole = rw e at s in
      rw (sym t) at step

  pub many_again : (xs : List ℕ) {ys : List ℕ} {whole : Left} {more next : ℕ} → many p more xs ≡ whole → more ≡ suc next → some ys ≡ one p xs → many p next ys ≡ whole
  many_again xs s e t = many-step xs s e t

  pub many_stops : (xs : List ℕ) {whole : Left} {more : ℕ} → many p more xs ≡ whole → 0 < more → nothing ≡ one p xs → nothing ≡ whole
  many_stops xs {whole} {more} s h t = many-step xs s (suc-pred more h) t

  pub many_done : (xs : List ℕ) {whole : Left} {more : ℕ} → many p more xs ≡ whole → more ≤ 0 → some xs ≡ whole
  unfolding many
  many_done xs {whole} {more} s h =
      let e : more ≡ 0 = omega arith in
      rw e at s

module _ (p q : ℕ → Bool) where
  pairs-step : (xs : List ℕ) {whole left : Left} {more next : ℕ} → pairs p q more xs ≡ whole → more ≡ suc next → left ≡ one p xs → then left (λ ys. then (one q ys) (pairs p q next)) ≡ whole
  unfolding pairs
  pairs-step xs {whole} {left} {more} {next} s e t =
      let step : then (one p xs) (λ ys. then (one q ys) (pairs p q next)) ≡ whole = rw e at s in
      rw (sym t) at step

  pub pairs_again : (xs ys : List ℕ) {zs : List ℕ} {whole : Left} {more next : ℕ} → pairs p q more xs ≡ whole → more ≡ suc next → some ys ≡ one p xs → some zs ≡ one q ys → pairs p q next zs ≡ whole
  pairs_again xs ys s e t u = rw (sym u) at (pairs-step xs s e t)

  pub pairs_stop : (xs : List ℕ) {whole : Left} {more : ℕ} → pairs p q more xs ≡ whole → 0 < more → nothing ≡ one p xs → nothing ≡ whole
  pairs_stop xs {whole} {more} s h t = pairs-step xs s (suc-pred more h) t

  pub pairs_stop_second : (xs ys : List ℕ) {whole : Left} {more : ℕ} → pairs p q more xs ≡ whole → 0 < more → some ys ≡ one p xs → nothing ≡ one q ys → nothing ≡ whole
  pairs_stop_second xs ys {whole} {more} s h t u = rw (sym u) at (pairs-step xs s (suc-pred more h) t)

  pub pairs_done : (xs : List ℕ) {whole : Left} {more : ℕ} → pairs p q more xs ≡ whole → more ≤ 0 → some xs ≡ whole
  unfolding pairs
  pairs_done xs {whole} {more} s h =
      let e : more ≡ 0 = omega arith in
      rw e at s
