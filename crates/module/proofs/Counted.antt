-- Operands of several fields: a count with what it asks for, a range, a result. The first fields are taken off one by one.
use mathlib.Core.Path.{◌≡◌, sym}
use mathlib.Core.Bool.{Bool, true, false, not, ◌&&◌, ◌||◌}
use mathlib.Core.List.{List, [], ◌∷◌}
use mathlib.Core.Option.{some, none as nothing}
use Prim.Native.Nat.{ℕ, suc, ◌+◌, ◌-◌, ◌<◌, ◌≤◌}
use native.Mathlib.Omega.{arith}
use lib.Dec.{ltb, leb, eqb}
use lib.ListN.{length, get_or}
use borrow.Author.Tests.{lt-ltb, le-ltb, lt-leb, le-leb, eq-eqb, ne_eqb}
use Rattle.field.specs.Limits.{absent}
use Rattle.module.specs.Operands.{Left, many, counted, below, below_or_absent, bindings, pattern_after, code_after, range_in, result_in, unemitted}
use Rattle.module.specs.Tables.{word, marks_at, emitted_of}
use Rattle.module.proofs.Tab.{get_d_tab}

pub pattern_low : (x : ℕ) (xs : List ℕ) → x < 2 → pattern_after x xs ≡ nothing
unfolding pattern_after
pattern_low x xs h = rw (lt-leb 2 x h)

pub pattern_high : (x : ℕ) (xs : List ℕ) → 2 ≤ x → 4 < x → pattern_after x xs ≡ nothing
unfolding pattern_after
pattern_high x xs l h = rw (le-leb 2 x l, lt-leb x 4 h)

pub pattern_is : (x : ℕ) (xs : List ℕ) → 2 ≤ x → x ≤ 4 → pattern_after x xs ≡ many (below 4) x xs
unfolding pattern_after
pattern_is x xs l h = rw (le-leb 2 x l, le-leb x 4 h)

pub code_high : (expressions : ℕ) (handles : List ℕ) (x : ℕ) (xs : List ℕ) → length handles ≤ x → code_after expressions handles x xs ≡ nothing
unfolding code_after
code_high expressions handles x xs h = rw (le-ltb x (length handles) h)

pub code_is : (expressions : ℕ) (handles : List ℕ) (x : ℕ) (xs : List ℕ) → x < length handles → code_after expressions handles x xs ≡ many (below expressions) (get_or handles x 0) xs
unfolding code_after
code_is expressions handles x xs h = rw (lt-ltb x (length handles) h)

abbrev pub range_test : ℕ → List Bool → ℕ → ℕ → Bool
range_test expressions emitted first last = leb first last && (ltb last expressions && unemitted emitted first (suc last - first))

pub range_free : (expressions : ℕ) (emitted : List Bool) (a b : ℕ) → a ≤ b → b < expressions → (v : Bool) → v ≡ unemitted emitted a (b + 1 - a) → range_test expressions emitted a b ≡ v
range_free expressions emitted a b h l v e =
    let q : suc b - a ≡ b + 1 - a = omega arith in
    rw (le-leb a b h, lt-ltb b expressions l, q) (sym e)

pub counted_none : (f : ℕ → List ℕ → Left) {xs : List ℕ} → xs ≡ [] → nothing ≡ counted f xs
unfolding counted
counted_none f e = rw e

pub counted-by : (f : ℕ → List ℕ → Left) {xs ys : List ℕ} {x : ℕ} {left : Left} → xs ≡ x ∷ ys → left ≡ f x ys → left ≡ counted f xs
unfolding counted
counted-by f e t = rw e t

module _ (types : ℕ) where
  abbrev pub result_test : ℕ → ℕ → Bool
  result_test t b = below_or_absent types t && (below_or_absent bindings b && (ltb t absent || eqb b absent))

  pub result_none : {xs : List ℕ} → xs ≡ [] → nothing ≡ result_in types xs
  unfolding result_in
  result_none e = rw e

  pub result_short : {xs ys : List ℕ} {t : ℕ} → xs ≡ t ∷ ys → ys ≡ [] → nothing ≡ result_in types xs
  unfolding result_in
  result_short e f = rw (e, f)

  pub result_yes : {xs ys zs : List ℕ} {t b : ℕ} → xs ≡ t ∷ ys → ys ≡ b ∷ zs → result_test t b ≡ true → some zs ≡ result_in types xs
  unfolding result_in
  result_yes e f v = rw (e, f, v)

  pub result_no : {xs ys zs : List ℕ} {t b : ℕ} → xs ≡ t ∷ ys → ys ≡ b ∷ zs → result_test t b ≡ false → nothing ≡ result_in types xs
  unfolding result_in
  result_no e f v = rw (e, f, v)

module _ (expressions : ℕ) (emitted : List Bool) where
  pub range_none : {xs : List ℕ} → xs ≡ [] → nothing ≡ range_in expressions emitted xs
  unfolding range_in
  range_none e = rw e

  pub range_short : {xs ys : List ℕ} {a : ℕ} → xs ≡ a ∷ ys → ys ≡ [] → nothing ≡ range_in expressions emitted xs
  unfolding range_in
  range_short e f = rw (e, f)

  pub range_yes : {xs ys zs : List ℕ} {a b : ℕ} → xs ≡ a ∷ ys → ys ≡ b ∷ zs → range_test expressions emitted a b ≡ true → some zs ≡ range_in expressions emitted xs
  unfolding range_in
  range_yes e f v = rw (e, f, v)

  pub range_no : {xs ys zs : List ℕ} {a b : ℕ} → xs ≡ a ∷ ys → ys ≡ b ∷ zs → range_test expressions emitted a b ≡ false → nothing ≡ range_in expressions emitted xs
  unfolding range_in
  range_no e f v = rw (e, f, v)

-- what is left of the expressions gives the whole
pub record Unemitted (t : List ℕ) (n : ℕ) (whole : Bool) (e more : ℕ) : Type 0 where
  pub fits : e + more ≤ n
  pub rest : unemitted (emitted_of t n) e more ≡ whole

module _ {t : List ℕ} {n : ℕ} {whole : Bool} {e more : ℕ} (s : Unemitted t n whole e more) where
  unemitted-step : {next : ℕ} → more ≡ suc next → (not (eqb (word t (marks_at + e)) 1) && unemitted (emitted_of t n) (e + 1) next) ≡ whole
  unfolding unemitted emitted_of
  unemitted-step {next} h =
      let b : e + 1 ≡ suc e = omega arith in
      rw (b, ← get_d_tab n (λ i. eqb (word t (marks_at + i)) 1) e false (omega (arith, s.fits))) (rw h at s.rest)

  pub unemitted_again : {next : ℕ} → more ≡ suc next → (word t (marks_at + e) ≡ 1 → ⊥) → Unemitted t n whole (e + 1) next
  unemitted_again h ne = record { fits = omega (arith, s.fits); rest = rw (ne_eqb _ 1 ne) at (unemitted-step h) }

  pub unemitted_stops : more ≡ suc (more - 1) → word t (marks_at + e) ≡ 1 → false ≡ whole
  unemitted_stops h eq = rw (eq-eqb _ 1 eq) at (unemitted-step h)

  pub unemitted_done : more ≡ 0 → true ≡ whole
  unfolding unemitted
  unemitted_done h = rw h at s.rest
