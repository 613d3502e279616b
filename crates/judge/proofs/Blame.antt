-- Each expression by its kind's group, and the lowest expression and statement that fail.
use Prim.Native.Nat.{ℕ, zero, suc, ◌+◌, ◌-◌, ◌<◌, ◌≤◌}
use native.Mathlib.Omega.{arith}
use native.Mathlib.Decide.{ℕ_discrete, dec_lt}
use mathlib.Core.Path.{◌≡◌, refl, sym, ap, ◌∙◌}
use mathlib.Core.Logic.{◌⊎◌, inl, inr}
use mathlib.Core.Bool.{Bool, true, false, ◌||◌, and-true, and-false}
use mathlib.Core.List.{List, [], ◌∷◌}
use mathlib.Core.Option.{Option, some, none as nothing}
use lib.ListN.{length, get_or}
use borrow.Author.Tests.{le-ltb}
use Rattle.module.specs.Module.{Opaque, Kill}
use Rattle.module.specs.Decode.{expression_of}
use Rattle.module.specs.Tables.{function_of}
use Rattle.access.specs.declared.kinded.Kinded.{Kinded}
use Rattle.access.specs.Access.{typed_at, statement_at}
use Rattle.access.proofs.Access.{typed_is, statement_is}
use Rattle.context.specs.Types.{types_of}
use Rattle.clearance.specs.Scope.{Scope, no_expression, typed, type_of}
use Rattle.clearance.specs.Judged.{is_value, pointee_holds, holds_either, fits_expression, fits_statement, judged_expression, unless, failing, lower, lowest, blamed_expression}
use Rattle.clearance.proofs.Small.{cases}
use Rattle.judge.specs.Marked.{marked}
use Rattle.judge.specs.Unsized.{UnsizedTable}
use Rattle.judge.specs.Given.{scope_at, Given, Row, Fits}
use Rattle.module.proofs.Each.{past}
use Rattle.judge.proofs.ValueRows.{Each}
use Rattle.judge.proofs.Unsized.{held_either}
use Rattle.judge.proofs.Operands.{S, type_low, G, o, by-kind}

module _ {bytes t : List ℕ} {f : ℕ} {types alike : List ℕ} {paths : List Bool} {e : ℕ} {row : Kinded} (R : Row bytes t f types alike paths e row) where
  -- a literal, a zero value or a constant
  pub fits_fixed : {v : Bool} → (row.kind ≡ 0) ⊎ ((row.kind ≡ 1) ⊎ (row.kind ≡ 5)) → v ≡ is_value (S (G R)) e → Fits bytes t f e v
  unfolding expression_of fits_expression
  fits_fixed (inl h) q = by-kind R 0 h q
  fits_fixed (inr (inl h)) q = by-kind R 1 h q
  fits_fixed (inr (inr h)) q = by-kind R 5 h q

  last_kind : (j : ℕ) → is_value (S (G R)) e ≡ fits_expression (S (G R)) e (expression_of (past 32 j) (o R))
  unfolding expression_of fits_expression
  last_kind j = refl

  pub fits_last : {v : Bool} → 31 < row.kind → v ≡ is_value (S (G R)) e → Fits bytes t f e v
  fits_last h q = by-kind R (past 32 (row.kind - 32)) (omega arith) (q ∙ last_kind (row.kind - 32))

  late_kinds : (j : ℕ) → j ≤ 8 → false ≡ fits_expression (S (G R)) e (expression_of (past 23 j) (o R))
  unfolding expression_of fits_expression
  late_kinds zero l = refl
  late_kinds (suc zero) l = refl
  late_kinds (suc (suc zero)) l = refl
  late_kinds (suc (suc (suc zero))) l = refl
  late_kinds (suc (suc (suc (suc zero)))) l = refl
  late_kinds (suc (suc (suc (suc (suc zero))))) l = refl
  late_kinds (suc (suc (suc (suc (suc (suc zero)))))) l = refl
  late_kinds (suc (suc (suc (suc (suc (suc (suc zero))))))) l = refl
  late_kinds (suc (suc (suc (suc (suc (suc (suc (suc zero)))))))) l = refl
  late_kinds (suc (suc (suc (suc (suc (suc (suc (suc (suc j))))))))) l = absurd (omega arith)

  image_kinds : (j : ℕ) → j ≤ 2 → false ≡ fits_expression (S (G R)) e (expression_of (past 13 j) (o R))
  unfolding expression_of fits_expression
  image_kinds zero l = refl
  image_kinds (suc zero) l = refl
  image_kinds (suc (suc zero)) l = refl
  image_kinds (suc (suc (suc j))) l = absurd (omega arith)

  uniform_kind : row.kind ≡ 2 → Fits bytes t f e false
  unfolding expression_of fits_expression
  uniform_kind h = by-kind R 2 h refl

  -- what no group has: the result of a uniform load, images, and the last kinds
  pub fits_unjudged : 1 < row.kind → (2 < row.kind → 12 < row.kind) → (15 < row.kind → 22 < row.kind) → row.kind ≤ 31 → Fits bytes t f e false
  fits_unjudged a b c d =
      elim (ℕ_discrete row.kind 2) [
        | yes h ↦ uniform_kind h
        | no n ↦
            let past_named : 12 < row.kind = b (omega arith) in
            elim (dec_lt 15 row.kind) [
              | yes l ↦ let past_operators : 22 < row.kind = c l in by-kind R (past 23 (row.kind - 23)) (omega arith) (late_kinds (row.kind - 23) (omega arith))
              | no l ↦ by-kind R (past 13 (row.kind - 13)) (omega arith) (image_kinds (row.kind - 13) (omega arith))
            ]
      ]

-- judged: it fits, and neither its type nor its pointee holds an unsized array
module _ {bytes t : List ℕ} {f : ℕ} {types alike : List ℕ} {paths : List Bool} (given : Given bytes t f types alike paths) {held : List Bool} (U : UnsizedTable (types_of types) held) (e : ℕ) (there : e < length (function_of bytes t f).expressions) {a : ℕ} {w : Bool} (own : a ≡ type_of (S given) e) (entry : w ≡ marked held a || pointee_holds (marked held) (get_or (types_of types) a Opaque)) where
  held_is : w ≡ holds_either (S given) (type_of (S given) e)
  held_is =
      entry ∙ rw own (held_either types held given.shapes.lower U (S given) given.values.same (type_of (S given) e) (type_low given e there))

  pub judged_unsized : w ≡ true → false ≡ judged_expression (S given) e
  unfolding judged_expression
  judged_unsized h = sym (rw (← held_is, h) (and-false (fits_expression (S given) e (typed (S given) e).expression)))

  pub judged_fits : {r : Bool} → w ≡ false → Fits bytes t f e r → r ≡ judged_expression (S given) e
  unfolding judged_expression typed
  judged_fits h q =
      q ∙ sym (rw (← held_is, h, typed_is bytes t f e no_expression there) (and-true (fits_expression (S given) e (typed_at bytes t f e).expression)))

-- the lowest that fails a test of its number
module _ {A : Type 0} (p : ℕ → Bool) where
  lower-first : (xs : List A) (n m : ℕ) → n < m → lower n (lowest (failing (λ e x. p e) m xs)) ≡ some n
  unfolding lower lowest failing unless
  lower-first [] n m l = refl
  lower-first (x ∷ xs) n m l =
      cases (p m)
      (λ h. rw h (lower-first xs n (suc m) (omega arith)))
      (λ h. rw (h, lower-first xs m (suc m) (omega arith), le-ltb m n (omega arith)))

  pub lowest-first : (xs : List A) (n i : ℕ) → n ≤ i → i < n + length xs → ((k : ℕ) → n ≤ k → k < i → p k ≡ true) → p i ≡ false → lowest (failing (λ e x. p e) n xs) ≡ some i
  unfolding lowest failing unless
  lowest-first [] n i l m f h = absurd (omega arith)
  lowest-first (x ∷ xs) n i l m f h =
      elim (ℕ_discrete n i) [
        | yes q ↦ rw (q, h) (lower-first xs i (suc i) (omega arith))
        | no q ↦ rw (f n (omega arith) (omega arith)) (lowest-first xs (suc n) i (omega arith) (omega arith) (λ k a b. f k (omega arith) b) h)
      ]

  pub lowest-none : (xs : List A) (n : ℕ) → ((k : ℕ) → k < n + length xs → p k ≡ true) → lowest (failing (λ e x. p e) n xs) ≡ nothing
  unfolding lowest failing unless
  lowest-none [] n f = refl
  lowest-none (x ∷ xs) n f = rw (f n (omega arith)) (lowest-none xs (suc n) (λ k l. f k (omega arith)))

pub there_below : {e n m : ℕ} → n ≡ m → e < n → e < m
there_below h l = omega arith

module _ (S : Scope) {n : ℕ} (long : n ≡ length S.function.expressions) where
  pub blamed_at : {e : ℕ} {r : Bool} → e < n → Each (judged_expression S) e → r ≡ judged_expression S e → r ≡ false → some e ≡ blamed_expression S
  unfolding blamed_expression
  blamed_at {e} l E q h =
      sym (lowest-first (judged_expression S) S.function.expressions 0 e (omega arith) (omega arith) (λ k a b. E.each k b) (sym q ∙ h))

  pub blamed_none : {e : ℕ} → n ≤ e → Each (judged_expression S) e → nothing ≡ blamed_expression S
  unfolding blamed_expression
  blamed_none l E = sym (lowest-none (judged_expression S) S.function.expressions 0 (λ k m. E.each k (omega arith)))

-- a test of each element is one of its number
failing-by : {A : Type 0} (test : A → Bool) (p : ℕ → Bool) (d : A) (xs : List A) (n : ℕ) → ((k : ℕ) → k < length xs → test (get_or xs k d) ≡ p (n + k)) → failing (λ m x. test x) n xs ≡ failing (λ m x. p m) n xs
unfolding failing
failing-by test p d [] n f = refl
failing-by test p d (x ∷ xs) n f =
    let here : n + 0 ≡ n = omega arith in
    rw (
      f 0 (omega arith) ∙ ap p here,
      failing-by test p d xs (suc n) (λ k l. f (suc k) (omega arith) ∙ ap p (let next : n + suc k ≡ suc n + k = omega arith in next)),
    )

module _ (bytes t : List ℕ) (f : ℕ) {n : ℕ} (long : n ≡ length (function_of bytes t f).statements) where
  abbrev fitting : ℕ → Bool
  fitting s = fits_statement (scope_at bytes t f) (statement_at bytes t f s)

  abbrev unfit : Option ℕ
  unfit = lowest (failing (λ n x. fits_statement (scope_at bytes t f) x) 0 (function_of bytes t f).statements)

  unfit-is : unfit ≡ lowest (failing (λ m x. fitting m) 0 (function_of bytes t f).statements)
  unfit-is =
      ap lowest (failing-by (fits_statement (scope_at bytes t f)) fitting Kill (function_of bytes t f).statements 0
      (λ k l. ap (fits_statement (scope_at bytes t f)) (statement_is bytes t f k Kill l) ∙ ap fitting (let same : k ≡ 0 + k = omega arith in same)))

  pub unfit-at : {s : ℕ} {r : Bool} → s < n → Each fitting s → r ≡ fitting s → r ≡ false → some s ≡ unfit
  unfit-at {s} l E q h =
      sym (unfit-is ∙ lowest-first fitting (function_of bytes t f).statements 0 s (omega arith) (omega arith) (λ k a b. E.each k b) (sym q ∙ h))

  pub unfit-none : {s : ℕ} → n ≤ s → Each fitting s → nothing ≡ unfit
  unfit-none l E = sym (unfit-is ∙ lowest-none fitting (function_of bytes t f).statements 0 (λ k m. E.each k (omega arith)))
