-- Those to blame are exactly those that break a clause of 01's: no expression (statement) is to blame where every clause holds of all, and the
-- lowest to blame is the lowest that breaks one. By one law on lists.
use Prim.Native.Nat.{ℕ, ◌+◌, ◌<◌, ◌≤◌}
use native.Mathlib.Omega.{arith}
use native.Mathlib.Decide.{dec_lt}
use mathlib.Core.Path.{◌≡◌, refl, sym, subst, ◌∙◌}
use mathlib.Core.Bool.{Bool, true, false}
use mathlib.Core.List.{List, [], ◌++◌}
use mathlib.Core.Logic.{◌↔◌, ◌⊎◌, inl, inr}
use mathlib.Core.Option.{some, none as nothing}
use lib.ListN.{length, get_or}
use Rattle.module.specs.Module.{ExpressionHandle, Kill}
use Rattle.clearance.specs.Scope.{Scope, no_expression}
use Rattle.clearance.specs.Tree.{Tree, body_tree}
use Rattle.clearance.specs.Judged.{failing, lowest, judged_expression, blamed_expression, fits_statement, strays, at_top, blamed_statement}
use Rattle.clearance.specs.Rules.{Member}
use Rattle.clearance.specs.Verdict.{Report, body}
use Rattle.clearance.specs.IsJudged.{FitExpression, FitStatement, LowestNot, ExpressionBlamed, StatementBlamed}
use Rattle.clearance.proofs.Small.{cases}
use Rattle.clearance.proofs.Cleared.{lowest-none}
use Rattle.clearance.proofs.Lowest.{no_member, lowest-is, failing-fails, fails_failing, decide_member, none_listed, listed}
use Rattle.clearance.proofs.Faults.{either_list, in_left, in_right}
use Rattle.clearance.proofs.Relations.{impossible}
use Rattle.clearance.proofs.Strays.{stray_low}
use Rattle.clearance.proofs.Markless.{strays-same}
use Rattle.clearance.proofs.JudgedExpressions.{expression_exactly}
use Rattle.clearance.proofs.JudgedStatements.{statement_exactly}

-- l lists those of so many of which something does not hold
record Lists (Holds : ℕ → Type 0) (count : ℕ) (l : List ℕ) : Type 0 where
  in_range : (n : ℕ) → Member n l → n < count
  failed : (n : ℕ) → Member n l → Holds n → ⊥
  decided : (n : ℕ) → n < count → Holds n ⊎ Member n l

module _ (Holds : ℕ → Type 0) (count : ℕ) (l : List ℕ) (L : Lists Holds count l) where
  unlisted : (n : ℕ) → n < count → (Member n l → ⊥) → Holds n
  unlisted n i f = go (L.decided n i)
    where
      go : Holds n ⊎ Member n l → Holds n
      go (inl h) = h
      go (inr m) = absurd (f m)

  failed_listed : (n : ℕ) → n < count → (Holds n → ⊥) → Member n l
  failed_listed n i f = go (L.decided n i)
    where
      go : Holds n ⊎ Member n l → Member n l
      go (inl h) = absurd (f h)
      go (inr m) = m

  none_exactly : (lowest l ≡ nothing) ↔ ((n : ℕ) → n < count → Holds n)
  none_exactly = (
    (λ e n i. unlisted n i (no_member n l (lowest-none l e))),
    (λ h. none_listed l (λ n m. L.failed n m (h n (L.in_range n m)))),
  )

  lowest-exactly : (n : ℕ) → (lowest l ≡ some n) ↔ LowestNot Holds count n
  lowest-exactly n = (
    (λ e.
        let M = lowest-is l n e in
        let i = L.in_range n M.member in
        record {
          one = i;
          fails = L.failed n M.member;
          lower = λ m j. unlisted m (omega arith) (λ g. omega (arith, M.least m g));
        }),
    (λ M. listed l n record { member = failed_listed n M.one M.fails; least = λ m g. least M m g (dec_lt m n) }),
  )
    where
      least : LowestNot Holds count n → (m : ℕ) → Member m l → Dec (m < n) → n ≤ m
      least M m g (yes i) = absurd (L.failed m g (M.lower m i))
      least M m g (no i) = omega arith

from_first : {A : Type 0} (test : ℕ → A → Bool) (d : A) (xs : List A) (n : ℕ) → n < length xs → test n (get_or xs n d) ≡ false → Member n (failing test 0 xs)
from_first test d xs n i h = let z : 0 + n ≡ n = omega arith in subst (λ k. Member k (failing test 0 xs)) z (fails_failing test d 0 xs n i (rw z h))

-- Expressions

module _ (S : Scope) where
  test_fails : (n : ℕ) → judged_expression S n ≡ false → FitExpression S n → ⊥
  test_fails n h f = impossible (sym h ∙ (expression_exactly S n).1 f)

  expression_lists : Lists (FitExpression S) (length S.function.expressions) (failing (λ e x. judged_expression S e) 0 S.function.expressions)
  expression_lists = record {
    in_range = λ n m. let z = fails n m in omega (arith, z.1, z.2);
    failed = λ n m. test_fails n (fails n m).3;
    decided = λ n i.
        cases (judged_expression S n) (λ h. inl ((expression_exactly S n).0 h))
        (λ h. inr (from_first (λ e x. judged_expression S e) no_expression S.function.expressions n i h));
  }
    where
      fails : (n : ℕ) → Member n (failing (λ e x. judged_expression S e) 0 S.function.expressions) →
          (i : ℕ) × (i < length S.function.expressions) × (n ≡ 0 + i) × (judged_expression S n ≡ false)
      fails n m = failing-fails (λ e x. judged_expression S e) no_expression 0 S.function.expressions n m

  pub expressions-exactly : (blamed_expression S ≡ nothing) ↔ ((e : ExpressionHandle) → e < length S.function.expressions → FitExpression S e)
  unfolding blamed_expression
  expressions-exactly = none_exactly _ _ _ expression_lists

  pub expression_blamed : (e : ExpressionHandle) → (blamed_expression S ≡ some e) ↔ ExpressionBlamed S e
  unfolding blamed_expression
  expression_blamed e = lowest-exactly _ _ _ expression_lists e

  -- Statements

  abbrev whole : Tree
  whole = body_tree S.function []

  abbrev unfit : List ℕ
  unfit = failing (λ n x. fits_statement S x) 0 S.function.statements

  abbrev Unfit : ℕ → Type 0
  Unfit n = (i : ℕ) × (i < length S.function.statements) × (n ≡ 0 + i) × (fits_statement S (get_or S.function.statements i Kill) ≡ false)

  unfit-is : (n : ℕ) → Member n unfit → Unfit n
  unfit-is n m = failing-fails (λ n x. fits_statement S x) Kill 0 S.function.statements n m

  unfit_fails : (n : ℕ) → Unfit n → FitStatement S n → ⊥
  unfit_fails n (i, l, e, h) f =
      let z : n ≡ i = omega arith in
      impossible (sym h ∙ ((statement_exactly S whole i _).1 (subst (λ k. FitStatement S k) z f)).0)

  decide : (n : ℕ) → n < length S.function.statements → (b : Bool) → fits_statement S (get_or S.function.statements n Kill) ≡ b →
      Member n (strays whole at_top) ⊎ (Member n (strays whole at_top) → ⊥) → FitStatement S n ⊎ Member n (unfit ++ strays whole at_top)
  decide n i false h d = inr (in_left n unfit _ (from_first (λ n x. fits_statement S x) Kill S.function.statements n i h))
  decide n i true h (inl m) = inr (in_right n unfit _ m)
  decide n i true h (inr f) = inl ((statement_exactly S whole n _).0 (h, f))

  statement_lists : Lists (FitStatement S) (length S.function.statements) (unfit ++ strays whole at_top)
  statement_lists = record {
    in_range = λ n m.
        either_list n unfit _ m (λ j. let z = unfit-is n j in omega (arith, z.1, z.2)) (stray_low S.function [] n);
    failed = λ n m f.
        either_list n unfit _ m (λ j. unfit_fails n (unfit-is n j) f) ((statement_exactly S whole n _).1 f).1;
    decided = λ n i. decide n i _ refl (decide_member n (strays whole at_top));
  }

  pub statements-exactly : (P : Report) → (blamed_statement S (body S P) ≡ nothing) ↔ ((n : ℕ) → n < length S.function.statements → FitStatement S n)
  unfolding blamed_statement
  statements-exactly P = rw (strays-same S.function P.marks [] at_top) (none_exactly _ _ _ statement_lists)

  pub statement_blamed : (P : Report) (n : ℕ) → (blamed_statement S (body S P) ≡ some n) ↔ StatementBlamed S n
  unfolding blamed_statement
  statement_blamed P n = rw (strays-same S.function P.marks [] at_top) (lowest-exactly _ _ _ statement_lists n)
