-- How many marks a statement has, by its kind: shown for each kind below 21, and for all others at once.
use mathlib.Core.Path.{◌≡◌, refl, sym, ap, ◌∙◌}
use mathlib.Core.List.{List}
use native.Mathlib.Omega.{arith}
use Prim.Native.Nat.{◌<◌, ℕ, zero, suc, ◌-◌, ◌≤◌}
use Rattle.module.specs.Decode.{statement_of}
use Rattle.module.specs.Marks.{mark_count}
use Rattle.access.specs.declared.kinded.Kinded.{Kinded}
use Rattle.access.specs.Access.{operand_at, statement_at, statement_row}
use Rattle.access.proofs.Access.{statement-of}

-- something of each number below n, and of all others
abbrev pub After : ℕ → (ℕ → Type 0) → Type 0
After zero P = (k : ℕ) → P k
After (suc n) P = P 0 × After n (λ k. P (suc k))

pub by-kind : (n : ℕ) (P : ℕ → Type 0) → After n P → (k : ℕ) → P k
by-kind zero P h k = h k
by-kind (suc n) P h zero = h.0
by-kind (suc n) P h (suc k) = by-kind n (λ j. P (suc j)) h.1 k

-- the kinds that have one mark
pub record Single (k : ℕ) : Type 0 where
  pub emit : k ≡ 0 → ⊥
  pub block : k ≡ 1 → ⊥
  pub kill : k ≡ 8 → ⊥
  pub control : k ≡ 9 → ⊥
  pub memory : k ≡ 10 → ⊥
  pub call : k ≡ 14 → ⊥

pub mark_one : (k : ℕ) (o : ℕ → ℕ) → Single k → mark_count (statement_of k o) ≡ 1
unfolding mark_count statement_of
mark_one k o =
    by-kind 21 (λ k. Single k → mark_count (statement_of k o) ≡ 1)
    (λ h. absurd (h.emit refl), (λ h. absurd (h.block refl), (λ h. refl, (λ h. refl, (λ h. refl, (λ h. refl, (λ h. refl, (λ h. refl, (λ h. absurd (h.kill refl), (λ h. absurd (h.control refl), (λ h. absurd (h.memory refl), (λ h. refl, (λ h. refl, (λ h. refl, (λ h. absurd (h.call refl), (λ h. refl, (λ h. refl, (λ h. refl, (λ h. refl, (λ h. refl, (λ h. refl, λ k h. refl)))))))))))))))))))))
    k

-- a block, and those from a kill to a memory barrier have none
pub mark_none : (k : ℕ) (o : ℕ → ℕ) → (k ≡ 0 → ⊥) → k ≤ 10 → (1 < k → 7 < k) → 0 ≡ mark_count (statement_of k o)
unfolding mark_count statement_of
mark_none k o =
    by-kind 11 (λ k. (k ≡ 0 → ⊥) → k ≤ 10 → (1 < k → 7 < k) → 0 ≡ mark_count (statement_of k o))
    (λ z m h. absurd (z refl), (λ z m h. refl, (λ z m h. absurd (omega (arith, h (omega arith))), (λ z m h. absurd (omega (arith, h (omega arith))), (λ z m h. absurd (omega (arith, h (omega arith))), (λ z m h. absurd (omega (arith, h (omega arith))), (λ z m h. absurd (omega (arith, h (omega arith))), (λ z m h. absurd (omega (arith, h (omega arith))), (λ z m h. refl, (λ z m h. refl, (λ z m h. refl, λ k z m h. absurd (omega arith))))))))))))
    k

mark_emit : (k : ℕ) (o : ℕ → ℕ) → k ≡ 0 → mark_count (statement_of k o) ≡ suc (o 1) - o 0
unfolding mark_count statement_of
mark_emit k o e = rw e

-- by the record's row
module _ (bytes t : List ℕ) (f s : ℕ) (r : Kinded) (is : r ≡ statement_row bytes t f s) where
  pub counted_emit : (a b n : ℕ) → r.kind ≡ 0 → a ≡ operand_at bytes r 0 → b ≡ operand_at bytes r 1 → n ≡ suc b - a → n ≡ mark_count (statement_at bytes t f s)
  counted_emit a b n k p q e = e ∙ rw (statement-of bytes t f s 0 r is k, p, q) (sym (mark_emit 0 (operand_at bytes r) refl))

  pub counted : (n : ℕ) → ((o : ℕ → ℕ) → n ≡ mark_count (statement_of r.kind o)) → n ≡ mark_count (statement_at bytes t f s)
  counted n h = h (operand_at bytes r) ∙ ap mark_count (sym (statement-of bytes t f s r.kind r is refl))
