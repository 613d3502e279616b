-- The name of a statement by its kind: that of what the kind is decoded to, shown for each kind below 21 and for all others at once. And the code gives each of its kinds its name.
use mathlib.Core.Path.{◌≡◌, refl}
use Prim.Native.Nat.{ℕ, ◌≤◌}
use native.Mathlib.Omega.{arith}
use lib.ListN.{get_or}
use Rattle.module.specs.Decode.{statement_of}
use Rattle.module.specs.KindNumbers.{statement_code}
use Rattle.module.specs.declared.kinds.StatementKind.{StatementKind}
use Rattle.marks.proofs.Counts.{by-kind}
use Rattle.lines.specs.Text.{break_name, name_of, names, kind_name}

pub name_is : (k : ℕ) (o : ℕ → ℕ) → name_of (statement_of k o) ≡ kind_name k
unfolding name_of statement_of kind_name
name_is k o =
    by-kind 21 (λ k. name_of (statement_of k o) ≡ kind_name k)
    (refl, (refl, (refl, (refl, (refl, (refl, (refl, (refl, (refl, (refl, (refl, (refl, (refl, (refl, (refl, (refl, (refl, (refl, (refl, (refl, (refl, λ k. refl)))))))))))))))))))))
    k

-- of one kind
pub named : {decoded : StatementKind} {k : ℕ} (kind : StatementKind) → decoded ≡ kind → statement_code decoded ≡ k → kind_name k ≡ get_or names (statement_code kind) break_name
unfolding kind_name
named kind e c = rw (← c, e) refl

-- of no kind
pub other_named : (k : ℕ) → 21 ≤ k → kind_name k ≡ break_name
unfolding kind_name
other_named =
    by-kind 21 (λ k. 21 ≤ k → kind_name k ≡ break_name)
    (λ a. absurd (omega arith), (λ a. absurd (omega arith), (λ a. absurd (omega arith), (λ a. absurd (omega arith), (λ a. absurd (omega arith), (λ a. absurd (omega arith), (λ a. absurd (omega arith), (λ a. absurd (omega arith), (λ a. absurd (omega arith), (λ a. absurd (omega arith), (λ a. absurd (omega arith), (λ a. absurd (omega arith), (λ a. absurd (omega arith), (λ a. absurd (omega arith), (λ a. absurd (omega arith), (λ a. absurd (omega arith), (λ a. absurd (omega arith), (λ a. absurd (omega arith), (λ a. absurd (omega arith), (λ a. absurd (omega arith), (λ a. absurd (omega arith), λ k a. refl)))))))))))))))))))))
