-- Something of each number: of those below n one by one, and of those from n on. So a claim about what every kind of expression or statement
-- decodes to is shown kind by kind: it computes at each.
use Prim.Native.Nat.{ℕ, zero, suc}

-- the numbers from n on
abbrev pub past : ℕ → ℕ → ℕ
past zero k = k
past (suc n) k = suc (past n k)

abbrev pub Each : (ℕ → Type 0) → ℕ → Type 0
Each P zero = Unit {0}
Each P (suc n) = P 0 × Each (λ k. P (suc k)) n

pub each : (P : ℕ → Type 0) (n : ℕ) → Each P n → ((k : ℕ) → P (past n k)) → (k : ℕ) → P k
each P zero h z k = z k
each P (suc n) h z zero = h.0
each P (suc n) h z (suc k) = each (λ j. P (suc j)) n h.1 z k
