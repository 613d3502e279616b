-- The slots of a pass by their use: the table as it was, the new one, the part that is asked of the value, the needs at the function's end; above them what
-- is kept aside, and last the needs at hand.
use Rattle.std.specs.Prelude.{ℕ, ◌+◌, ◌*◌, ◌<◌, ◌≤◌, ◌≡◌, cond, List, ltb}
use Rattle.field.specs.Limits.{max_statements}
use Rattle.part.specs.PartReq.{PartReq, none}
use Rattle.module.specs.Decode.{tab}
use Rattle.clearance.specs.Scope.{Scope, result_shape}
use Rattle.clearance.specs.IsNeed.{IsNeed}
use Rattle.framed.specs.Kept.{Kept}
use Rattle.hold.specs.Hold.{in_slot, Live}

-- a table has a slot for each statement; only those of loops are used
abbrev pub table_size : ℕ
table_size = max_statements

abbrev pub asked_slot : ℕ
asked_slot = 2 * table_size

abbrev pub end_slot : ℕ
end_slot = asked_slot + 1

abbrev pub stack_slot : ℕ
stack_slot = asked_slot + 2

-- what the new table's slots mean
unfoldable pub new_of : List ℕ → List ℕ → List PartReq
new_of s rs = tab table_size (λ j. in_slot s rs (table_size + j))

-- nothing in the place of the new table's
unfoldable pub besides : (ℕ → PartReq) → ℕ → PartReq
besides g j = cond (ltb j table_size) (g j) (cond (ltb j asked_slot) none (g j))

-- what the first n slots mean, but for the new table's
unfoldable pub aside_of : List ℕ → List ℕ → ℕ → List PartReq
aside_of s rs n = tab n (besides (λ j. in_slot s rs j))

-- a slot that is not the new table's
pub record Beside (j : ℕ) : Type 0 where
  pub is : table_size ≤ j → asked_slot ≤ j

-- the first n slots have needs, but for the part that is asked of the value; the last of them, above all that has a fixed place, has those at hand
pub record Ready (S : Scope) (s rs : List ℕ) (n : ℕ) : Type 0 where
  pub live : Live s rs n
  pub high : stack_slot < n
  pub needs : (j : ℕ) → j < n → (j ≡ asked_slot → ⊥) → Kept S (in_slot s rs j)
  pub asked : IsNeed (result_shape S S.function.result) (in_slot s rs asked_slot)
