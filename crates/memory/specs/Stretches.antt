-- Stretches of slots that are written at once: the four of a context, the records of a function copied over those of its total, and records that are
-- forgotten.
use Rattle.std.specs.Prelude.{ℕ, zero, suc, ◌+◌, cond, List, eqb, get_or, set}
use Rattle.context.specs.declared.required_context.RequiredContext.{RequiredContext}

-- the context in the four slots from `at` on, by its pieces
abbrev pub pieces_at : List ℕ → (at : ℕ) → RequiredContext
pieces_at rs at = record { globals = get_or rs at 0; locals = get_or rs (at + 1) 0; args = get_or rs (at + 2) 0; retval = get_or rs (at + 3) 0 }

-- the four slots from `at` on
abbrev pub four_set : List ℕ → (at a b c d : ℕ) → List ℕ
four_set rs at a b c d = set (set (set (set rs at a) (at + 1) b) (at + 2) c) (at + 3) d

-- the first n of the slots from `from` on, where they have a record, over those from `to` on
unfoldable pub copied : List ℕ → (from to n : ℕ) → List ℕ
copied rs from to zero = rs
copied rs from to (suc n) =
    cond (eqb (get_or rs (from + n) 0) 2) (copied rs from to n) (set (copied rs from to n) (to + n) (get_or rs (from + n) 0))

-- the first n of the slots from `from` on have the empty part
unfoldable pub forgotten : List ℕ → (from n : ℕ) → List ℕ
forgotten rs from zero = rs
forgotten rs from (suc n) = set (forgotten rs from n) (from + n) 2
