-- Where the input of `report` is split: at the first record, by lengths alone, whose mark is RQ and whose header is whole. Before it is the module, from it on the request.
use Rattle.std.specs.Prelude.{ℕ, zero, suc, ◌+◌, Bool, true, false, ◌&&◌, List, [], ◌∷◌, leb, eqb, length, take, drop}
use Rattle.field.specs.Field.{field_at}
use Rattle.module.specs.Record.{letters}

-- RQ is 82, 81
abbrev pub request_mark : ℕ
request_mark = letters 82 81

unfoldable pub heads_request : List ℕ → Bool
heads_request s = leb 4 (length s) && eqb (field_at s 0) request_mark

-- How many bytes stand before the request, of which `left` are the rest of a record that has begun; all, where there is no request.
unfoldable pub module_bytes : List ℕ → (left : ℕ) → ℕ
module_bytes [] left = 0
module_bytes (b ∷ s) (suc left) = suc (module_bytes s left)
module_bytes (b ∷ s) zero =
    elim (heads_request (b ∷ s)) [
      | true ↦ 0
      | false ↦ suc (module_bytes s (3 + field_at (b ∷ s) 2))
    ]

abbrev pub module_in : List ℕ → List ℕ
module_in s = take (module_bytes s 0) s

abbrev pub request_in : List ℕ → List ℕ
request_in s = drop (module_bytes s 0) s
