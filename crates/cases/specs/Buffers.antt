-- What cases A and J write into the lent buffers: totals, a record PN, and an answer, a record AN, in fields of two bytes. The context and the records stand in
-- both: a part is 0 for all, 1 for exist, or 2 with its count, indexes and parts; 3 is none.
use Rattle.std.specs.Prelude.{ℕ, List, [], ◌∷◌}

abbrev pub needs_a : List ℕ
needs_a =
    0 ∷ 0  -- retval all
    ∷ 0 ∷ 0  -- no global
    ∷ 1 ∷ 0 ∷ 0 ∷ 0 ∷ 2 ∷ 0 ∷ 1 ∷ 0 ∷ 1 ∷ 0 ∷ 0 ∷ 0  -- an argument: 0 {1:all}
    ∷ 1 ∷ 0 ∷ 0 ∷ 0 ∷ 1 ∷ 0  -- a local: 0 exist
    ∷ 2 ∷ 0 ∷ 1 ∷ 0 ∷ 1 ∷ 0 ∷ 0 ∷ 0  -- expr 0 {1:all}
    ∷ 1 ∷ 0  -- expr 1 exist
    ∷ 2 ∷ 0 ∷ 1 ∷ 0 ∷ 1 ∷ 0 ∷ 0 ∷ 0  -- expr 2 {1:all}
    ∷ 0 ∷ 0  -- expr 3 all
    ∷ []

abbrev pub totals_a : List ℕ
totals_a =
    80 ∷ 78 ∷ 54 ∷ 0 ∷ 0 ∷ 0  -- PN, 54 bytes
    ∷ 0 ∷ 0  -- no global
    ∷ 1 ∷ 0  -- of function 0 there is a total
    ∷ 1 ∷ 0 ∷ 1 ∷ 0 ∷ 1 ∷ 0 ∷ 1 ∷ 0  -- its marks
    ∷ needs_a

abbrev pub answer_a : List ℕ
answer_a =
    65 ∷ 78 ∷ 48 ∷ 0 ∷ 0 ∷ 0  -- AN, 48 bytes
    ∷ 1 ∷ 0  -- required yes
    ∷ 8 ∷ 0 ∷ 0 ∷ 0  -- visits
    ∷ needs_a

abbrev pub needs_j : List ℕ
needs_j =
    3 ∷ 0  -- no retval
    ∷ 1 ∷ 0 ∷ 0 ∷ 0 ∷ 1 ∷ 0  -- a global: 0 exist
    ∷ 2 ∷ 0 ∷ 1 ∷ 0 ∷ 0 ∷ 0 ∷ 2 ∷ 0 ∷ 0 ∷ 0  -- two arguments: 1 all, 2 all
    ∷ 0 ∷ 0  -- no local
    ∷ 3 ∷ 0  -- expr 0 none
    ∷ 0 ∷ 0  -- expr 1 all
    ∷ 0 ∷ 0  -- expr 2 all
    ∷ 1 ∷ 0  -- expr 3 exist
    ∷ []

abbrev pub totals_j : List ℕ
totals_j =
    80 ∷ 78 ∷ 44 ∷ 0 ∷ 0 ∷ 0  -- PN, 44 bytes
    ∷ 1 ∷ 0 ∷ 0 ∷ 0 ∷ 1 ∷ 0  -- a global: 0 exist
    ∷ 1 ∷ 0  -- of function 0 there is a total
    ∷ 1 ∷ 0 ∷ 0 ∷ 0 ∷ 1 ∷ 0 ∷ 1 ∷ 0  -- its marks
    ∷ needs_j

abbrev pub answer_j : List ℕ
answer_j =
    65 ∷ 78 ∷ 34 ∷ 0 ∷ 0 ∷ 0  -- AN, 34 bytes
    ∷ 1 ∷ 0  -- required yes
    ∷ 7 ∷ 0 ∷ 0 ∷ 0  -- visits
    ∷ needs_j
