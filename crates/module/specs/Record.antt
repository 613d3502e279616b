-- Records of a file: "two-letter mark, 16-bit body length, 16-bit fields, little-endian".
use Rattle.std.specs.Prelude as rattle
use Rattle.std.specs.Prelude.{Some, None, ℕ, zero, suc, ◌+◌, ◌*◌, ◌-◌, ◌/◌, ◌%◌, Bool, cond, List, [], ◌∷◌, eqb}
use Rattle.std.proofs.Math.Option.{Option, some, none as nothing}
use Rattle.field.specs.Field.{field_at}
use Rattle.module.specs.declared.record.Mark.{Mark}
use Rattle.module.specs.declared.record.Mark.TheVariants.{TY, GV, FN, AR, LV, EX, BK, ST}

-- the last n fields before the byte `end`
unfoldable pub fields_to : List ℕ → ℕ → ℕ → List ℕ
fields_to bytes end zero = []
fields_to bytes end (suc n) = field_at bytes (end - 2 * suc n) ∷ fields_to bytes end n

-- the length that the header of the record at `at` gives
abbrev pub length_at : List ℕ → ℕ → ℕ
length_at bytes at = field_at bytes (at + 2)

-- how many whole fields the body has, and where the last of them ends
abbrev pub count_at : List ℕ → ℕ → ℕ
count_at bytes at = length_at bytes at / 2

abbrev pub end_at : List ℕ → ℕ → ℕ
end_at bytes at = at + 4 + 2 * count_at bytes at

-- the fields of the record at `at`
unfoldable pub body_at : List ℕ → ℕ → List ℕ
body_at bytes at = fields_to bytes (end_at bytes at) (count_at bytes at)

-- whether the body has no byte beside its fields
abbrev pub even : List ℕ → ℕ → Bool
even bytes at = eqb (length_at bytes at % 2) 0

-- what `mark_of` finds
unfoldable pub known : rattle.Option Mark → Option Mark
known (Some m) = some m
known None = nothing

-- the field that two letters make
abbrev pub letters : ℕ → ℕ → ℕ
letters a b = a + 256 * b

-- the mark that a field is, where it is one
unfoldable pub mark_of : ℕ → Option Mark
mark_of n =
    cond (eqb n (letters 84 89)) (some TY)
    (cond (eqb n (letters 71 86)) (some GV)
    (cond (eqb n (letters 70 78)) (some FN)
    (cond (eqb n (letters 65 82)) (some AR)
    (cond (eqb n (letters 76 86)) (some LV)
    (cond (eqb n (letters 69 88)) (some EX)
    (cond (eqb n (letters 66 75)) (some BK) (cond (eqb n (letters 83 84)) (some ST) nothing)))))))
