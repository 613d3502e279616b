-- The values of a record, mark by mark, as the code goes about them: the fields before the operands, the operands' shape, and the
-- type that an expression has beside them.
use Rattle.std.specs.Prelude.{ℕ, Bool, true, List, [], ◌∷◌, ltb, get_or}
use Rattle.module.specs.declared.record.Mark.{Mark}
use Rattle.module.specs.declared.record.Mark.TheVariants.{TY, GV, FN, AR, LV, EX, BK, ST}
use Rattle.module.specs.Shape.{Operand, type, binding, flag, result, type_shape, expression_shape, statement_shape}

unfoldable pub before_of : Mark → ℕ
before_of TY = 1
before_of GV = 0
before_of FN = 0
before_of AR = 0
before_of LV = 0
before_of EX = 2
before_of BK = 0
before_of ST = 1

unfoldable pub shape_in : Mark → List ℕ → List Operand
shape_in TY fs = type_shape (get_or fs 0 0)
shape_in GV fs = type ∷ []
shape_in FN fs = flag ∷ result ∷ []
shape_in AR fs = type ∷ binding ∷ []
shape_in LV fs = type ∷ []
shape_in EX fs = expression_shape (get_or fs 1 0)
shape_in BK fs = []
shape_in ST fs = statement_shape (get_or fs 0 0)

unfoldable pub typed_in : Mark → ℕ → List ℕ → Bool
typed_in TY types fs = true
typed_in GV types fs = true
typed_in FN types fs = true
typed_in AR types fs = true
typed_in LV types fs = true
typed_in EX types fs = ltb (get_or fs 0 0) types
typed_in BK types fs = true
typed_in ST types fs = true
