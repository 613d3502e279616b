-- The arms that ask their operands in the fields' order, each in its way: 0 not at all, 1 the part that is asked of the expression, 2 all, 3 exist,
-- 4 all where the operand is there. What such an arm asks, by the ways of its fields.
use Rattle.std.specs.Prelude.{ℕ, zero, suc, ◌+◌, ◌*◌, ◌/◌, ◌%◌, ◌≤◌, ◌≡◌, Bool, true, false, cond, not, List, [], ◌∷◌, eqb, length, get_or}
use Rattle.std.proofs.Math.Option.{Option, some, none as nothing}
use Rattle.field.specs.Limits.{absent}
use Rattle.part.specs.PartReq.{PartReq, all, exist}
use Rattle.walk.specs.Expression.{Ask, of_operand}
use Rattle.memory.specs.declared.want.Want.{Want}
use Rattle.memory.specs.Want.{asked, Wants}
use Rattle.asks.specs.declared.fields.Way.{Way}

-- whether the field x is asked, and what of it
unfoldable pub asks_by : ℕ → ℕ → Bool
asks_by way x = get_or (false ∷ true ∷ true ∷ true ∷ not (eqb x absent) ∷ []) way false

-- the operand x, where it is asked in this way
abbrev pub chosen : (way x : ℕ) → Option ℕ
chosen way x = cond (asks_by way x) (some x) nothing

unfoldable pub part_by : ℕ → PartReq → PartReq
part_by way p = get_or (all ∷ p ∷ all ∷ exist ∷ []) way all

-- what n fields ask, from the field k on, by their ways, three bits each, the first lowest
unfoldable pub field_asks : ℕ → ℕ → (ℕ → ℕ) → ℕ → PartReq → List Ask
field_asks zero ways o k p = []
field_asks (suc n) ways o k p =
    let rest = field_asks n (ways / 8) o (suc k) p in
    cond (asks_by (ways % 8) (o k)) (of_operand (o k) (part_by (ways % 8) p) ∷ rest) rest

-- as many as an arm has at most
abbrev pub fields : ℕ
fields = 8

unfoldable pub pack : List ℕ → ℕ
pack [] = 0
pack (way ∷ ways) = way + 8 * pack ways

-- the ways of each kind's fields, none where the arm is of another sort; a sample's follow
unfoldable pub kind_ways : List ℕ
kind_ways =
    0
    ∷ 0
    ∷ 0
    ∷ 0
    ∷ pack (2 ∷ 2 ∷ [])
    ∷ 0
    ∷ pack (2 ∷ [])
    ∷ 0
    ∷ 0
    ∷ 0
    ∷ 0
    ∷ 0
    ∷ pack (1 ∷ [])
    ∷ 0
    ∷ pack (2 ∷ 2 ∷ 4 ∷ 4 ∷ 4 ∷ [])
    ∷ pack (2 ∷ 4 ∷ [])
    ∷ pack (1 ∷ [])
    ∷ pack (1 ∷ 1 ∷ [])
    ∷ pack (2 ∷ 1 ∷ 1 ∷ [])
    ∷ pack (2 ∷ [])
    ∷ pack (2 ∷ [])
    ∷ pack (2 ∷ 4 ∷ 4 ∷ 4 ∷ [])
    ∷ pack (1 ∷ [])
    ∷ 0
    ∷ 0
    ∷ pack (3 ∷ [])
    ∷ 0
    ∷ pack (2 ∷ [])
    ∷ 0
    ∷ 0
    ∷ 0
    ∷ 0
    ∷ []

-- the ways of a sample's fields, by its level's code: the code is no operand, then come the level's handles and the depth reference
unfoldable pub sample_ways : List ℕ
sample_ways =
    pack (2 ∷ 2 ∷ 2 ∷ 4 ∷ 0 ∷ 4 ∷ [])
    ∷ pack (2 ∷ 2 ∷ 2 ∷ 4 ∷ 0 ∷ 4 ∷ [])
    ∷ pack (2 ∷ 2 ∷ 2 ∷ 4 ∷ 0 ∷ 2 ∷ 4 ∷ [])
    ∷ pack (2 ∷ 2 ∷ 2 ∷ 4 ∷ 0 ∷ 2 ∷ 4 ∷ [])
    ∷ pack (2 ∷ 2 ∷ 2 ∷ 4 ∷ 0 ∷ 2 ∷ 2 ∷ 4 ∷ [])
    ∷ []

-- the ways of the fields of an expression of this kind, with the code of its level, where it is a sample
unfoldable pub ways_of : (kind code : ℕ) → ℕ
ways_of kind code = cond (eqb kind 13) (get_or sample_ways code (get_or sample_ways 0 0)) (get_or kind_ways kind 0)

-- the number of a way, and those of the ways of an arm's fields
abbrev pub way_number : Way → ℕ
way_number Way.Skip = 0
way_number Way.Part = 1
way_number Way.All = 2
way_number Way.Exist = 3
way_number Way.Maybe = 4

unfoldable pub numbers : List Way → List ℕ
numbers [] = []
numbers (way ∷ ways) = way_number way ∷ numbers ways

-- the ways of a kind's fields, no more than an arm has
pub record WaysOf (kind code : ℕ) (ways : List Way) : Type 0 where
  pub is : pack (numbers ways) ≡ ways_of kind code
  pub few : length ways ≤ fields

-- the kinds of another sort: what they ask, its index or its part decides, or they name a variable
pub record Plain (kind : ℕ) : Type 0 where
  pub access_index : kind ≡ 3 → ⊥
  pub constant : kind ≡ 5 → ⊥
  pub swizzle : kind ≡ 7 → ⊥
  pub compose : kind ≡ 8 → ⊥
  pub argument : kind ≡ 9 → ⊥
  pub global : kind ≡ 10 → ⊥
  pub local : kind ≡ 11 → ⊥
  pub positions : kind ≡ 31 → ⊥

-- u asks p
pub record By (s rs : List ℕ) (p : PartReq) (u : Want) : Type 0 where
  pub wants : Wants s rs u
  pub is : asked s rs u ≡ p
