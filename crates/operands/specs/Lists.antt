-- What the need a of an expression asks, by its kind: o gives its operands.
use Rattle.std.specs.Prelude.{ℕ, ◌+◌, cond, List, [], ◌∷◌, ◌++◌, eqb}
use Rattle.field.specs.Limits.{absent}
use Rattle.part.specs.PartReq.{PartReq, none, more, get_subpart}
use Rattle.module.specs.Decode.{tab}
use Rattle.clearance.specs.Shape.{or_none}
use Rattle.clearance.specs.Scope.{Scope, path_of, indexes}
use Rattle.clearance.specs.Needs.{Ask, of_value, ask_whole, ask_steps}

-- one operand, for the same part or for all of it
abbrev pub same_of : (ℕ → ℕ) → ℕ → PartReq → List Ask
same_of o j a = of_value (o j) a ∷ []

abbrev pub whole_of : (ℕ → ℕ) → ℕ → List Ask
whole_of o j = ask_whole (o j) ∷ []

-- an operand that may be absent
abbrev pub present_of : (ℕ → ℕ) → ℕ → List Ask
present_of o j = cond (eqb (o j) absent) [] (ask_whole (o j) ∷ [])

abbrev pub both_same : (ℕ → ℕ) → PartReq → List Ask
both_same o a = of_value (o 0) a ∷ of_value (o 1) a ∷ []

abbrev pub both_whole : (ℕ → ℕ) → List Ask
both_whole o = ask_whole (o 0) ∷ ask_whole (o 1) ∷ []

abbrev pub select_of : (ℕ → ℕ) → PartReq → List Ask
select_of o a = ask_whole (o 0) ∷ of_value (o 1) a ∷ of_value (o 2) a ∷ []

abbrev pub math_of : (ℕ → ℕ) → List Ask
math_of o = ask_whole (o 0) ∷ (present_of o 1 ++ (present_of o 2 ++ present_of o 3))

-- of the operand 0, the part that the operand 1 names
abbrev pub member_of : (ℕ → ℕ) → PartReq → List Ask
member_of o a = of_value (o 0) (more (o 1) a none) ∷ []

-- what the part k of a result asks: a letter's component of a vector, or a component
abbrev pub letter_of : (ℕ → ℕ) → ℕ → PartReq → List Ask
letter_of o k a = of_value (o 0) (more (o (2 + k)) (or_none (get_subpart a k)) none) ∷ []

abbrev pub component_of : (ℕ → ℕ) → ℕ → PartReq → List Ask
component_of o k a = of_value (o (1 + k)) (or_none (get_subpart a k)) ∷ []

abbrev pub letters : (ℕ → ℕ) → List ℕ
letters o = tab (o 1) (λ i. o (2 + i))

abbrev pub components : (ℕ → ℕ) → List ℕ
components o = tab (o 0) (λ i. o (1 + i))

-- a load by the pointer p
abbrev pub load_of : Scope → ℕ → PartReq → List Ask
load_of S p a = ask_steps (path_of S p) (indexes (path_of S p).steps) a
