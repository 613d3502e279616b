-- Which fields are allowed as a record's operands: "No reference to nothing", an operand "below that of its expression; likewise
-- types and called functions", "no expression in two emits, no call of an entry", "a switch has one default (65535), distinct values".
use Rattle.std.specs.Prelude.{ℕ, zero, suc, ◌-◌, Bool, true, false, not, ◌||◌, ◌&&◌, List, [], ◌∷◌, ltb, leb, eqb, length, get_or}
use Rattle.std.proofs.Math.Option.{Option, some, none as nothing}
use Rattle.field.specs.Limits.{absent}
use Rattle.module.specs.Decode.{level_handles, mode_handles}
use Rattle.module.specs.Shape.{Operand, expression, optional, index, list, pattern, level, mode, argument, global, local, block, cases, function, range, type, size, members, binding, flag, result, never}

-- What a record may refer to: how many there are of each so far, whether each function is an entry, and whether each expression
-- of this function has been emitted.
pub record Scope : Type 0 where
  pub types : ℕ
  pub globals : ℕ
  pub functions : ℕ
  pub arguments : ℕ
  pub locals : ℕ
  pub expressions : ℕ
  pub statements : ℕ
  pub entries : List Bool
  pub emitted : List Bool

-- what is left of the fields, or nothing where a field is not allowed or is missing
abbrev pub Left : Type 0
Left = Option (List ℕ)

abbrev pub given : Bool → Left → Left
given true l = l
given false l = nothing

-- one field that passes the test
unfoldable pub one : (ℕ → Bool) → List ℕ → Left
one p [] = nothing
one p (x ∷ xs) = given (p x) (some xs)

abbrev pub then : Left → (List ℕ → Left) → Left
then nothing k = nothing
then (some xs) k = k xs

-- n such fields
unfoldable pub many : (ℕ → Bool) → ℕ → List ℕ → Left
many p zero xs = some xs
many p (suc n) xs = then (one p xs) (many p n)

-- a count, and what it asks for
unfoldable pub counted : (ℕ → List ℕ → Left) → List ℕ → Left
counted f [] = nothing
counted f (n ∷ xs) = f n xs

abbrev pub below : ℕ → ℕ → Bool
below n x = ltb x n

abbrev pub below_or_absent : ℕ → ℕ → Bool
below_or_absent n x = eqb x absent || ltb x n

-- 2 to 4
abbrev pub two_to_four : ℕ → Bool
two_to_four x = leb 2 x && leb x 4

-- 0 to 63, or absent
abbrev pub bindings : ℕ
bindings = 64

-- one that passes p, and one that passes q, n times
unfoldable pub pairs : (ℕ → Bool) → (ℕ → Bool) → ℕ → List ℕ → Left
pairs p q zero xs = some xs
pairs p q (suc n) xs = then (one p xs) (λ ys. then (one q ys) (pairs p q n))

unfoldable pub elem : ℕ → List ℕ → Bool
elem x [] = false
elem x (y ∷ ys) = eqb x y || elem x ys

-- n values, each with a block: none of them twice nor among `earlier`, and the default at last among them
unfoldable pub cases_after : List ℕ → ℕ → List ℕ → Left
cases_after earlier zero xs = given (elem absent earlier) (some xs)
cases_after earlier (suc n) [] = nothing
cases_after earlier (suc n) (v ∷ []) = nothing
cases_after earlier (suc n) (v ∷ b ∷ xs) = given (not (elem v earlier)) (cases_after (v ∷ earlier) n xs)

-- n expressions from e on that have not been emitted
unfoldable pub unemitted : List Bool → ℕ → ℕ → Bool
unemitted emitted e zero = true
unemitted emitted e (suc n) = not (get_or emitted e false) && unemitted emitted (suc e) n

-- "first and last, ascending or equal"
unfoldable pub range_in : ℕ → List Bool → List ℕ → Left
range_in expressions emitted [] = nothing
range_in expressions emitted (first ∷ []) = nothing
range_in expressions emitted (first ∷ last ∷ xs) =
    given (leb first last && (ltb last expressions && unemitted emitted first (suc last - first))) (some xs)

-- a binding without a type is not allowed
unfoldable pub result_in : ℕ → List ℕ → Left
result_in types [] = nothing
result_in types (t ∷ []) = nothing
result_in types (t ∷ b ∷ xs) =
    given (below_or_absent types t && (below_or_absent bindings b && (ltb t absent || eqb b absent))) (some xs)

-- as many letters as the count says
unfoldable pub pattern_after : ℕ → List ℕ → Left
pattern_after n xs = given (two_to_four n) (many (below 4) n xs)

-- as many expressions as the code has by this list
unfoldable pub code_after : ℕ → List ℕ → ℕ → List ℕ → Left
code_after expressions handles code xs = given (ltb code (length handles)) (many (below expressions) (get_or handles code 0) xs)

-- What is left of the fields after one operand.
unfoldable pub taken : Operand → Scope → List ℕ → Left
taken expression s = one (below s.expressions)
taken optional s = one (below_or_absent s.expressions)
taken index s = one (below absent)
taken list s = counted (many (below s.expressions))
taken pattern s = counted pattern_after
taken level s = counted (code_after s.expressions level_handles)
taken mode s = counted (code_after s.expressions mode_handles)
taken argument s = one (below s.arguments)
taken global s = one (below s.globals)
taken local s = one (below s.locals)
taken block s = one (λ x. true)
taken cases s = counted (cases_after [])
taken function s = one (λ x. not (get_or s.entries x true))
taken range s = range_in s.expressions s.emitted
taken type s = one (below s.types)
taken size s = one two_to_four
taken members s = counted (pairs (below s.types) (below_or_absent bindings))
taken binding s = one (below_or_absent bindings)
taken flag s = one (below 2)
taken result s = result_in s.types
taken never s = one (λ x. false)

abbrev pub on_left : Left → (List ℕ → Bool) → Bool
on_left nothing k = false
on_left (some xs) k = k xs

abbrev pub is_nil : List ℕ → Bool
is_nil [] = true
is_nil (x ∷ xs) = false

-- whether the fields are operands of this shape, and nothing else
unfoldable pub operands : List Operand → Scope → List ℕ → Bool
operands [] s = is_nil
operands (c ∷ cs) s = λ xs. on_left (taken c s xs) (operands cs s)
