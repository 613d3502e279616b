-- 01's run, sentence by sentence: a run holds values of globals, locals, arguments and evaluated expressions and does the body in order.
use Rattle.std.specs.Prelude.{ℕ, zero, suc, ◌+◌, ◌-◌, Bool, true, false, cond, List, [], ◌∷◌, ◌++◌, map, ltb, eqb}
use Rattle.std.proofs.Math.Option.{Option, some, none as nothing}
use Rattle.field.specs.Limits.{absent}
use Rattle.module.specs.Module.{TypeInner, Scalar, Vector, Matrix, Atomic, Pointer, Array, Struct, BindingArray, Opaque}
use Rattle.module.specs.Module.{ExpressionHandle}
use Rattle.clearance.specs.Shape.{Shape, number, void, struct, array, member, extent, shape_at, leaf, begins, after}
use Rattle.clearance.specs.Scope.{Scope, is_vector, inner_of, result, evaluated, variable, Place, slot, shape_of, type_of, frame}
use Rattle.clearance.specs.Scope.{Operand, whole, same, Arm, fixed, argued, pointing, operator, access_index, access, swizzle, compose, joined, load, unjudged}
use Rattle.clearance.specs.Scope.{arm, Source, given, from, source, Step, at, by, Path, path_of}
use Rattle.clearance.specs.Tree.{Act, emit, store, Tree, nop, seq, act, branch, switch, loop, break, continue, return, unmarked}
use Rattle.clearance.specs.Needs.{gives, Exit, next, broke, continued, returned, out_break, out_continue, each}
use Rattle.clearance.specs.Judged.{component_count}
use Rattle.clearance.specs.Verdict.{Report, body}

-- A value has a number at each path that ends at one.
abbrev pub Value : Type 0
Value = List ℕ → ℕ

abbrev pub zeroes : Value
zeroes q = 0

-- What a run holds: a number at each place.
abbrev pub State : Type 0
State = Place → ℕ

-- each expression's own operator: a fixed function of its operands' values
abbrev pub Operators : Type 0
Operators = ExpressionHandle → List Value → Value

-- reading: out of range gives zero
unfoldable pub look : Scope → State → Place → ℕ
look S s q = cond (leaf (frame S) q) (s q) 0

-- v in the place of what stands at p
unfoldable pub put : Place → Value → State → State
put p v s q = cond (begins p q) (v (after p q)) (s q)

-- the element of n that a dynamic index names: none where it is out of range
unfoldable pub element : ℕ → ℕ → Option ℕ
element n i = cond (ltb i n) (some i) nothing

unfoldable pub onward : {A B : Type 0} → Option A → (A → Option B) → Option B
onward nothing f = nothing
onward (some i) f = f i

-- whether a value is zero: all its numbers, within its shape, are (`zero_exactly`)
unfoldable pub zero_in : Shape → Value → Bool
zero_in number v = eqb (v []) 0
zero_in void v = true
zero_in (struct b n f) v = each n (λ j. zero_in (f (b + j)) (λ q. v ((b + j) ∷ q)))
zero_in (array n t) v = each n (λ j. zero_in t (λ q. v (j ∷ q)))

-- a scalar's number; a value that is no scalar has none
unfoldable pub number_in : TypeInner → Value → Option ℕ
number_in Scalar v = some (v [])
number_in (Vector n) v = nothing
number_in (Matrix columns rows) v = nothing
number_in Atomic v = nothing
number_in (Pointer base) v = nothing
number_in (Array base n) v = nothing
number_in (Struct ms) v = nothing
number_in (BindingArray base) v = nothing
number_in Opaque v = nothing

-- a part of a value; reading out of range gives zero
unfoldable pub part_of : Value → Option ℕ → Value
part_of v nothing q = 0
part_of v (some i) q = v (i ∷ q)

-- the components that a pattern picks
unfoldable pub picked : Value → List ℕ → Value
picked v [] q = 0
picked v (i ∷ is) [] = 0
picked v (i ∷ is) (zero ∷ q) = v (i ∷ q)
picked v (i ∷ is) (suc k ∷ q) = picked v is (k ∷ q)

module _ (S : Scope) (ops : Operators) (s : State) where
  unfoldable pub value_from : ExpressionHandle → Source → Value
  value_from e given q = ops e [] q
  value_from e (from p) q = look S s (p ++ q)

  -- the value of an operand
  unfoldable pub value : ExpressionHandle → Value
  value e = value_from e (source S e)

  -- whether a condition or a `break_if` is zero
  unfoldable pub is_zero : ExpressionHandle → Bool
  is_zero e = zero_in (shape_of S (type_of S e)) (value e)

  -- the number of a selector or a dynamic index
  unfoldable pub number_of : ExpressionHandle → Option ℕ
  number_of e = number_in (inner_of S e) (value e)

  -- the element of n that a dynamic index names; one that is no scalar is out of range
  unfoldable pub element_by : ℕ → ExpressionHandle → Option ℕ
  element_by n e = onward (number_of e) (element n)

  unfoldable pub value_operand : Operand → Value
  value_operand (whole x) = value x
  value_operand (same x) = value x

  -- components in order
  unfoldable pub composed : List ExpressionHandle → Value
  composed [] q = 0
  composed (c ∷ cs) [] = 0
  composed (c ∷ cs) (zero ∷ q) = value c q
  composed (c ∷ cs) (suc k ∷ q) = composed cs (k ∷ q)

  -- one of scalars and of vectors' components in order
  unfoldable pub concatenated : List ExpressionHandle → Value
  concatenated [] q = 0
  concatenated (c ∷ cs) [] = 0
  concatenated (c ∷ cs) (k ∷ q) =
      let n = component_count (inner_of S c) in
      cond (ltb k n) (cond (is_vector (inner_of S c)) (value c (k ∷ q)) (value c q)) (concatenated cs ((k - n) ∷ q))

  -- A path is followed when loaded or stored, with the values that its dynamic indexes have then. Out of range it leads nowhere.
  unfoldable pub follow : Shape → List Step → Option (List ℕ)
  follow t [] = some []
  follow t (at i ∷ xs) = onward (follow (member t i) xs) (λ q. some (i ∷ q))
  follow t (by e ∷ xs) = onward (element_by (extent t) e) (λ i. onward (follow (member t i) xs) (λ q. some (i ∷ q)))

  unfoldable pub place : Path → Option (List ℕ)
  place p = follow (shape_at (frame S) p.root) p.steps

  unfoldable pub loaded : Place → Option (List ℕ) → Value
  loaded root nothing q = 0
  loaded root (some p) q = look S s (root ++ (p ++ q))

  -- Index, Swizzle and Compose take and place components as WGSL has them; every other operator is the expression's own.
  unfoldable pub evaluate : ExpressionHandle → Arm → Value
  evaluate e fixed q = 0
  evaluate e (argued i) q = 0
  evaluate e pointing q = 0
  evaluate e (operator xs) q = ops e (map value_operand xs) q
  evaluate e (access_index base i) q = value base (i ∷ q)
  evaluate e (access base index) q = part_of (value base) (element_by (extent (shape_of S (type_of S base))) index) q
  evaluate e (swizzle v pattern) q = picked (value v) pattern q
  evaluate e (compose cs) q = composed cs q
  evaluate e (joined cs) q = concatenated cs q
  evaluate e (load p) q = loaded (path_of S p).root (place (path_of S p)) q
  evaluate e unjudged q = 0

  -- such a store does nothing
  unfoldable pub stored : Place → Value → Option (List ℕ) → State
  stored root v nothing = s
  stored root v (some p) = put (root ++ p) v s

  -- Emit evaluates its range upwards, one expression after the other.
  unfoldable pub perform : Act → State
  perform (emit e) = cond (gives (arm S e)) (put (slot (evaluated e)) (evaluate e (arm S e)) s) s
  perform (store p v) = stored (path_of S p).root (value v) (place (path_of S p))

  -- Return ends the function with its value.
  unfoldable pub give_back : Option ExpressionHandle → State
  give_back nothing = put (slot result) zeroes s
  give_back (some v) = put (slot result) (value v) s

-- a run that has not ended yet, or how it was left
pub data Outcome : Type 0 where
  unended : Outcome
  ended : Exit → State → Outcome

unfoldable pub then : Outcome → (State → Outcome) → Outcome
then unended f = unended
then (ended next s) f = f s
then (ended broke s) f = ended broke s
then (ended continued s) f = ended continued s
then (ended returned s) f = ended returned s

-- left from outside as f says
unfoldable pub end_by : (Exit → Exit) → Outcome → Outcome
end_by f unended = unended
end_by f (ended x s) = ended (f x) s

-- turn after turn, at most so many
unfoldable pub turns : (State → Outcome) → ℕ → State → Outcome
turns turn zero s = unended
turns turn (suc n) s = then (turn s) (turns turn n)

-- where a value stands in a list
unfoldable pub position : ℕ → List ℕ → Option ℕ
position v [] = nothing
position v (x ∷ xs) = cond (eqb x v) (some 0) (onward (position v xs) (λ i. some (suc i)))

unfoldable pub or_else : Option ℕ → Option ℕ → Option ℕ
or_else nothing y = y
or_else (some i) y = some i

-- the equal case or else the default; a selector that is no scalar equals none
unfoldable pub pick : List ℕ → Option ℕ → Option ℕ
pick values o = or_else (onward o (λ v. position v values)) (position absent values)

-- (every switch that is read has a default)
unfoldable pub in_picked : Option ℕ → (ℕ → Outcome) → Outcome
in_picked nothing f = unended
in_picked (some i) f = f i

-- all statements, or those without which the run does: unmarked stores, emits (their values stay zero), ifs, switches and loops are passed over
pub data Mode : Type 0 where
  everything : Mode
  needed_only : Mode

unfoldable pub passing : Mode → Outcome → Outcome → Outcome
passing everything done skipped = done
passing needed_only done skipped = skipped

module _ (S : Scope) (ops : Operators) (mode : Mode) (fuel : ℕ) where
  -- again unless a `break_if` is not zero
  unfoldable pub again : Option ExpressionHandle → State → Outcome
  again nothing s = ended next s
  again (some c) s = cond (is_zero S ops s c) (ended next s) (ended broke s)

  -- at most `fuel` turns of each loop
  unfoldable pub exec : Tree → State → Outcome
  exec nop s = ended next s
  exec (seq a b) s = then (exec a s) (exec b)
  exec (act x) s = ended next (perform S ops s x)
  exec (branch c a b) s = cond (is_zero S ops s c) (exec b s) (exec a s)
  exec (switch c vs f) s = end_by out_break (in_picked (pick vs (number_of S ops s c)) (λ i. exec (f i) s))
  exec (loop n a b c) s = end_by out_break (turns (λ t. then (end_by out_continue (exec a t)) (λ u. then (exec b u) (again c))) fuel s)
  exec (break n) s = ended broke s
  exec (continue n) s = ended continued s
  exec (return n v) s = ended returned (give_back S ops s v)
  exec (unmarked n mark a) s = passing mode (exec a s) (ended next s)

-- Evaluated expressions are zero at first.
unfoldable pub keeps : Place → Bool
keeps [] = false
keeps (k ∷ q) = ltb k (variable 3)

unfoldable pub begin : State → State
begin s p = cond (keeps p) (s p) 0

-- A body that ends without returning a value gives zero.
unfoldable pub final : Outcome → Option State
final unended = nothing
final (ended next s) = some (put (slot result) zeroes s)
final (ended broke s) = some (put (slot result) zeroes s)
final (ended continued s) = some (put (slot result) zeroes s)
final (ended returned s) = some s

-- The run of a function from the values of globals, locals and arguments, if the fuel suffices.
unfoldable pub run : Scope → Report → Operators → Mode → ℕ → State → Option State
run S P ops mode fuel s = final (exec S ops mode fuel (body S P) (begin s))
