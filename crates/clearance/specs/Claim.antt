-- Demand 3: what a cleared report says of two whole runs.
use Rattle.std.specs.Prelude.{ℕ, ◌≡◌, Bool, true, false, ◌&&◌, List, [], ◌∷◌, ◌++◌}
use Rattle.std.proofs.Math.Option.{some}
use Rattle.part.specs.PartReq.{PartReq, all, exist, none, more, get_subpart}
use Rattle.module.specs.Module.{ExpressionHandle}
use Rattle.clearance.specs.Shape.{leaf, cov, or_none}
use Rattle.clearance.specs.Scope.{Scope, Slot, global, local, argument, result, evaluated, variable, Place, slot, frame, Operand, whole, same, operator, arm}
use Rattle.clearance.specs.Verdict.{Request, Report, clear, clearance}
use Rattle.clearance.specs.Run.{Value, State, Operators, put, Mode, run}

-- Lists of operands' values that are the same, of each operand as the operator uses it: all of it, or what lies at or below q.
pub data SameOperands (q : List ℕ) : List Operand → List Value → List Value → Type 0 where
  no_operands : SameOperands q [] [] []
  same_whole : {x : ExpressionHandle} {xs : List Operand} {vs ws : List Value} (v : Value) →
      SameOperands q xs vs ws → SameOperands q (whole x ∷ xs) (v ∷ vs) (v ∷ ws)
  same_part : {x : ExpressionHandle} {xs : List Operand} {vs ws : List Value} (v w : Value) → ((r : List ℕ) → v (q ++ r) ≡ w (q ++ r)) →
      SameOperands q xs vs ws → SameOperands q (same x ∷ xs) (v ∷ vs) (w ∷ ws)

-- 01: by component where the rules say "same part": every part of the result, at any depth, follows from the same part of those
-- operands alone.
pub record ByComponent (S : Scope) (ops : Operators) : Type 0 where
  pub parts : (e : ExpressionHandle) (xs : List Operand) → arm S e ≡ operator xs → (q : List ℕ) (vs ws : List Value) →
      SameOperands q xs vs ws → (r : List ℕ) → ops e vs (q ++ r) ≡ ops e ws (q ++ r)

-- the input context, by place
unfoldable pub context : Report → PartReq
context P = more (variable 0) P.globals (more (variable 2) P.args none)

-- the entry at an index, and what stands at a path: all and exist have no entries
unfoldable pub entry_at : PartReq → ℕ → PartReq
entry_at all j = none
entry_at exist j = none
entry_at none j = none
entry_at (more i p r) j = or_none (get_subpart (more i p r) j)

unfoldable pub entries_at : PartReq → List ℕ → PartReq
entries_at p [] = p
entries_at p (j ∷ q) = entries_at (entry_at p j) q

-- no all anywhere
unfoldable pub bare : PartReq → Bool
bare all = false
bare exist = true
bare none = true
bare (more i p r) = bare p && bare r

abbrev pub is_input : Slot → Bool
is_input (global g) = true
is_input (local l) = false
is_input (argument a) = true
is_input result = false
is_input (evaluated e) = false

-- An input part is unneeded if the context has no all at, above or below it.
pub record Unneeded (P : Report) (x : Slot) (q : List ℕ) : Type 0 where
  pub input : is_input x ≡ true
  pub above : cov (context P) (slot x ++ q) ≡ false
  pub beneath : bare (entries_at (context P) (slot x ++ q)) ≡ true

-- b comes from a by any list of changes to unneeded input parts.
pub data Changed (P : Report) : State → State → Type 0 where
  unchanged : {a : State} → Changed P a a
  changed : {a b : State} (x : Slot) (q : List ℕ) (v : Value) → Unneeded P x q → Changed P a b → Changed P a (put (slot x ++ q) v b)

-- what is asked, by place
unfoldable pub asked : Request → PartReq
asked R = more (variable 0) R.globals (more (variable 3) R.value none)

-- A required output: a number of the returned value or of a global for which the request asks all.
pub record Required (S : Scope) (R : Request) (p : Place) : Type 0 where
  pub exists : leaf (frame S) p ≡ true
  pub wanted : cov (asked R) p ≡ true

-- Of a report that is cleared: any two runs that end, each of all statements or of the needed ones alone, from starts that differ
-- in unneeded input parts only, give the same required outputs.
pub record Demand3 : Type 0 where
  pub holds : (S : Scope) (R : Request) (P : Report) → clearance S R P ≡ clear →
      (ops : Operators) → ByComponent S ops →
      (a b : State) → Changed P a b →
      (one other : Mode) (m n : ℕ) (s t : State) → run S P ops one m a ≡ some s → run S P ops other n b ≡ some t →
      (p : Place) → Required S R p → s p ≡ t p
