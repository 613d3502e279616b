-- The clearance's answer: cleared, the lowest statement that breaks a rule, the start, not judged, or a refusal.
use Rattle.std.specs.Prelude.{ℕ, ◌-◌, Bool, true, false, cond, not, ◌&&◌, ◌||◌, List, [], ◌∷◌, ltb, eqb, length}
use Rattle.std.proofs.Math.Option.{Option, some, none as nothing}
use Rattle.field.specs.Limits.{max_pieces}
use Rattle.part.specs.PartReq.{PartReq, all, exist, none, more, contains, entries, width, over}
use Rattle.module.specs.Module.{Function}
use Rattle.clearance.specs.Shape.{below, under, trim}
use Rattle.clearance.specs.Scope.{Scope, frame, variable}
use Rattle.module.specs.Marks.{marks_before}
use Rattle.clearance.specs.Tree.{Tree, body_tree}
use Rattle.clearance.specs.Needs.{Exit, Setting, walk, broken, missing, somewhere, Table, reentry, smallest}
use Rattle.clearance.specs.Judged.{every, lowest, blamed_expression, blamed_statement}

-- What is asked: parts of globals, each under the index `variable` of its number, and a part of the returned value.
pub record Request : Type 0 where
  pub globals : PartReq
  pub value : PartReq

-- What is judged, from anyone: the asked function's marks, and of the input context its globals and arguments.
pub record Report : Type 0 where
  pub marks : List ℕ
  pub globals : PartReq
  pub args : PartReq

pub data Answer : Type 0 where
  clear : Answer
  at_statement : ℕ → Answer
  at_start : Answer
  unjudged_expression : ℕ → Answer
  unjudged_statement : ℕ → Answer
  refused : ℕ → Answer

-- at the end stand the asked globals
unfoldable pub ending : Scope → Request → Exit → PartReq
ending S R x = trim (under (variable 0 ∷ []) R.globals) (frame S)

abbrev pub setting : Scope → Request → Setting
setting S R = record { scope = S; asked = R.value }

abbrev pub body : Scope → Report → Tree
body S P = body_tree S.function P.marks

-- the needs at the start, with t the loops' re-entry needs
unfoldable pub start_needs : Scope → Request → Report → Table → PartReq
start_needs S R P t = walk (setting S R) (reentry t) (body S P) (ending S R)

-- the statements that break a rule
unfoldable pub faults : Scope → Request → Report → Table → List ℕ
faults S R P t = broken (setting S R) (reentry t) (body S P) (ending S R)

-- the positions of the marks whose lack breaks a rule
unfoldable pub missing_marks : Scope → Request → Report → Table → List ℕ
missing_marks S R P t = missing (setting S R) (reentry t) (body S P) (ending S R)

-- whether an evaluated expression is needed
unfoldable pub needs_expression : PartReq → Bool
needs_expression all = true
needs_expression exist = false
needs_expression none = false
needs_expression (more i p r) = ltb (variable 3) i || needs_expression r

-- no evaluated expression still needed at the start, argument and global needs contained in the context
unfoldable pub starts : Report → PartReq → Bool
starts P n =
    not (needs_expression n)
    && (contains P.globals (below n (variable 0 ∷ [])) && contains P.args (below n (variable 2 ∷ [])))

unfoldable pub verdict : Option ℕ → Bool → Answer
verdict (some n) s = at_statement n
verdict nothing true = clear
verdict nothing false = at_start

-- what 16 counts: one for each variable, argument or expression that has a need, and its entries
unfoldable pub pieces : PartReq → ℕ
pieces n = entries n - width n

-- whether a test holds of the needs at some point
unfoldable pub at_point : Scope → Request → Report → Table → (PartReq → Bool) → Bool
at_point S R P t test = somewhere (setting S R) (reentry t) test (body S P) (ending S R)

-- 15, then 16, where needs at any point pass them
unfoldable pub limited : Scope → Request → Report → Table → Answer → Answer
limited S R P t a = cond (at_point S R P t over) (refused 15) (cond (at_point S R P t (λ n. ltb max_pieces (pieces n))) (refused 16) a)

unfoldable pub answer_by : Scope → Request → Report → Option Table → Answer
answer_by S R P nothing = refused 16
answer_by S R P (some t) = limited S R P t (verdict (lowest (faults S R P t)) (starts P (start_needs S R P t)))

-- what is answered where no expression, and no statement, is to blame
unfoldable pub judge : Scope → Request → Report → Option ℕ → Option ℕ → Answer
judge S R P (some e) s = unjudged_expression e
judge S R P nothing (some n) = unjudged_statement n
judge S R P nothing nothing = answer_by S R P (smallest (setting S R) (body S P) (ending S R))

-- marks of the function's shape: as many as its statements have, each 0 or 1
unfoldable pub has_shape : Function → List ℕ → Bool
has_shape f marks = eqb (length marks) (marks_before f.statements (length f.statements)) && every (λ b. ltb b 2) marks

-- The clearance.
unfoldable pub clearance : Scope → Request → Report → Answer
clearance S R P =
    elim (has_shape S.function P.marks) [
      | true ↦ judge S R P (blamed_expression S) (blamed_statement S (body S P))
      | false ↦ refused 21
    ]
