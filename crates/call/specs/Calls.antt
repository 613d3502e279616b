-- The end of a call, once the called function was walked: what it needs of its arguments is asked of them in turn, and then the result is asked.
use Rattle.std.specs.Prelude.{◌≡◌, Bool, true, false, List, ℕ, ◌+◌, ◌<◌, get_or, Result, Ok, Err}
use Rattle.field.specs.Refusal.{number}
use Rattle.part.specs.PartReq.{PartReq, Subpart, gone, there, get_subpart}
use Rattle.part.specs.Store.{part}
use Rattle.module.specs.Module.{FunctionHandle, ExpressionHandle}
use Rattle.module.specs.Decode.{tab, option_of}
use Rattle.module.specs.Tables.{module_of, row_at}
use Rattle.access.specs.Access.{operand_at, statement_row}
use Rattle.access.specs.declared.kinded.Kinded.{Kinded}
use Rattle.context.specs.RequiredContext.{RequiredContext, variable}
use Rattle.walk.specs.State.{Out, went, halt, ◌>>◌, total_pieces}
use Rattle.walk.specs.Resolve.{is_there}
use Rattle.walk.specs.StatementReq.{StatementReq}
use Rattle.walk.specs.Statement.{ask_needed, ask_arguments, end_call}
use Rattle.walk.specs.Statement as walk
use Rattle.walk.specs.Proper.{Variables}
use Rattle.memory.specs.Layout.{result, returned}
use Rattle.memory.specs.Memory.{read}
use Rattle.state.specs.State.{Rest, state_of, totals_sum, place_of}
use Rattle.state.specs.Ready.{Ready}
use Rattle.state.specs.Frame.{Apart, ArmEnds}
use Rattle.state.specs.declared.frame.Frame.{Frame}
use Rattle.state.specs.declared.answer.Halt.{Halt}
use Rattle.state.specs.declared.answer.Tally.{Tally}
use Rattle.state.specs.declared.answer.Answer.{Answer}

-- the frame that the code's stands for, with the base c, at which no ask looks
abbrev pub frame_over : Frame → RequiredContext → walk.Frame
frame_over fr c =
    record { function = fr.function.0; statement = fr.statement; held = fr.held; base = c; break_required = fr.break_required }

-- the first n arguments of the call in a row
abbrev pub arguments_of : List ℕ → Kinded → (n : ℕ) → List ExpressionHandle
arguments_of bytes row n = tab n (λ i. operand_at bytes row (2 + i))

-- what the result is asked for, if anything is
abbrev pub requested : (s rs : List ℕ) → Bool → Subpart
requested s rs true = there (part s (get_or rs result 0))
requested s rs false = gone

-- a map of what is needed of a number of arguments
pub record Needed (q : PartReq) : Type 0 where
  pub count : ℕ
  pub are : Variables count q

-- what the end of a call finds: its function is open, the row is the call's, and the slot RETURNED has such a map
pub record Calling (bytes t s rs : List ℕ) (fr : Frame) (row : Kinded) (sum : ℕ) : Type 0 where
  pub ready : Ready bytes t s rs fr.function.0 fr.at fr.held sum
  pub statement : fr.statement < (row_at t fr.function.0).statements
  pub is : row ≡ statement_row bytes t fr.function.0 fr.statement
  pub kind : row.kind ≡ 14
  pub args : Needed (part s (get_or rs returned 0))

-- where the walk so far went, the function is open, and that slot is as said
abbrev pub PassableAs : (bytes t s rs : List ℕ) → Frame → Result Tally Halt → Type 0
PassableAs bytes t s rs fr (Ok tally) =
    Ready bytes t s rs fr.function.0 fr.at fr.held tally.sum × Needed (part s (get_or rs returned 0))
PassableAs bytes t s rs fr (Err h) = Unit {0}

pub record Passable (bytes t s rs : List ℕ) (fr : Frame) (r : Result Tally Halt) : Type 0 where
  pub by : PassableAs bytes t s rs fr r

-- what no ask of an argument changes: what stands apart, and the slots RESULT and RETURNED
pub record Beside (t : List ℕ) (f : FunctionHandle) (at : ℕ) (s rs u us : List ℕ) : Type 0 where
  pub apart : Apart t f at s rs u us
  pub result_same : part u (get_or us result 0) ≡ part s (get_or rs result 0)
  pub returned_same : part u (get_or us returned 0) ≡ part s (get_or rs returned 0)

-- the asks so far went as `total` says, from s rs to u us
pub record Passed (bytes t s rs : List ℕ) (fr : Frame) (rest : Rest) (total : Out (Unit {0})) (visits sum : ℕ) (u us : List ℕ) : Type 0 where
  pub is : went (state_of t fr.function.0 fr.at (read u us) rest visits) tt ≡ total
  pub ready : Ready bytes t u us fr.function.0 fr.at fr.held sum
  pub beside : Beside t fr.function.0 fr.at s rs u us

abbrev pub Passing : (bytes t s rs : List ℕ) → Frame → Rest → Out (Unit {0}) → Result Tally Halt → (u us : List ℕ) → Type 0
Passing bytes t s rs fr rest total (Ok tally) u us = Passed bytes t s rs fr rest total tally.visits tally.sum u us
Passing bytes t s rs fr rest total (Err h) u us = halt (number h.refusal) (place_of h.place) ≡ total

pub record Passes (bytes t s rs : List ℕ) (fr : Frame) (rest : Rest) (total : Out (Unit {0})) (r : Result Tally Halt) (u us : List ℕ) : Type 0 where
  pub by : Passing bytes t s rs fr rest total r u us

-- After `before`, which left s rs, comes the argument i, which is the expression e: the asks that began in any z zs go on with that.
pub record Argued (bytes t s rs : List ℕ) (fr : Frame) (before : Result Tally Halt) (e i : ℕ) (r : Result Tally Halt) (u us : List ℕ) : Type 0 where
  pub opens : Passable bytes t u us fr r
  pub by : (c : RequiredContext) (z zs : List ℕ) (rest : Rest) (total : Out (Unit {0})) → total_pieces rest.functions ≡ totals_sum (read z zs)
      → Passes bytes t z zs fr rest total before s rs
      → Passes bytes t z zs fr rest (total >> ask_needed (module_of bytes t) (frame_over fr c) e (get_subpart (part z (get_or zs returned 0)) (variable i))) r u us

-- the first k arguments were asked
pub record AskedArguments (bytes t s rs : List ℕ) (fr : Frame) (row : Kinded) (visits k : ℕ) (r : Result Tally Halt) (u us : List ℕ) : Type 0 where
  pub opens : Passable bytes t u us fr r
  pub by : (c : RequiredContext) (rest : Rest) → total_pieces rest.functions ≡ totals_sum (read s rs)
      → Passes bytes t s rs fr rest
      (ask_arguments (module_of bytes t) (frame_over fr c) (arguments_of bytes row k) 0 (part s (get_or rs returned 0)) (state_of t fr.function.0 fr.at (read s rs) rest visits))
      r u us

-- the call has ended as the definition says, where `req` is whether the result is asked for, and the called function is required
pub record EndsCall (bytes t s rs : List ℕ) (fr : Frame) (row : Kinded) (req : Bool) (visits : ℕ) (r : Result Answer Halt) (u us : List ℕ) : Type 0 where
  pub by : (c : RequiredContext) (rest : Rest) → total_pieces rest.functions ≡ totals_sum (read s rs)
      → ArmEnds bytes t s rs fr rest
      (end_call (module_of bytes t) (frame_over fr c) (arguments_of bytes row (operand_at bytes row 1)) (option_of (operand_at bytes row (2 + operand_at bytes row 1)))
      (requested s rs req) (part s (get_or rs returned 0)) true (state_of t fr.function.0 fr.at (read s rs) rest visits))
      (λ b. StatementReq.Call b (is_there (requested s rs req))) r u us
