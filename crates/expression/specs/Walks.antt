-- What a walk of an expression says of the definition's.
use Rattle.std.specs.Prelude.{◌≡◌, List, ℕ, ◌+◌, ◌≤◌, length, drop, Result}
use Rattle.field.specs.Limits.{max_pieces}
use Rattle.part.specs.PartReq.{PartReq, get_subpart}
use Rattle.part.specs.Store.{Room}
use Rattle.module.specs.Module.{Module, FunctionHandle, ExpressionHandle, GlobalHandle, LocalHandle}
use Rattle.module.specs.Tables.{module_of}
use Rattle.context.specs.RequiredContext.{pieces, variable}
use Rattle.walk.specs.State.{Walk, at_expression, ◌>>◌, total_pieces, counted}
use Rattle.walk.specs.Resolve.{expression_at}
use Rattle.walk.specs.Expression.{arm_asks, ask_argument, ask_global, ask_local, add_asks, recorded, add_expression}
use Rattle.memory.specs.Layout.{room}
use Rattle.memory.specs.Memory.{read, context_at}
use Rattle.memory.specs.Want.{asked, Still}
use Rattle.memory.specs.declared.want.Want.{Want}
use Rattle.state.specs.State.{Rest, state_of, totals_sum}
use Rattle.state.specs.Ready.{Ready, Ends}
use Rattle.state.specs.declared.answer.Halt.{Halt}
use Rattle.state.specs.declared.answer.Tally.{Tally}

-- From the memory s rs, the answer and the memory that is left are what `walk` says, whatever no walk of an expression looks at.
pub record Walks (bytes t : List ℕ) (f : FunctionHandle) (at held : ℕ) (s rs : List ℕ) (walk : Walk (Unit {0})) (visits : ℕ) (r : Result Tally Halt) (u us : List ℕ) : Type 0 where
  pub by : (rest : Rest) → total_pieces rest.functions ≡ totals_sum (read s rs)
      → Ends bytes t f at held s rs rest (walk (state_of t f at (read s rs) rest visits)) r u us

-- how a visit of e ends, after what its arm asks: the record, and 16
abbrev pub closing : FunctionHandle → (held : ℕ) → ExpressionHandle → PartReq → Walk (Unit {0})
closing f held e p ended = counted held (at_expression f e) (recorded e p ended)

-- how it ends where a variable is asked p
abbrev pub ending_argument : FunctionHandle → (held : ℕ) → ExpressionHandle → (i : ℕ) → PartReq → Walk (Unit {0})
ending_argument f held e i p st = ask_argument (at_expression f e) i p st >> closing f held e p

abbrev pub ending_local : FunctionHandle → (held : ℕ) → ExpressionHandle → LocalHandle → PartReq → Walk (Unit {0})
ending_local f held e l p st = ask_local (at_expression f e) l p st >> closing f held e p

abbrev pub ending_global : FunctionHandle → (held : ℕ) → ExpressionHandle → GlobalHandle → PartReq → Walk (Unit {0})
ending_global f held e g p st = ask_global (at_expression f e) g p (get_subpart st.globals (variable g)) st >> closing f held e p

-- the same by the map of the context that has the variable: locals are at 1, arguments at 2
pub record EntryWalks (bytes t : List ℕ) (f : FunctionHandle) (at held : ℕ) (s rs : List ℕ) (map : ℕ) (e : ExpressionHandle) (i : ℕ) (p : PartReq) (visits : ℕ) (r : Result Tally Halt) (u us : List ℕ) : Type 0 where
  pub argument : map ≡ 2 → Walks bytes t f at held s rs (ending_argument f held e i p) visits r u us
  pub local : map ≡ 1 → Walks bytes t f at held s rs (ending_local f held e i p) visits r u us

-- a visit of e from the j-th ask on
abbrev pub asks_from : Module → FunctionHandle → (held : ℕ) → ExpressionHandle → PartReq → ℕ → Walk (Unit {0})
asks_from m f held e p j st =
    add_asks (add_expression m f held) (at_expression f e) (drop j (arm_asks (expression_at m f e) p)) st >> closing f held e p

-- A visit of e, whose asks begin in s rs, has come to the j-th, in u us; and what is left of them gives the whole.
pub record Left (bytes t : List ℕ) (f e : ℕ) (at held : ℕ) (s rs : List ℕ) (w : Want) (begun j visits sum : ℕ) (u us : List ℕ) : Type 0 where
  pub ready : Ready bytes t u us f at held sum
  pub few : held + (pieces (context_at (read u us) at) + sum) ≤ max_pieces
  pub roomy : Room u room
  pub still : Still s rs u us
  pub cells : length u ≡ length s
  pub slots : length us ≡ length rs
  pub inside : j ≤ length (arm_asks (expression_at (module_of bytes t) f e) (asked s rs w))
  pub rest : (r : Result Tally Halt) (z zs : List ℕ) → Walks bytes t f at held u us (asks_from (module_of bytes t) f held e (asked s rs w) j) visits r z zs
      → Walks bytes t f at held s rs (asks_from (module_of bytes t) f held e (asked s rs w) 0) begun r z zs
