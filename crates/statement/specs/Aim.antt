-- A store's target as the code finds it: the variable and its part, and what is needed of that; or a refusal.
use Rattle.std.specs.Prelude.{◌≡◌, List, ℕ, ◌+◌, ◌<◌, ◌≤◌, length, Option, Result, Ok, Err}
use Rattle.field.specs.Limits.{max_depth, max_expressions}
use Rattle.field.specs.Refusal.{number}
use Rattle.part.specs.PartReq.{entries}
use Rattle.part.specs.Store.{top, part, Kept}
use Rattle.part.specs.Found.{Got}
use Rattle.module.specs.Module.{Module, ExpressionHandle}
use Rattle.module.specs.Tables.{module_of}
use Rattle.context.specs.RequiredContext.{RequiredContext}
use Rattle.context.specs.Contexts.{variable_of}
use Rattle.walk.specs.State.{State, went, halt}
use Rattle.walk.specs.Resolve.{function_at, store_required}
use Rattle.walk.specs.Statement.{target}
use Rattle.walk.specs.Statement as walk
use Rattle.memory.specs.Memory.{read, context_at}
use Rattle.state.specs.State.{place_of}
use Rattle.state.specs.Frame.{frame_of, Begun}
use Rattle.state.specs.declared.answer.Halt.{Halt}
use Rattle.state.specs.declared.frame.Frame.{Frame}
use Rattle.target.specs.Target.{HasTarget}
use Rattle.target.specs.declared.resolve.Target.{Target}
use Rattle.statement.specs.declared.aim.Aim.{Aim}

-- what the search of a target finds: the visit has begun, and the expression is there
pub record Aiming (bytes t s rs : List ℕ) (fr : Frame) (e : ExpressionHandle) : Type 0 where
  pub sum : ℕ
  pub begun : Begun bytes t s rs fr sum
  pub there : e < length (function_at (module_of bytes t) fr.function.0).expressions

-- the target x of e, of which `found` is needed, in the context c and the store u
pub record Aimed (m : Module) (fr : walk.Frame) (e : ExpressionHandle) (c : RequiredContext) (u : List ℕ) (x : Target) (found : Option ℕ) : Type 0 where
  pub has : HasTarget m fr.function u x
  pub needs : Got u (store_required c (variable_of x.var) (part u x.part)) found
  pub few : entries (part u x.part) ≤ max_depth
  pub is : (st : State) → st.context ≡ c
      → went st (record { var = variable_of x.var; part = part u x.part; needed = store_required c (variable_of x.var) (part u x.part) }) ≡ target m fr e st

abbrev pub AimIs : Module → walk.Frame → ExpressionHandle → RequiredContext → List ℕ → Result Aim Halt → Type 0
AimIs m fr e c u (Err h) = (st : State) → st.context ≡ c → halt (number h.refusal) (place_of h.place) ≡ target m fr e st
AimIs m fr e c u (Ok a) = Aimed m fr e c u a.target a.needed

-- from the store s, u was left, and r is the target
pub record Aims (bytes t s rs : List ℕ) (fr : Frame) (e : ExpressionHandle) (r : Result Aim Halt) (u : List ℕ) : Type 0 where
  pub kept : Kept s u
  pub cost : top u ≤ top s + max_expressions
  pub by : AimIs (module_of bytes t) (frame_of s rs fr) e (context_at (read s rs) fr.at) u r
