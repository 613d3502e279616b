-- A store into its target, up to what it asks: the context without the target, and what is needed of that in the slot that is asked with.
use Rattle.std.specs.Prelude.{◌≡◌, Bool, true, false, List, ℕ, ◌+◌, ◌*◌, ◌<◌, ◌≤◌, get_or, Result, Ok, Err}
use Rattle.field.specs.Limits.{max_depth, max_pieces}
use Rattle.field.specs.Refusal.{number}
use Rattle.part.specs.PartReq.{PartReq, exist, entries, over}
use Rattle.part.specs.Store.{top, part, Room}
use Rattle.module.specs.Module.{ExpressionHandle}
use Rattle.module.specs.Tables.{module_of}
use Rattle.context.specs.Types.{split_most}
use Rattle.context.specs.RequiredContext.{pieces, remove_var}
use Rattle.context.specs.Contexts.{variable_of}
use Rattle.walk.specs.State.{State, went, halt, Walk, ◌>>◌}
use Rattle.walk.specs.Resolve.{function_at}
use Rattle.walk.specs.Statement.{ask, taken_out, store}
use Rattle.memory.specs.Layout as layout
use Rattle.memory.specs.Memory.{read, context_at}
use Rattle.state.specs.State.{Rest, state_of, totals_sum, place_of}
use Rattle.state.specs.Ready.{Ready}
use Rattle.state.specs.Frame.{frame_of, Apart}
use Rattle.state.specs.declared.answer.Halt.{Halt}
use Rattle.state.specs.declared.frame.Frame.{Frame}
use Rattle.target.specs.Target.{HasTarget}
use Rattle.target.specs.declared.resolve.Target.{Target}

-- the target x, of which the piece n is needed, can be taken out of the context
pub record Taking (bytes t s rs : List ℕ) (fr : Frame) (x : Target) (n : ℕ) : Type 0 where
  pub sum : ℕ
  pub ready : Ready bytes t s rs fr.function.0 fr.at fr.held sum
  pub has : HasTarget (module_of bytes t) fr.function.0 s x
  pub short : entries (part s x.part) ≤ max_depth
  pub piece : n < top s
  pub fine : over (part s n) ≡ false
  pub small : entries (part s n) ≤ max_pieces
  pub few : fr.held + (pieces (context_at (read s rs) fr.at) + sum) ≤ max_pieces
  pub roomy : Room s (max_pieces + 2 * split_most * (1 + max_depth))

-- what is left: the function is open, what stands apart is as it was, and the slot that is asked with means p
pub record Left (bytes t s rs : List ℕ) (fr : Frame) (p : PartReq) (sum : ℕ) (u us : List ℕ) : Type 0 where
  pub ready : Ready bytes t u us fr.function.0 fr.at fr.held sum
  pub apart : Apart t fr.function.0 fr.at s rs u us
  pub totals : totals_sum (read u us) ≡ totals_sum (read s rs)
  pub asks : part u (get_or us layout.ask 0) ≡ p

-- the target x was taken out, or that is refused
pub record Taken (bytes t s rs : List ℕ) (fr : Frame) (x : Target) (n : ℕ) (u us : List ℕ) : Type 0 where
  pub left : (sum : ℕ) → Ready bytes t s rs fr.function.0 fr.at fr.held sum → Left bytes t s rs fr (part s n) sum u us
  pub is : (rest : Rest) (v : ℕ)
      → went (state_of t fr.function.0 fr.at (read u us) rest v) tt
      ≡ taken_out (frame_of s rs fr)
      (remove_var (module_of bytes t) (function_at (module_of bytes t) fr.function.0) (context_at (read s rs) fr.at) (variable_of x.var) (part s x.part))
      (state_of t fr.function.0 fr.at (read s rs) rest v)

abbrev pub TakeIs : (bytes t s rs : List ℕ) → Frame → Target → ℕ → Result (Unit {0}) Halt → (u us : List ℕ) → Type 0
TakeIs bytes t s rs fr x n (Err h) u us =
    (st : State)
    → halt (number h.refusal) (place_of h.place)
    ≡ taken_out (frame_of s rs fr)
    (remove_var (module_of bytes t) (function_at (module_of bytes t) fr.function.0) (context_at (read s rs) fr.at) (variable_of x.var) (part s x.part)) st
TakeIs bytes t s rs fr x n (Ok done) u us = Taken bytes t s rs fr x n u us

pub record Takes (bytes t s rs : List ℕ) (fr : Frame) (x : Target) (n : ℕ) (r : Result (Unit {0}) Halt) (u us : List ℕ) : Type 0 where
  pub by : TakeIs bytes t s rs fr x n r u us

-- the store into what e names, from s rs on: it is refused, nothing is needed, or what it asks is left to do
abbrev pub StoreIs : (bytes t s rs : List ℕ) → Frame → ExpressionHandle → Result Bool Halt → (u us : List ℕ) → Type 0
StoreIs bytes t s rs fr e (Err h) u us =
    (accessors : Walk (Unit {0})) (value : ExpressionHandle) (rest : Rest) (v : ℕ)
    → halt (number h.refusal) (place_of h.place) ≡ store (module_of bytes t) (frame_of s rs fr) e accessors value (state_of t fr.function.0 fr.at (read s rs) rest v)
StoreIs bytes t s rs fr e (Ok false) u us =
    ((sum : ℕ) → Ready bytes t s rs fr.function.0 fr.at fr.held sum → Ready bytes t u us fr.function.0 fr.at fr.held sum × Apart t fr.function.0 fr.at s rs u us)
    × ((accessors : Walk (Unit {0})) (value : ExpressionHandle) (rest : Rest) (v : ℕ)
    → went (state_of t fr.function.0 fr.at (read u us) rest v) false
    ≡ store (module_of bytes t) (frame_of s rs fr) e accessors value (state_of t fr.function.0 fr.at (read s rs) rest v))
StoreIs bytes t s rs fr e (Ok true) u us =
    ((sum : ℕ) → Ready bytes t s rs fr.function.0 fr.at fr.held sum → Left bytes t s rs fr (part u (get_or us layout.ask 0)) sum u us)
    × ((accessors : Walk (Unit {0})) (value : ExpressionHandle) (rest : Rest) (v : ℕ)
    → (ask (module_of bytes t) (frame_of s rs fr) e exist (state_of t fr.function.0 fr.at (read u us) rest v) >> accessors
    >> ask (module_of bytes t) (frame_of s rs fr) value (part u (get_or us layout.ask 0)) >> λ left. went left true)
    ≡ store (module_of bytes t) (frame_of s rs fr) e accessors value (state_of t fr.function.0 fr.at (read s rs) rest v))

pub record Stores (bytes t s rs : List ℕ) (fr : Frame) (e : ExpressionHandle) (r : Result Bool Halt) (u us : List ℕ) : Type 0 where
  pub by : StoreIs bytes t s rs fr e r u us
