-- A context put into four slots, and two contexts at the top of the stack that become one.
use Rattle.std.specs.Prelude.{◌≡◌, Bool, List, ℕ, ◌+◌, ◌≤◌, length, get_or}
use Rattle.part.specs.Store.{top}
use Rattle.context.specs.RequiredContext.{RequiredContext, empty_context, merge_context, over_context, pieces}
use Rattle.context.specs.declared.required_context.RequiredContext.{RequiredContext as Pieces}
use Rattle.memory.specs.Layout.{stack_slot}
use Rattle.memory.specs.Memory.{read, context_at, with_context, Memory}

-- the memory is well formed, and the four slots from k on mean c
pub record Saved (s rs : List ℕ) (k : ℕ) (c : RequiredContext) (u us : List ℕ) : Type 0 where
  pub memory : Memory u us
  pub reads : read u us ≡ with_context (read s rs) k c
  pub long : length us ≡ length rs

-- the four slots from k on mean c, and the four behind them are cleared
pub record Popped (s rs : List ℕ) (k : ℕ) (c : RequiredContext) (u us : List ℕ) : Type 0 where
  pub memory : Memory u us
  pub reads : read u us ≡ with_context (with_context (read s rs) k c) (k + 4) empty_context
  pub long : length us ≡ length rs

-- the pieces of the context in the four slots from k on
pub record Loaded (rs : List ℕ) (k : ℕ) (c : Pieces) : Type 0 where
  pub globals : c.globals ≡ get_or rs k 0
  pub locals : c.locals ≡ get_or rs (k + 1) 0
  pub args : c.args ≡ get_or rs (k + 2) 0
  pub retval : c.retval ≡ get_or rs (k + 3) 0

-- whatever the store: the upper of two contexts is in the place of the lower one, and is cleared
pub record Lowered (rs : List ℕ) (k : ℕ) (us : List ℕ) : Type 0 where
  pub is : (s : List ℕ) → Memory s rs → stack_slot ≤ k → Popped s rs k (context_at (read s rs) (k + 4)) s us

-- the upper one is cleared
pub record Dropped (rs : List ℕ) (k : ℕ) (us : List ℕ) : Type 0 where
  pub is : (s : List ℕ) → Memory s rs → stack_slot ≤ k → Popped s rs k (context_at (read s rs) k) s us

-- both are joined; whether a limit is passed
pub record Joined (s rs : List ℕ) (k : ℕ) (r : Bool) (u us : List ℕ) : Type 0 where
  pub popped : Popped s rs k (merge_context (context_at (read s rs) k) (context_at (read s rs) (k + 4))) u us
  pub over : r ≡ over_context (merge_context (context_at (read s rs) k) (context_at (read s rs) (k + 4)))
  pub spent : top u ≤ top s + (pieces (context_at (read s rs) k) + pieces (context_at (read s rs) (k + 4)))
