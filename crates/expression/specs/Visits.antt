-- What the parts of a visit ask of the memory, and what they leave.
use Rattle.std.specs.Prelude.{◌≡◌, Bool, true, false, List, ℕ, ◌+◌, ◌*◌, ◌<◌, ◌≤◌, length, get_or}
use Rattle.field.specs.Limits.{max_pieces, max_depth}
use Rattle.part.specs.PartReq.{PartReq, over}
use Rattle.part.specs.Store.{top, Room}
use Rattle.part.specs.StoreLimits.{entries_cap}
use Rattle.module.specs.Tables.{row_at}
use Rattle.context.specs.RequiredContext.{pieces}
use Rattle.memory.specs.Layout.{stack_slot, room}
use Rattle.memory.specs.Memory.{read, counted, context_at, Memory, Tidied, join_room, Joining}
use Rattle.memory.specs.Want.{Wants}
use Rattle.memory.specs.declared.want.Want.{Want}
use Rattle.state.specs.Ready.{Ready}
use Rattle.state.specs.Stored.{Stored}

-- what 16 counts can be counted, and is no less than what the slots have
pub record Counting (s rs : List ℕ) (at held sum : ℕ) : Type 0 where
  pub memory : Memory s rs
  pub high : at + 4 ≤ length rs
  pub owned : counted (read s rs) ≤ held + (pieces (context_at (read s rs) at) + sum)
  pub few : pieces (context_at (read s rs) at) ≤ entries_cap
  pub small : held + sum ≤ 2 * entries_cap

-- 16 allows it, and there is room for a visit; or it does not
abbrev pub Allowing : (s rs : List ℕ) (at held sum : ℕ) → Bool → (u us : List ℕ) → Type 0
Allowing s rs at held sum true u us = (held + (pieces (context_at (read s rs) at) + sum) ≤ max_pieces) × Tidied s rs u us
Allowing s rs at held sum false u us = max_pieces < held + (pieces (context_at (read s rs) at) + sum)

pub record Allowed (s rs : List ℕ) (at held sum : ℕ) (r : Bool) (u us : List ℕ) : Type 0 where
  pub by : Allowing s rs at held sum r u us

-- the arm of e has asked all, and its record can be made
pub record Closing (t : List ℕ) (f e : ℕ) (at held : ℕ) (s rs : List ℕ) (w : Want) (sum : ℕ) : Type 0 where
  pub bytes : List ℕ
  pub ready : Ready bytes t s rs f at held sum
  pub there : e < (row_at t f).expressions
  pub wants : Wants s rs w
  pub roomy : Room s (max_depth + 1)

-- the arm of e comes to a variable
pub record Visiting (t : List ℕ) (f e : ℕ) (at held : ℕ) (s rs : List ℕ) (w : Want) (sum : ℕ) : Type 0 where
  pub bytes : List ℕ
  pub ready : Ready bytes t s rs f at held sum
  pub there : e < (row_at t f).expressions
  pub wants : Wants s rs w
  pub few : held + (pieces (context_at (read s rs) at) + sum) ≤ max_pieces
  pub roomy : Room s room

-- what w asks can be joined to the entry i of the map in the slot k, one of a context
pub record Mapping (s rs : List ℕ) (k i : ℕ) (w : Want) : Type 0 where
  pub low : stack_slot ≤ k
  pub high : k < length rs
  pub joining : Joining s rs (get_or rs k 0) i w

-- the map is q then, which passes no limit
pub record Mapped (s rs : List ℕ) (k : ℕ) (q : PartReq) (u us : List ℕ) : Type 0 where
  pub fine : over q ≡ false
  pub stored : Stored s rs k q u us
  pub spent : top u ≤ top s + join_room
  pub long : length u ≡ length s

abbrev pub Meeting : (s rs : List ℕ) (k : ℕ) (q : PartReq) → Bool → (u us : List ℕ) → Type 0
Meeting s rs k q true u us = over q ≡ true
Meeting s rs k q false u us = Mapped s rs k q u us

-- q passes a limit, or it was put into the slot k
pub record Meets (s rs : List ℕ) (k : ℕ) (q : PartReq) (r : Bool) (u us : List ℕ) : Type 0 where
  pub by : Meeting s rs k q r u us
