-- A context put aside as one piece, with an entry for each of its maps, and taken back.
use Rattle.std.specs.Prelude.{ℕ, ◌+◌, ◌≤◌, ◌≡◌, false, List, length}
use Rattle.field.specs.Limits.{max_pieces}
use Rattle.part.specs.PartReq.{PartReq, none, more, get_subpart}
use Rattle.part.specs.Store.{top, Room}
use Rattle.part.specs.Subparts.{or_none}
use Rattle.context.specs.RequiredContext.{RequiredContext, variable, over_context, pieces}
use Rattle.memory.specs.Layout.{result}
use Rattle.memory.specs.Memory.{read, context_at, Memory}
use Rattle.state.specs.Stored.{Stored}

unfoldable pub aside : RequiredContext → PartReq
aside c = more (variable 0) c.globals (more (variable 1) c.locals (more (variable 2) c.args (more (variable 3) c.retval none)))

unfoldable pub from_aside : PartReq → RequiredContext
from_aside p =
    record {
      globals = or_none (get_subpart p (variable 0));
      locals = or_none (get_subpart p (variable 1));
      args = or_none (get_subpart p (variable 2));
      retval = or_none (get_subpart p (variable 3));
    }

-- what putting the context at k aside asks of the memory, and what it leaves
pub record Asiding (s rs : List ℕ) (k : ℕ) : Type 0 where
  pub memory : Memory s rs
  pub high : k + 4 ≤ length rs
  pub few : pieces (context_at (read s rs) k) ≤ max_pieces
  pub within : over_context (context_at (read s rs) k) ≡ false
  pub roomy : Room s 4

pub record Aside (s rs : List ℕ) (k : ℕ) (u us : List ℕ) : Type 0 where
  pub stored : Stored s rs result (aside (context_at (read s rs) k)) u us
  pub spent : top u ≤ top s + 4
