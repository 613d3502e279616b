-- A store into one slot.
use Rattle.std.specs.Prelude.{◌≡◌, List, ℕ, length, set}
use Rattle.part.specs.PartReq.{PartReq}
use Rattle.memory.specs.Memory.{read, Memory}

-- the memory is well formed, and the slot k means q
pub record Stored (s rs : List ℕ) (k : ℕ) (q : PartReq) (u us : List ℕ) : Type 0 where
  pub memory : Memory u us
  pub reads : read u us ≡ set (read s rs) k q
  pub long : length us ≡ length rs
