-- The blocks that a statement holds, by its kind and operands, in the order in which the first RayQuery is looked for: the last number first.
use Rattle.std.specs.Prelude.{List, [], ◌∷◌, ℕ, ◌+◌, ◌-◌, ◌*◌, ◌<◌, ◌≤◌, length, get_or}
use Rattle.std.specs.Prelude as std
use Rattle.std.specs.Prelude.{Some, None}
use Rattle.std.proofs.Math.Option.{Option, some, none as nothing}
use Rattle.module.specs.Module.{FunctionHandle, BlockHandle}
use Rattle.module.specs.Tables.{function_of, module_of}
use Rattle.walk.specs.Marks.{block_at}
use Rattle.access.specs.Laid.{WasRead}

-- how many there are
unfoldable pub held_count : (kind : ℕ) → (ℕ → ℕ) → ℕ
held_count kind o = get_or (0 ∷ 1 ∷ 2 ∷ o 1 ∷ 2 ∷ []) kind 0

-- the one of number j
unfoldable pub held_number : (kind : ℕ) → (ℕ → ℕ) → (j : ℕ) → BlockHandle
held_number kind o j = get_or (0 ∷ o 0 ∷ o (2 - j) ∷ o (3 + 2 * j) ∷ o (1 - j) ∷ []) kind 0

-- what is found
abbrev pub ray_in : std.Option ℕ → Option ℕ
ray_in (Some s) = some s
ray_in None = nothing

-- b is a block of the function f
pub record BlockOf (bytes t : List ℕ) (f : FunctionHandle) (b : BlockHandle) : Type 0 where
  pub was : WasRead bytes t
  pub function : f < length (module_of bytes t).functions
  pub block : b < length (function_of bytes t f).blocks

-- and s a statement in it
pub record StatementIn (bytes t : List ℕ) (f : FunctionHandle) (b : BlockHandle) (s : ℕ) : Type 0 where
  pub of_block : BlockOf bytes t f b
  pub low : (block_at (module_of bytes t) f b).first ≤ s
  pub high : s < (block_at (module_of bytes t) f b).first + (block_at (module_of bytes t) f b).count
