-- A function's blocks, their statements and a switch's cases: where they are, and what strays in each. The trees have no marks, which
-- play no part.
use Rattle.std.specs.Prelude.{ℕ, ◌+◌, ◌*◌, ◌<◌, ◌≤◌, Bool, List, [], length, get_or}
use Rattle.module.specs.Module.{FunctionHandle, BlockHandle, Function, Kill}
use Rattle.module.specs.Knot.{knot, below}
use Rattle.module.specs.Tables.{function_of}
use Rattle.access.specs.declared.kinded.Kinded.{Kinded}
use Rattle.access.specs.Access.{operand_at, range_at}
use Rattle.valid.specs.There.{There}
use Rattle.clearance.specs.Tree.{Tree, nop, statement, block_tree}
use Rattle.clearance.specs.Needs.{Exit, concat}
use Rattle.clearance.specs.Judged.{strays}

abbrev pub tree_of : Function → BlockHandle → Tree
tree_of f b = knot (block_tree f []) nop b

abbrev pub stray_block : Function → BlockHandle → (Exit → Bool) → List ℕ
stray_block f b e = strays (tree_of f b) e

-- the statement s of the block b, which holds lower blocks
abbrev pub stray_statement : Function → BlockHandle → ℕ → (Exit → Bool) → List ℕ
stray_statement f b s e = strays (statement f [] (below (tree_of f) nop b) s (get_or f.statements s Kill)) e

-- the first n cases of a switch, by its operands
abbrev pub stray_cases : Function → (ℕ → ℕ) → ℕ → (Exit → Bool) → List ℕ
stray_cases f o n e = concat n (λ i. stray_block f (o (3 + 2 * i)) e)

-- b is a block of the function f
pub record BlockOf (bytes t : List ℕ) (f : FunctionHandle) (b : BlockHandle) : Type 0 where
  pub of : There bytes t f
  pub block : b < length (function_of bytes t f).blocks

-- and s a statement in it
pub record StatementIn (bytes t : List ℕ) (f : FunctionHandle) (b : BlockHandle) (s : ℕ) : Type 0 where
  pub of_block : BlockOf bytes t f b
  pub low : (range_at t f b).first ≤ s
  pub high : s < (range_at t f b).first + (range_at t f b).count

-- or a switch in it has that row: its cases are lower blocks
pub record CasesIn (bytes t : List ℕ) (f : FunctionHandle) (b : BlockHandle) (row : Kinded) : Type 0 where
  pub of_block : BlockOf bytes t f b
  pub each : (i : ℕ) → i < operand_at bytes row 1 → operand_at bytes row (3 + 2 * i) < b
