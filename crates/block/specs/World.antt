-- What the definitions are asked of a world: its lists, one by one.
use Rattle.std.specs.Prelude.{ℕ}
use Rattle.module.specs.Module.{Module, FunctionHandle}
use Rattle.module.specs.Tables.{module_of}
use Rattle.walk.specs.State.{State}
use Rattle.walk.specs.Statement.{BlockWalk}
use Rattle.block.specs.Standing.{state_in}
use Rattle.block.specs.Visiting.{block_in}
use Rattle.block.specs.declared.world.World.{World}
use Rattle.block.specs.declared.workspace.Workspace.{Workspace}

abbrev pub module_by : World → Module
module_by w = module_of w.typed.now.file.now.bytes w.typed.now.file.now.t

abbrev pub blocks_by : World → FunctionHandle → BlockWalk
blocks_by w = block_in w.typed.now.file.now.bytes w.typed.now.file.now.t

abbrev pub state_by : World → Workspace → FunctionHandle → (at visits : ℕ) → State
state_by w m = state_in w.typed.now.file.now.bytes w.typed.now.file.now.t m.parts.cells m.parts.slots m.open m.totals
