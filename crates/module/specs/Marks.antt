-- The marks of a function's statements, and where they stand: in the order of the file, an emit's by expression, a call's two; none for
-- a block statement, a kill and barriers.
use Rattle.std.specs.Prelude.{ℕ, zero, suc, ◌+◌, ◌-◌, List, [], ◌∷◌}
use Rattle.module.specs.Module.{Statement, Emit, Block, If, Switch, Loop, Break, Continue, Return, Kill, ControlBarrier, MemoryBarrier, ImageAtomic, Store, AtomicStatement, Call, ImageStore, RayQuery, WorkGroupUniformLoad, SubgroupBallot, SubgroupGather, SubgroupCollectiveOperation}

-- how many marks a statement has
unfoldable pub mark_count : Statement → ℕ
mark_count (Emit first last) = suc last - first
mark_count (Block b) = 0
mark_count (If condition accept reject) = 1
mark_count (Switch selector cases) = 1
mark_count (Loop body continuing break_if) = 1
mark_count Break = 1
mark_count Continue = 1
mark_count (Return value) = 1
mark_count Kill = 0
mark_count ControlBarrier = 0
mark_count MemoryBarrier = 0
mark_count ImageAtomic = 1
mark_count (Store pointer value) = 1
mark_count (AtomicStatement pointer value result) = 1
mark_count (Call function arguments result) = 2
mark_count (ImageStore image coordinate array_index value) = 1
mark_count (RayQuery query) = 1
mark_count (WorkGroupUniformLoad pointer result) = 1
mark_count (SubgroupBallot result predicate) = 1
mark_count (SubgroupGather mode argument result) = 1
mark_count (SubgroupCollectiveOperation argument result) = 1

-- the marks of the first n statements; in a function's stretch statement n's own stand behind them
unfoldable pub marks_before : List Statement → ℕ → ℕ
marks_before ss zero = 0
marks_before [] (suc n) = 0
marks_before (s ∷ ss) (suc n) = mark_count s + marks_before ss n
