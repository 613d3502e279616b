-- The blocks that a statement holds, by number: each is below b.
use Rattle.std.specs.Prelude.{ℕ, ◌<◌, length, get_or}
use Rattle.module.specs.Module.{BlockHandle, Statement, Emit, Block, If, Switch, Loop, Break, Continue, Return, Kill, ControlBarrier, MemoryBarrier, ImageAtomic, Store, AtomicStatement, Call, ImageStore, RayQuery, WorkGroupUniformLoad, SubgroupBallot, SubgroupGather, SubgroupCollectiveOperation}

abbrev pub HoldsBelow : BlockHandle → Statement → Type 0
HoldsBelow b (Emit first last) = Unit {0}
HoldsBelow b (Block a) = a < b
HoldsBelow b (If condition accept reject) = (accept < b) × (reject < b)
HoldsBelow b (Switch selector cases) = (k : ℕ) → k < length cases → (get_or cases k (record { value = 0; body = 0 })).body < b
HoldsBelow b (Loop body continuing break_if) = (body < b) × (continuing < b)
HoldsBelow b Break = Unit {0}
HoldsBelow b Continue = Unit {0}
HoldsBelow b (Return value) = Unit {0}
HoldsBelow b Kill = Unit {0}
HoldsBelow b ControlBarrier = Unit {0}
HoldsBelow b MemoryBarrier = Unit {0}
HoldsBelow b ImageAtomic = Unit {0}
HoldsBelow b (Store pointer value) = Unit {0}
HoldsBelow b (AtomicStatement pointer value result) = Unit {0}
HoldsBelow b (Call function arguments result) = Unit {0}
HoldsBelow b (ImageStore image coordinate array_index value) = Unit {0}
HoldsBelow b (RayQuery query) = Unit {0}
HoldsBelow b (WorkGroupUniformLoad pointer result) = Unit {0}
HoldsBelow b (SubgroupBallot result predicate) = Unit {0}
HoldsBelow b (SubgroupGather mode argument result) = Unit {0}
HoldsBelow b (SubgroupCollectiveOperation argument result) = Unit {0}
