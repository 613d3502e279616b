-- `lines::names::name` meets its contract, kind by kind.
use mathlib.Core.Path.{sym}
use Rattle.module.specs.declared.kinds.StatementKind.TheVariants as kind
use Rattle.lines.proofs.Named.{named, other_named}
use Rattle.lines.proofs.names.name.Goals as goal

pub returns-in-Ok-Emit : goal.returns-in-Ok-Emit
returns-in-Ok-Emit c = sym (named kind.Emit c.in-Ok-Emit.field-0-is c.in-Ok-Emit.ensures)

pub returns-in-Ok-Block : goal.returns-in-Ok-Block
returns-in-Ok-Block c = sym (named kind.Block c.in-Ok-Block.field-0-is c.in-Ok-Block.ensures)

pub returns-in-Ok-If : goal.returns-in-Ok-If
returns-in-Ok-If c = sym (named kind.If c.in-Ok-If.field-0-is c.in-Ok-If.ensures)

pub returns-in-Ok-Switch : goal.returns-in-Ok-Switch
returns-in-Ok-Switch c = sym (named kind.Switch c.in-Ok-Switch.field-0-is c.in-Ok-Switch.ensures)

pub returns-in-Ok-Loop : goal.returns-in-Ok-Loop
returns-in-Ok-Loop c = sym (named kind.Loop c.in-Ok-Loop.field-0-is c.in-Ok-Loop.ensures)

pub returns-in-Ok-Break : goal.returns-in-Ok-Break
returns-in-Ok-Break c = sym (named kind.Break c.in-Ok-Break.field-0-is c.in-Ok-Break.ensures)

pub returns-in-Ok-Continue : goal.returns-in-Ok-Continue
returns-in-Ok-Continue c = sym (named kind.Continue c.in-Ok-Continue.field-0-is c.in-Ok-Continue.ensures)

pub returns-in-Ok-Return : goal.returns-in-Ok-Return
returns-in-Ok-Return c = sym (named kind.Return c.in-Ok-Return.field-0-is c.in-Ok-Return.ensures)

pub returns-in-Ok-Kill : goal.returns-in-Ok-Kill
returns-in-Ok-Kill c = sym (named kind.Kill c.in-Ok-Kill.field-0-is c.in-Ok-Kill.ensures)

pub returns-in-Ok-ControlBarrier : goal.returns-in-Ok-ControlBarrier
returns-in-Ok-ControlBarrier c = sym (named kind.ControlBarrier c.in-Ok-ControlBarrier.field-0-is c.in-Ok-ControlBarrier.ensures)

pub returns-in-Ok-MemoryBarrier : goal.returns-in-Ok-MemoryBarrier
returns-in-Ok-MemoryBarrier c = sym (named kind.MemoryBarrier c.in-Ok-MemoryBarrier.field-0-is c.in-Ok-MemoryBarrier.ensures)

pub returns-in-Ok-ImageAtomic : goal.returns-in-Ok-ImageAtomic
returns-in-Ok-ImageAtomic c = sym (named kind.ImageAtomic c.in-Ok-ImageAtomic.field-0-is c.in-Ok-ImageAtomic.ensures)

pub returns-in-Ok-Store : goal.returns-in-Ok-Store
returns-in-Ok-Store c = sym (named kind.Store c.in-Ok-Store.field-0-is c.in-Ok-Store.ensures)

pub returns-in-Ok-Atomic : goal.returns-in-Ok-Atomic
returns-in-Ok-Atomic c = sym (named kind.Atomic c.in-Ok-Atomic.field-0-is c.in-Ok-Atomic.ensures)

pub returns-in-Ok-Call : goal.returns-in-Ok-Call
returns-in-Ok-Call c = sym (named kind.Call c.in-Ok-Call.field-0-is c.in-Ok-Call.ensures)

pub returns-in-Ok-ImageStore : goal.returns-in-Ok-ImageStore
returns-in-Ok-ImageStore c = sym (named kind.ImageStore c.in-Ok-ImageStore.field-0-is c.in-Ok-ImageStore.ensures)

pub returns-in-Ok-RayQuery : goal.returns-in-Ok-RayQuery
returns-in-Ok-RayQuery c = sym (named kind.RayQuery c.in-Ok-RayQuery.field-0-is c.in-Ok-RayQuery.ensures)

pub returns-in-Ok-WorkGroupUniformLoad : goal.returns-in-Ok-WorkGroupUniformLoad
returns-in-Ok-WorkGroupUniformLoad c = sym (named kind.WorkGroupUniformLoad c.in-Ok-WorkGroupUniformLoad.field-0-is c.in-Ok-WorkGroupUniformLoad.ensures)

pub returns-in-Ok-SubgroupBallot : goal.returns-in-Ok-SubgroupBallot
returns-in-Ok-SubgroupBallot c = sym (named kind.SubgroupBallot c.in-Ok-SubgroupBallot.field-0-is c.in-Ok-SubgroupBallot.ensures)

pub returns-in-Ok-SubgroupGather : goal.returns-in-Ok-SubgroupGather
returns-in-Ok-SubgroupGather c = sym (named kind.SubgroupGather c.in-Ok-SubgroupGather.field-0-is c.in-Ok-SubgroupGather.ensures)

pub returns-in-Ok-SubgroupCollectiveOperation : goal.returns-in-Ok-SubgroupCollectiveOperation
returns-in-Ok-SubgroupCollectiveOperation c = sym (named kind.SubgroupCollectiveOperation c.in-Ok-SubgroupCollectiveOperation.field-0-is c.in-Ok-SubgroupCollectiveOperation.ensures)

pub returns-in-Err : goal.returns-in-Err
returns-in-Err c = sym (other_named _ c.in-Err.ensures)
