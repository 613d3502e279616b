-- The statements that hold no block and call no function: what is said of one, and what its arm leaves.
use Rattle.std.specs.Prelude.{◌≡◌, Bool, List, ℕ, Result}
use Rattle.module.specs.Module.{Statement, Emit, Block, If, Switch, Loop, Break, Continue, Return, Kill, ControlBarrier, MemoryBarrier, ImageAtomic, Store, AtomicStatement, Call, ImageStore, RayQuery, WorkGroupUniformLoad, SubgroupBallot, SubgroupGather, SubgroupCollectiveOperation}
use Rattle.module.specs.Tables.{module_of}
use Rattle.access.specs.Access.{statement_row}
use Rattle.access.specs.declared.kinded.Kinded.{Kinded}
use Rattle.walk.specs.State.{total_pieces}
use Rattle.walk.specs.StatementReq.{StatementReq}
use Rattle.walk.specs.Statement.{BlockWalk, FunctionWalk, add_statement}
use Rattle.memory.specs.Memory.{read}
use Rattle.state.specs.State.{Rest, state_of, totals_sum}
use Rattle.state.specs.Frame.{frame_of, Begun, ArmEnds}
use Rattle.state.specs.declared.frame.Frame.{Frame}
use Rattle.state.specs.declared.answer.Halt.{Halt}
use Rattle.state.specs.declared.answer.Answer.{Answer}

-- What is said of a statement whose arm answers b. A refusal says nothing of one, nor is anything said here of those that are no leaves.
unfoldable pub leaf_req : Statement → Bool → StatementReq
leaf_req (Emit first last) b = StatementReq.Barrier
leaf_req (Block a) b = StatementReq.BlockStmt b
leaf_req (If condition accept reject) b = StatementReq.If b
leaf_req (Switch selector cases) b = StatementReq.Switch b
leaf_req (Loop body continuing break_if) b = StatementReq.Loop b
leaf_req Break b = StatementReq.Break b
leaf_req Continue b = StatementReq.Continue b
leaf_req (Return value) b = StatementReq.Return b
leaf_req Kill b = StatementReq.Kill
leaf_req ControlBarrier b = StatementReq.Barrier
leaf_req MemoryBarrier b = StatementReq.Barrier
leaf_req ImageAtomic b = StatementReq.Barrier
leaf_req (Store pointer value) b = StatementReq.Store b
leaf_req (AtomicStatement pointer value result) b = StatementReq.Atomic b
leaf_req (Call function arguments result) b = StatementReq.Barrier
leaf_req (ImageStore image coordinate array_index value) b = StatementReq.ImageStore b
leaf_req (RayQuery query) b = StatementReq.RayQuery b
leaf_req (WorkGroupUniformLoad pointer result) b = StatementReq.RayQuery b
leaf_req (SubgroupBallot result predicate) b = StatementReq.RayQuery b
leaf_req (SubgroupGather mode argument result) b = StatementReq.RayQuery b
leaf_req (SubgroupCollectiveOperation argument result) b = StatementReq.RayQuery b

-- what an arm finds: the visit of its statement has begun, and the row is that statement's
pub record Arm (bytes t s rs : List ℕ) (fr : Frame) (row : Kinded) (sum : ℕ) : Type 0 where
  pub begun : Begun bytes t s rs fr sum
  pub is : row ≡ statement_row bytes t fr.function.0 fr.statement

-- From the memory s rs, the answer of the arm of x and the memory that is left are the definition's, whatever walks blocks and calls.
pub record Leaves (bytes t s rs : List ℕ) (fr : Frame) (x : Statement) (visits : ℕ) (r : Result Answer Halt) (u us : List ℕ) : Type 0 where
  pub by : (call : FunctionWalk) (block : BlockWalk) (rest : Rest) → total_pieces rest.functions ≡ totals_sum (read s rs)
      → ArmEnds bytes t s rs fr rest
      (add_statement (module_of bytes t) call block (frame_of s rs fr) x (state_of t fr.function.0 fr.at (read s rs) rest visits))
      (leaf_req x) r u us
