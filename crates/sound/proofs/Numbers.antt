-- Numbers that a valid module names: a function has a body, a statement's blocks are below the block that it stands in, and a called function is below its caller
-- and no entry.
use mathlib.Core.Path.{◌≡◌, subst}
use mathlib.Core.Bool.{false}
use mathlib.Core.List.{List}
use mathlib.Core.Option.{Option}
use Prim.Native.Nat.{ℕ, zero, suc, pred, ◌<◌}
use native.Mathlib.Omega.{arith}
use lib.ListN.{length, length-map, get_or-map}
use Rattle.module.specs.Module.{ExpressionHandle, FunctionHandle, BlockHandle, Module, SwitchCase, Statement, Emit, Block, If, Switch, Loop, Break, Continue, Return, Kill, ControlBarrier, MemoryBarrier, ImageAtomic, Store, AtomicStatement, Call, ImageStore, RayQuery, WorkGroupUniformLoad, SubgroupBallot, SubgroupGather, SubgroupCollectiveOperation}
use Rattle.module.specs.Blocks.{held}
use Rattle.valid.specs.Valid.{EachBelow, UsesBelow, entries_below, Valid}
use Rattle.valid.proofs.Uses.{callable, has_body}
use Rattle.walk.specs.Resolve.{function_at}
use Rattle.walk.specs.Marks.{statement_at, body_of}
use Rattle.sound.specs.Holds.{HoldsBelow}
use Rattle.sound.proofs.There.{function_valid, uses_below}

holds : (b : BlockHandle) (s : Statement) → EachBelow b (held s) → HoldsBelow b s
unfolding held
holds b (Emit first last) h = tt
holds b (Block a) h = h 0 (omega arith)
holds b (If condition accept reject) h = (h 0 (omega arith), h 1 (omega arith))
holds b (Switch selector cases) h = λ k l.
    let body : SwitchCase → BlockHandle = λ c. c.body in
    subst (λ (x : ℕ). x < b) (get_or-map body cases k (record { value = 0; body = 0 })) (h k (rw (length-map cases body) l))
holds b (Loop body continuing break_if) h = (h 0 (omega arith), h 1 (omega arith))
holds b Break h = tt
holds b Continue h = tt
holds b (Return value) h = tt
holds b Kill h = tt
holds b ControlBarrier h = tt
holds b MemoryBarrier h = tt
holds b ImageAtomic h = tt
holds b (Store pointer value) h = tt
holds b (AtomicStatement pointer value result) h = tt
holds b (Call function arguments result) h = tt
holds b (ImageStore image coordinate array_index value) h = tt
holds b (RayQuery query) h = tt
holds b (WorkGroupUniformLoad pointer result) h = tt
holds b (SubgroupBallot result predicate) h = tt
holds b (SubgroupGather mode argument result) h = tt
holds b (SubgroupCollectiveOperation argument result) h = tt

pred-below : (n : ℕ) → 0 < n → pred n < n
pred-below zero l = absurd (omega arith)
pred-below (suc n) l = omega arith

module _ (m : Module) (v : Valid m) where
  pub body_there : (f : FunctionHandle) → f < length m.functions → body_of m f < length (function_at m f).blocks
  unfolding body_of
  body_there f l = pred-below (length (function_at m f).blocks) (has_body (function_at m f) (function_valid m v f l).blocks)

  pub callee : (f : FunctionHandle) (s : ℕ) (g : FunctionHandle) (arguments : List ExpressionHandle) (result : Option ExpressionHandle) → statement_at m f s ≡ Call g arguments result → (g < f) × ((function_at m g).entry ≡ false)
  unfolding function_at
  callee f s g arguments result is =
      callable m.functions f g _ (subst (UsesBelow (length (function_at m f).expressions) (entries_below f m.functions)) is (uses_below m v f s)).0
