-- The walk's laws for a module that was read: its recursions are steps of themselves, and requests that were read leave a fine
-- pruner. Each from the walk's own law, with `Sound` and `LowerModule` as reading gives them.
use mathlib.Core.Path.{◌≡◌}
use mathlib.Core.Bool.{Bool}
use mathlib.Core.List.{List, [], ◌∷◌}
use Prim.Native.Nat.{ℕ}
use Rattle.part.specs.PartReq.{PartReq}
use Rattle.module.specs.Module.{ExpressionHandle, FunctionHandle, BlockHandle, Module}
use Rattle.module.specs.File.{accepted, read_module}
use Rattle.context.specs.RequiredContext.{RequiredContext}
use Rattle.request.specs.Request.{Request}
use Rattle.valid.specs.Valid.{Valid}
use Rattle.valid.proofs.Accepted.{valid}
use Rattle.walk.specs.State.{State, Place, at_expression, went, ◌>>◌, visit}
use Rattle.walk.specs.Resolve.{expression_at}
use Rattle.walk.specs.Expression.{arm_asks, add_asks, recorded, add_expression}
use Rattle.walk.specs.Marks.{block_at, ray_from, first_ray}
use Rattle.walk.specs.Statement.{FunctionWalk, step_block, add_block}
use Rattle.walk.specs.Function.{step_function, add_function}
use Rattle.walk.specs.Requests.{Pruner, requests}
use Rattle.walk.specs.Proper.{Sound, FineRequest, EachRequest, FinePruner}
use Rattle.walk.specs.Lower.{LowerModule}
use Rattle.walk.proofs.Equations.{add_expression-is}
use Rattle.walk.proofs.Lower as lowered
use Rattle.walk.proofs.Proper as proper
use Rattle.sound.specs.Asked.{WasRead, EachRead}
use Rattle.sound.proofs.Sound.{sound}
use Rattle.sound.proofs.Lower.{lower}
use Rattle.sound.proofs.Asked.{asked}

module _ (bytes : List ℕ) (m : Module) (read : read_module bytes ≡ accepted m) where
  pub module_valid : Valid m
  module_valid = valid bytes m read

  pub module_sound : Sound m
  module_sound = sound m module_valid

  pub module_lower : LowerModule m
  module_lower = lower m module_valid

  -- `add_expression`, `add_block` and `add_function`
  pub expression_is : (f : FunctionHandle) (held : ℕ) (e : ExpressionHandle) (p : PartReq) (st : State) → add_expression m f held e p st ≡ visit held (at_expression f e) (λ begun. add_asks (add_expression m f held) (at_expression f e) (arm_asks (expression_at m f e) p) begun >> λ ended. went (recorded e p ended) tt) st
  expression_is f held e p st = add_expression-is m f held e p st (module_lower.expressions f e)

  pub block_is : (call : FunctionWalk) (f : FunctionHandle) (b : BlockHandle) (outside : ℕ) (base : RequiredContext) (r : Bool) (st : State) → add_block m call f b outside base r st ≡ step_block m call f (add_block m call f) b outside base r st
  block_is call f b outside base r st = lowered.block_is m call f b (module_lower.blocks f b) outside base r st

  pub function_is : (f : FunctionHandle) (at : Place) (outside : ℕ) (globals retval : PartReq) (st : State) → add_function m f at outside globals retval st ≡ step_function m (add_function m) f at outside globals retval st
  function_is f at outside globals retval st = lowered.function_is m f (module_lower.blocks f) at outside globals retval st

  pub first_ray-is : (f : FunctionHandle) (b : BlockHandle) → first_ray m f b ≡ ray_from m f (first_ray m f) (block_at m f b).first (block_at m f b).count
  first_ray-is f b = lowered.first_ray-is m f b (module_lower.blocks f b)

  -- requests that were read
  pub read_fine : (q : Request) → WasRead m q → FineRequest m q
  read_fine q h = (asked m h.report h.bytes q h.is).fine

  each_fine : (qs : List Request) → EachRead m qs → EachRequest m qs
  each_fine [] h = tt
  each_fine (q ∷ qs) h = (read_fine q h.0, each_fine qs h.1)

  pub requests-fine : (pruner : Pruner) (qs : List Request) → FinePruner m pruner → EachRead m qs → FinePruner m (requests m pruner qs).1
  requests-fine pruner qs h hq = proper.requests-fine m module_sound pruner qs h (each_fine qs hq)
