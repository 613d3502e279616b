-- `resolve_var` in a valid module: one equation, without the case of an operand that is not below its expression.
use mathlib.Core.Path.{◌≡◌}
use mathlib.Core.List.{List}
use Prim.Native.Nat.{ℕ}
use Rattle.module.specs.Module.{ExpressionHandle, FunctionHandle, Module}
use Rattle.valid.specs.Valid.{Valid}
use Rattle.walk.specs.Resolve.{expression_at, resolve_arm, resolve_var}
use Rattle.walk.proofs.Equations as walk
use Rattle.sound.proofs.There.{operands_below}

pub resolve_is : (m : Module) (f : FunctionHandle) (e : ExpressionHandle) → Valid m → (indexes : List ℕ) → resolve_var m f e indexes ≡ resolve_arm (resolve_var m f) (expression_at m f e) indexes
resolve_is m f e v indexes = walk.resolve_is m f e indexes (operands_below m v f e)
