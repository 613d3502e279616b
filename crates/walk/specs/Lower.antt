-- What reading has seen to: an operand's number is below that of its expression, likewise blocks and called functions. Under it the fixed cases of the
-- walk's recursions never show.
use Rattle.std.specs.Prelude.{◌≡◌, true, List, ℕ, ◌+◌, ◌<◌, length}
use Rattle.std.proofs.Math.Option.{Option}
use Rattle.module.specs.Module.{ExpressionHandle, FunctionHandle, BlockHandle, Module, Statement, Call}
use Rattle.module.specs.Blocks.{held, all_below}
use Rattle.valid.specs.Valid.{OperandsBelow, NamesBelow}
use Rattle.walk.specs.Resolve.{function_at, expression_at}
use Rattle.walk.specs.Marks.{statement_at, block_at}

-- the operands of an expression are lower, and what it names is there
pub record LowerExpression (m : Module) (f : FunctionHandle) (e : ExpressionHandle) : Type 0 where
  pub operands : OperandsBelow e (expression_at m f e)
  pub names : NamesBelow (length m.globals) (length (function_at m f).arguments) (length (function_at m f).locals) (expression_at m f e)

-- a call is of a function below f
abbrev pub CallsBelow : FunctionHandle → Statement → Type 0
CallsBelow f s = (g : FunctionHandle) (arguments : List ExpressionHandle) (result : Option ExpressionHandle) → s ≡ Call g arguments result → g < f

-- the statements of a block hold lower blocks, and call lower functions
pub record LowerBlock (m : Module) (f : FunctionHandle) (b : BlockHandle) : Type 0 where
  pub holds : (k : ℕ) → k < (block_at m f b).count → all_below b (held (statement_at m f ((block_at m f b).first + k))) ≡ true
  pub calls : (k : ℕ) → k < (block_at m f b).count → CallsBelow f (statement_at m f ((block_at m f b).first + k))

pub record LowerModule (m : Module) : Type 0 where
  pub expressions : (f : FunctionHandle) (e : ExpressionHandle) → LowerExpression m f e
  pub blocks : (f : FunctionHandle) (b : BlockHandle) → LowerBlock m f b
