-- A valid module is what the walk's recursion equations ask as `LowerModule`: operands are below their expression, the blocks that a block's statements hold
-- below it, and called functions below the caller.
use mathlib.Core.Path.{◌≡◌, refl, subst}
use mathlib.Core.Bool.{true, false}
use mathlib.Core.List.{List, [], ◌∷◌}
use mathlib.Core.Option.{none as nothing}
use Prim.Native.Nat.{ℕ, suc, ◌+◌, ◌<◌, ◌≤◌}
use native.Mathlib.Omega.{arith}
use lib.ListN.{length}
use borrow.Author.Tests.{lt-ltb}
use Rattle.module.specs.Module.{FunctionHandle, BlockHandle, Function, Module, Statement, Break, Kill}
use Rattle.module.specs.Blocks.{held, all_below}
use Rattle.valid.specs.Valid.{EachBelow, UsesBelow, entries_below, Valid}
use Rattle.valid.proofs.Lists.{in_range}
use Rattle.valid.proofs.Uses.{callable, held_below}
use Rattle.walk.specs.Resolve.{function_at}
use Rattle.walk.specs.Marks.{statement_at, block_at}
use Rattle.walk.specs.Lower.{CallsBelow, LowerModule}
use Rattle.sound.proofs.There.{has_blocks, block_there, function_valid, operands_below, names_below, uses_below}

-- each number of a list, as the test says it
all-below : (n : ℕ) (xs : List ℕ) → EachBelow n xs → all_below n xs ≡ true
unfolding all_below
all-below n [] h = refl
all-below n (x ∷ xs) h = rw (lt-ltb x n (h 0 (omega arith))) (all-below n xs (λ i l. h (suc i) (omega arith)))

module _ (m : Module) (v : Valid m) where
  -- the statements of a block are the function's
  pub statements-there : (f : FunctionHandle) (b : BlockHandle) → b < length (function_at m f).blocks → (block_at m f b).first + (block_at m f b).count ≤ length (function_at m f).statements
  unfolding block_at
  statements-there f b l = (function_valid m v f (has_blocks m f b l)).ranges b _ l

  -- the blocks that the statement k of the block b holds
  pub block_holds : (f : FunctionHandle) (b : BlockHandle) (k : ℕ) → k < (block_at m f b).count → EachBelow b (held (statement_at m f ((block_at m f b).first + k)))
  unfolding block_at statement_at
  block_holds f b k l =
      let there = block_there m f b k l in
      let inside = statements-there f b there in
      let s = (block_at m f b).first + k in
      subst (λ (y : Statement). EachBelow b (held y)) (in_range (function_at m f).statements s Break Kill (omega arith))
      (held_below (function_at m f) (function_valid m v f (has_blocks m f b there)).blocks b k _ there l)

  pub calls_below : (f : FunctionHandle) (s : ℕ) → CallsBelow f (statement_at m f s)
  calls_below f s g arguments result is =
      (callable m.functions f g none_there
      (subst (UsesBelow (length (function_at m f).expressions) (entries_below f m.functions)) is (uses_below m v f s)).0
      ).0
    where
      none_there : Function
      none_there = record { entry = false; result = nothing; arguments = []; locals = []; expressions = []; statements = []; blocks = [] }

  pub lower : LowerModule m
  lower =
      record {
        expressions = λ f e. record { operands = operands_below m v f e; names = names_below m v f e };
        blocks = λ f b.
            record { holds = λ k l. all-below b _ (block_holds f b k l); calls = λ k l. calls_below f ((block_at m f b).first + k) };
      }
