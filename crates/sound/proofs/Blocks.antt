-- The blocks and statements of a module that was read, numbered through the file: all are within `max_items`, and the number at the end of a block, where it has a
-- statement, is by two above that of a block that it holds, and of the body of a function that it calls. So half that many levels of blocks can be open at a time.
use mathlib.Core.Path.{◌≡◌}
use mathlib.Core.List.{List}
use Prim.Native.Nat.{ℕ, suc, ◌+◌, ◌<◌, ◌≤◌}
use native.Mathlib.Omega.{arith}
use lib.ListN.{length, take}
use Rattle.module.specs.Module.{FunctionHandle, BlockHandle, Module}
use Rattle.module.specs.File.{accepted, read_module}
use Rattle.module.specs.Tables.{max_items}
use Rattle.valid.specs.Valid.{Valid}
use Rattle.valid.proofs.Accepted.{valid}
use Rattle.walk.specs.Resolve.{function_at}
use Rattle.walk.specs.Marks.{block_at, body_of}
use Rattle.sound.specs.Sizes.{body_records, records_of, total, record_number}
use Rattle.sound.proofs.There.{function_valid, has_blocks}
use Rattle.sound.proofs.Lower.{statements-there}
use Rattle.sound.proofs.Totals.{total-most, total-take, total-lower}
use Rattle.sound.proofs.Sizes.{few_records}
use Rattle.sound.proofs.Numbers.{body_there}

-- a function's blocks and statements begin behind those of lower functions
bodies_lower : (m : Module) (g f : FunctionHandle) → g < f → g < length m.functions → total body_records (take g m.functions) + body_records (function_at m g) ≤ total body_records (take f m.functions)
unfolding function_at
bodies_lower m g f l h = total-lower body_records m.functions g f _ l h

module _ (m : Module) (v : Valid m) where
  record_before : (f : FunctionHandle) (b : BlockHandle) → b < length (function_at m f).blocks → record_number m f b ≤ total body_records (take (suc f) m.functions)
  record_before f b l = omega (arith, statements-there m v f b l, bodies_lower m f (suc f) (omega arith) (has_blocks m f b l))

  -- from a block to a lower one
  pub held_number : (f : FunctionHandle) (a b : BlockHandle) → a < b → b < length (function_at m f).blocks → 0 < (block_at m f b).count → record_number m f a + 2 ≤ record_number m f b
  unfolding block_at
  held_number f a b l h n = omega (arith, (function_valid m v f (has_blocks m f b h)).apart a b (record { first = 0; count = 0 }) l h)

  -- from a block to the body of a lower function
  pub callee_number : (f g : FunctionHandle) (b : BlockHandle) → g < f → g < length m.functions → 0 < (block_at m f b).count → record_number m g (body_of m g) + 2 ≤ record_number m f b
  callee_number f g b l h n =
      omega (arith, statements-there m v g (body_of m g) (body_there m v g h), body_there m v g h, bodies_lower m g f l h)

pub record_within : (bytes : List ℕ) (m : Module) → read_module bytes ≡ accepted m → (f : FunctionHandle) (b : BlockHandle) → b < length (function_at m f).blocks → record_number m f b ≤ max_items
record_within bytes m read f b l =
    omega (
      arith,
      record_before m (valid bytes m read) f b l,
      total-take body_records m.functions (suc f),
      total-most body_records records_of m.functions (λ f. omega arith),
      few_records bytes m read,
    )
