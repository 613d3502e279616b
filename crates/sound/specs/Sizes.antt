-- How many records of a file a function has beside its own: arguments, locals, expressions, statements and blocks.
use Rattle.std.specs.Prelude.{ℕ, suc, ◌+◌, List, [], ◌∷◌, length, take}
use Rattle.module.specs.Module.{FunctionHandle, BlockHandle, Function, Module}
use Rattle.walk.specs.Marks.{block_at}

abbrev pub blocks_of : Function → ℕ
blocks_of f = length f.blocks

abbrev pub records_of : Function → ℕ
records_of f = length f.arguments + length f.locals + length f.expressions + length f.statements + blocks_of f

-- a number of each function, in all
unfoldable pub total : (Function → ℕ) → List Function → ℕ
total n [] = 0
total n (f ∷ fs) = n f + total n fs

-- its blocks and statements
abbrev pub body_records : Function → ℕ
body_records f = length f.statements + blocks_of f

-- how many blocks and statements the file has up to the end of a block
abbrev pub record_number : Module → FunctionHandle → BlockHandle → ℕ
record_number m f b = total body_records (take f m.functions) + suc b + ((block_at m f b).first + (block_at m f b).count)
