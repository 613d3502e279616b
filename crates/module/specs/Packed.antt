-- A shape as one number: five bits a class, the first lowest, 0 for no class.
use Rattle.std.specs.Prelude.{ℕ, zero, suc, ◌/◌, ◌%◌, cond, List, [], ◌∷◌, eqb, get_or, Option, Some, None}
use Rattle.module.specs.declared.shape.Class.{Class}
use Rattle.module.specs.Shape.{Operand, expression, optional, index, list, pattern, level, mode, argument, global, local, block, cases, function, range, type, size, members, binding, flag, result, never}

unfoldable pub operand_of : ℕ → Operand
operand_of class =
    get_or
    (never
    ∷ expression
    ∷ optional
    ∷ index
    ∷ list
    ∷ pattern
    ∷ level
    ∷ mode
    ∷ argument
    ∷ global
    ∷ local
    ∷ block
    ∷ cases
    ∷ function
    ∷ range
    ∷ type
    ∷ size
    ∷ members
    ∷ binding
    ∷ flag
    ∷ result
    ∷ [])
    class
    never

unfoldable pub class_then : ℕ → List Operand → List Operand
class_then class shape = cond (eqb class 0) shape (operand_of class ∷ shape)

-- the lowest n classes
unfoldable pub unpack : ℕ → ℕ → List Operand
unpack zero packed = []
unpack (suc n) packed = class_then (packed % 32) (unpack n (packed / 32))

-- as many as a shape has at most
abbrev pub classes : ℕ
classes = 6

-- the operand that a class stands for
unfoldable pub meant : Class → Operand
meant Class.Never = never
meant Class.Expression = expression
meant Class.Optional = optional
meant Class.Index = index
meant Class.List = list
meant Class.Pattern = pattern
meant Class.Level = level
meant Class.Mode = mode
meant Class.Argument = argument
meant Class.Global = global
meant Class.Local = local
meant Class.Block = block
meant Class.Cases = cases
meant Class.Function = function
meant Class.Range = range
meant Class.«Type» = type
meant Class.Size = size
meant Class.Members = members
meant Class.Binding = binding
meant Class.Flag = flag
meant Class.Result = result

-- the same by number, where there is a class
abbrev pub class_at : ℕ → Option Operand
class_at bits = cond (eqb bits 0) None (Some (operand_of bits))
