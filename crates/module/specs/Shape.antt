-- What the fields of a record are: a shape is a list of operand classes, each of one field or more. The arms of `add_expression`
-- and `add_statement` are counted in source order, and so are the shapes.
use Rattle.std.specs.Prelude.{ℕ, List, [], ◌∷◌, get_or}

pub data Operand : Type 0 where
  -- an expression, and one that may be absent
  expression : Operand
  optional : Operand
  -- a constant index
  index : Operand
  -- a count, and as many expressions
  list : Operand
  -- a count of 2 to 4, and as many letters
  pattern : Operand
  -- a code with its expressions
  level : Operand
  mode : Operand
  -- by number
  argument : Operand
  global : Operand
  local : Operand
  -- a block, of which nothing is asked before the function's end
  block : Operand
  -- a count, and as many values with their blocks
  cases : Operand
  -- a function that may be called
  function : Operand
  -- the first and the last expression of an emit
  range : Operand
  type : Operand
  -- 2 to 4
  size : Operand
  -- a count, and as many types with their bindings
  members : Operand
  binding : Operand
  -- 1 for entry else 0
  flag : Operand
  -- a type and a binding, either of which may be absent, but not the type alone
  result : Operand
  -- what no field is: the shape of a kind that there is not
  never : Operand

unfoldable pub type_shapes : List (List Operand)
type_shapes =
    []
    ∷ (size ∷ [])
    ∷ (size ∷ size ∷ [])
    ∷ []
    ∷ (type ∷ [])
    ∷ (type ∷ index ∷ [])
    ∷ (members ∷ [])
    ∷ (type ∷ [])
    ∷ []
    ∷ []

unfoldable pub expression_shapes : List (List Operand)
expression_shapes =
    []
    ∷ []
    ∷ []
    ∷ (expression ∷ index ∷ [])
    ∷ (expression ∷ expression ∷ [])
    ∷ []
    ∷ (expression ∷ [])
    ∷ (expression ∷ pattern ∷ [])
    ∷ (list ∷ [])
    ∷ (argument ∷ [])
    ∷ (global ∷ [])
    ∷ (local ∷ [])
    ∷ (expression ∷ [])
    ∷ (expression ∷ expression ∷ expression ∷ optional ∷ level ∷ optional ∷ [])
    ∷ (expression ∷ expression ∷ optional ∷ optional ∷ optional ∷ [])
    ∷ (expression ∷ optional ∷ [])
    ∷ (expression ∷ [])
    ∷ (expression ∷ expression ∷ [])
    ∷ (expression ∷ expression ∷ expression ∷ [])
    ∷ (expression ∷ [])
    ∷ (expression ∷ [])
    ∷ (expression ∷ optional ∷ optional ∷ optional ∷ [])
    ∷ (expression ∷ [])
    ∷ []
    ∷ []
    ∷ (expression ∷ [])
    ∷ []
    ∷ (expression ∷ [])
    ∷ []
    ∷ []
    ∷ []
    ∷ []
    ∷ []

unfoldable pub statement_shapes : List (List Operand)
statement_shapes =
    (range ∷ [])
    ∷ (block ∷ [])
    ∷ (expression ∷ block ∷ block ∷ [])
    ∷ (expression ∷ cases ∷ [])
    ∷ (block ∷ block ∷ optional ∷ [])
    ∷ []
    ∷ []
    ∷ (optional ∷ [])
    ∷ []
    ∷ []
    ∷ []
    ∷ []
    ∷ (expression ∷ expression ∷ [])
    ∷ (expression ∷ expression ∷ optional ∷ [])
    ∷ (function ∷ list ∷ optional ∷ [])
    ∷ (expression ∷ expression ∷ optional ∷ expression ∷ [])
    ∷ (expression ∷ [])
    ∷ (expression ∷ expression ∷ [])
    ∷ (expression ∷ optional ∷ [])
    ∷ (mode ∷ expression ∷ expression ∷ [])
    ∷ (expression ∷ expression ∷ [])
    ∷ []

abbrev pub type_shape : ℕ → List Operand
type_shape kind = get_or type_shapes kind (never ∷ [])

abbrev pub expression_shape : ℕ → List Operand
expression_shape kind = get_or expression_shapes kind (never ∷ [])

abbrev pub statement_shape : ℕ → List Operand
statement_shape kind = get_or statement_shapes kind (never ∷ [])
