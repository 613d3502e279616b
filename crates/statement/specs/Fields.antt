-- The fields that the arms of stores ask, by kind: an expression that a kind does not have is absent.
use Rattle.std.specs.Prelude.{◌≡◌, cond, List, ℕ, ◌<◌, eqb, length, get_or, Result}
use Rattle.std.proofs.Math.Option.{Option, some, none as nothing}
use Rattle.part.specs.PartReq.{all, exist}
use Rattle.part.specs.Store.{part}
use Rattle.module.specs.Module.{ExpressionHandle}
use Rattle.module.specs.Decode.{option_of}
use Rattle.module.specs.Tables.{module_of}
use Rattle.access.specs.Access.{handle_in}
use Rattle.valid.specs.Valid.{MaybeBelow}
use Rattle.walk.specs.State.{◌>>◌, total_pieces}
use Rattle.walk.specs.Resolve.{function_at}
use Rattle.walk.specs.Expression.{add_expression}
use Rattle.memory.specs.Layout as layout
use Rattle.memory.specs.Memory.{read}
use Rattle.state.specs.State.{Rest, state_of, totals_sum}
use Rattle.state.specs.Ready.{Ready}
use Rattle.state.specs.declared.frame.Frame.{Frame}
use Rattle.state.specs.declared.answer.Halt.{Halt}
use Rattle.state.specs.declared.answer.Tally.{Tally}
use Rattle.statement.specs.Asks.{Goes, maybe_ask}
use Rattle.statement.specs.declared.stores.Fields as declared

-- a store, and one into an image
pub data StoreKind (kind : ℕ) : Type 0 where
  plain : kind ≡ 12 → StoreKind kind
  image : kind ≡ 15 → StoreKind kind

-- the fields
pub record Fields : Type 0 where
  pub pointer : ExpressionHandle
  pub coordinate : Option ExpressionHandle
  pub index : Option ExpressionHandle
  pub value : ExpressionHandle

abbrev pub fields_of : declared.Fields → Fields
fields_of x = record { pointer = x.pointer.0; coordinate = handle_in x.coordinate; index = handle_in x.index; value = x.value.0 }

unfoldable pub store_fields : ℕ → (ℕ → ℕ) → Fields
store_fields kind o =
    cond (eqb kind 15) (record { pointer = o 0; coordinate = some (o 1); index = option_of (o 2); value = o 3 })
    (record { pointer = o 0; coordinate = nothing; index = nothing; value = o 1 })

-- what they name is one of n expressions
pub record FieldsBelow (n : ℕ) (x : Fields) : Type 0 where
  pub pointer : x.pointer < n
  pub coordinate : MaybeBelow n x.coordinate
  pub index : MaybeBelow n x.index
  pub value : x.value < n

-- the function is open, and the fields are there
pub record Fielding (bytes t s rs : List ℕ) (fr : Frame) (x : Fields) (sum : ℕ) : Type 0 where
  pub ready : Ready bytes t s rs fr.function.0 fr.at fr.held sum
  pub below : FieldsBelow (length (function_at (module_of bytes t) fr.function.0).expressions) x

-- pointer, coordinate, array index and value were asked, in this order
pub record Fielded (bytes t s rs : List ℕ) (fr : Frame) (x : Fields) (visits : ℕ) (r : Result Tally Halt) (u us : List ℕ) : Type 0 where
  pub by : (rest : Rest) → total_pieces rest.functions ≡ totals_sum (read s rs)
      → Goes bytes t s rs fr rest
      (add_expression (module_of bytes t) fr.function.0 fr.held x.pointer exist (state_of t fr.function.0 fr.at (read s rs) rest visits)
      >> maybe_ask (module_of bytes t) fr.function.0 fr.held x.coordinate all
      >> maybe_ask (module_of bytes t) fr.function.0 fr.held x.index exist
      >> add_expression (module_of bytes t) fr.function.0 fr.held x.value (part s (get_or rs layout.ask 0)))
      r u us
