-- What is found, put aside into a slot to be asked: the field that is asked then is absent where nothing was found.
use Rattle.std.specs.Prelude.{List, ℕ, length, set, Option as Optional, Some, None}
use Rattle.std.proofs.Math.Option.{Option, none as nothing}
use Rattle.module.specs.Module.{ExpressionHandle}
use Rattle.module.specs.Tables.{module_of}
use Rattle.valid.specs.Valid.{MaybeBelow}
use Rattle.walk.specs.Resolve.{function_at}
use Rattle.state.specs.Ready.{Ready}
use Rattle.state.specs.declared.frame.Frame.{Frame}

abbrev pub aside_field : Optional ℕ → Option ExpressionHandle → Option ExpressionHandle
aside_field None e = nothing
aside_field (Some n) e = e

abbrev pub aside_slots : List ℕ → ℕ → Optional ℕ → List ℕ
aside_slots rs k None = rs
aside_slots rs k (Some n) = set rs k n

-- the record of a result, which may be absent, can be read
pub record Loading (bytes t s rs : List ℕ) (fr : Frame) (result : Option ExpressionHandle) : Type 0 where
  pub sum : ℕ
  pub ready : Ready bytes t s rs fr.function.0 fr.at fr.held sum
  pub below : MaybeBelow (length (function_at (module_of bytes t) fr.function.0).expressions) result
