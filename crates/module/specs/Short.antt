-- Short forms for writing a module down, in worked examples.
use Rattle.std.proofs.Math.Option.{none as nothing}
use Rattle.std.specs.Prelude.{ℕ}
use Rattle.module.specs.Module.{TypeHandle, Expression, Typed, BlockHandle, BlockRange, FunctionArg, SwitchCase}

abbrev pub typed : TypeHandle → Expression → Typed
typed t e = record { type = t; expression = e }

abbrev pub range : ℕ → ℕ → BlockRange
range first count = record { first = first; count = count }

abbrev pub argument_of : TypeHandle → FunctionArg
argument_of t = record { type = t; binding = nothing }

abbrev pub switch_case : ℕ → BlockHandle → SwitchCase
switch_case value body = record { value = value; body = body }
