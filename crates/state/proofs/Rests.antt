-- There are totals that count for any number: what is said whatever the totals are is so said of some.
use Prim.Native.Nat.{ℕ, zero, suc}
use native.Mathlib.Omega.{arith}
use mathlib.Core.Path.{◌≡◌, refl}
use mathlib.Core.List.{[], ◌∷◌}
use mathlib.Core.Option.{some}
use lib.ListN.{replicate}
use Rattle.part.specs.PartReq.{all, entries}
use Rattle.context.specs.RequiredContext.{empty_context, pieces}
use Rattle.walk.specs.State.{record_pieces, function_pieces, total_pieces}
use Rattle.state.specs.State.{Rest}

records_count : (n : ℕ) → record_pieces (replicate n (some all)) ≡ n
unfolding record_pieces entries
records_count zero = refl
records_count (suc n) = omega (arith, records_count n)

pub some_rest : ℕ → Rest
some_rest n = record { marks = []; functions = some (record { marks = []; context = empty_context; exprs = replicate n (some all) }) ∷ [] }

pub rest_counts : (n : ℕ) → total_pieces (some_rest n).functions ≡ n
unfolding some_rest total_pieces function_pieces pieces entries
rest_counts n = omega (arith, records_count n)
