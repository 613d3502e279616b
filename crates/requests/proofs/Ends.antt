-- The walk of the asked function has ended: 16 is asked of the totals, and the request answers as the definition says, by the state that the memory has.
use Prim.Native.Nat.{ℕ, ◌+◌, ◌<◌, ◌≤◌}
use native.Mathlib.Omega.{arith}
use mathlib.Core.Path.{◌≡◌, refl, ap}
use mathlib.Core.Bool.{Bool, true, false, cond}
use mathlib.Core.List.{List}
use lib.Dec.{ltb}
use borrow.Author.Tests.{ltb-true, ltb-false}
use Rattle.field.specs.Limits.{max_pieces}
use Rattle.module.specs.Tables.{module_of}
use Rattle.request.specs.Request.{Request}
use Rattle.walk.specs.State.{State, Place, nowhere, Out, went, halt, record_pieces}
use Rattle.walk.specs.Function.{add_function}
use Rattle.context.specs.RequiredContext.{return_entry}
use Rattle.walk.specs.Requests.{Pruner, reported, refused, end_count, ended, begun, walk_request, report_of, answered, request}
use Rattle.memory.specs.Layout.{exprs_slot}
use Rattle.memory.specs.Memory.{read}
use Rattle.marks.specs.declared.places.MarkPlaces.{MarkPlaces}
use Rattle.marks.specs.declared.totals.MarkTotals.{MarkTotals}
use Rattle.state.specs.State.{records_in}
use Rattle.block.specs.Standing.{state_in}
use Rattle.block.specs.Functions.{FunctionEnded}

-- the walk that a request is, up to 16 at its end
abbrev pub walks : (bytes t : List ℕ) → Pruner → Request → Out Bool
walks bytes t pruner q = add_function (module_of bytes t) q.function nowhere 0 q.globals (return_entry q.retval) (begun pruner)

module _ (bytes t : List ℕ) (pruner : Pruner) (q : Request) where
  -- it was refused on the way
  pub request-halts : {n : ℕ} {at : Place} → halt n at ≡ walks bytes t pruner q → request (module_of bytes t) pruner q ≡ (refused n at, pruner)
  unfolding request walk_request
  request-halts e = rw (← e)

  module _ {types : List ℕ} {places : MarkPlaces} {s rs open_marks : List ℕ} {totals : MarkTotals} {base visits sum : ℕ} {b : Bool} {u us open_after : List ℕ} {totals-after : MarkTotals}
      (E : FunctionEnded bytes t types places s rs open_marks totals q.function base 0 (walks bytes t pruner q) visits sum b u us open_after totals-after) where
    abbrev pub last : State
    last = state_in bytes t u us open_after totals-after q.function (base + 4) visits

    -- what 16 counts then: all but the records of the asked function
    pub end-count : end_count last + record_pieces (records_in t exprs_slot q.function (read u us)) ≡ sum
    unfolding end_count
    end-count = omega (arith, E.standing.ready.sums, E.standing.totals-sum)

    ends : (r : Bool) → ltb max_pieces (end_count last) ≡ r → walk_request (module_of bytes t) pruner q ≡ cond r (halt 16 nowhere) (went last b)
    unfolding walk_request ended
    ends r e = rw (← E.is, e)

    decided : (n : ℕ) (r : Bool) → ltb max_pieces n ≡ r → max_pieces < n → ltb max_pieces n ≡ true
    decided n true e l = e
    decided n false e l = absurd (omega (arith, ltb-false max_pieces n e))

    allowed : (n : ℕ) (r : Bool) → ltb max_pieces n ≡ r → n ≤ max_pieces → ltb max_pieces n ≡ false
    allowed n false e l = e
    allowed n true e l = absurd (omega (arith, ltb-true max_pieces n e))

    pub request-over : max_pieces < end_count last → request (module_of bytes t) pruner q ≡ (refused 16 nowhere, pruner)
    unfolding request
    request-over l = ap (answered (module_of bytes t) pruner q.function) (ends true (decided (end_count last) (ltb max_pieces (end_count last)) refl l))

    pub request-went : end_count last ≤ max_pieces → request (module_of bytes t) pruner q ≡ (reported (report_of (module_of bytes t) q.function last b), record { globals = last.globals; functions = last.functions })
    unfolding request
    request-went l = ap (answered (module_of bytes t) pruner q.function) (ends false (allowed (end_count last) (ltb max_pieces (end_count last)) refl l))
