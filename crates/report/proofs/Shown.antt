-- What a report shows of the walk of a function, its context and records: at most n pieces, where the walk began with no more and 16 allows no more. A body without statements has no visit, and
-- leaves the asked context as it is; so from a fresh pruner that is what the request asks, or what 16 allows.
use Prim.Native.Nat.{ℕ, ◌+◌, ◌≤◌}
use native.Mathlib.Omega.{arith}
use mathlib.Core.Path.{◌≡◌}
use mathlib.Core.Bool.{false}
use mathlib.Core.List.{List}
use mathlib.Core.Option.{Option, some, none as nothing}
use lib.ListN.{length, get_or}
use Rattle.field.specs.Limits.{max_pieces}
use Rattle.part.specs.PartReq.{PartReq, none, entries}
use Rattle.module.specs.Module.{FunctionHandle, Module}
use Rattle.module.specs.File.{read_module, accepted}
use Rattle.context.specs.RequiredContext.{RequiredContext, merge_context, pieces}
use Rattle.walk.specs.State.{FunctionReq, State, Place, ◌>>◌, went, record_pieces, sum_of, count}
use Rattle.walk.specs.Resolve.{function_at}
use Rattle.walk.specs.Marks.{add_marks, body_of, first_ray}
use Rattle.walk.specs.Function.{extend, keep, join_total, add_total, entered, step_function, add_function}
use Rattle.walk.specs.Requests.{fresh, begun}
use Rattle.walk.proofs.Counts.{own, record_pieces-replicate}
use Rattle.walk.proofs.Ends.{Ends, ends, stops, Any, ends_weaker, ends_then, ends_next, ends_limited_context}
use Rattle.walk.proofs.Room.{block_owns}
use Rattle.sound.proofs.Walks.{function_is}
use Rattle.pruner.proofs.Read.{nothing-counts}

abbrev pub shows : State → ℕ
shows st = pieces st.context + record_pieces st.exprs

owned : (st : State) → shows st ≤ own st
unfolding count sum_of
owned st = omega arith

-- totals are changed, what is shown is not
join_shows : (f : FunctionHandle) (at : Place) (total : FunctionReq) (ray : Option ℕ) (n : ℕ) (st : State) → shows st ≤ n → Ends Any (λ left u. shows left ≤ n) (join_total f at total ray st)
unfolding join_total
join_shows f at total (some s) n st h = stops tt
join_shows f at total nothing n st h =
    let context = merge_context total.context st.context in
    ends_next {P = λ left u. shows left ≤ n}
    (λ left. went (keep f (record { marks = add_marks total.marks left.marks; context = context; exprs = extend total.exprs left.exprs }) left) tt)
    (ends_weaker (ends_limited_context at context st (λ o. h)) (λ k t. tt) (λ left u few. few))
    (λ left hl. ends hl)

total_shows : (m : Module) (f : FunctionHandle) (at : Place) (o : Option FunctionReq) (n : ℕ) (st : State) → shows st ≤ n → Ends Any (λ left u. shows left ≤ n) (add_total m f at o st)
unfolding add_total
total_shows m f at nothing n st h = ends h
total_shows m f at (some total) n st h = join_shows f at total (first_ray m f (body_of m f)) n st h

abbrev base_of : (globals retval : PartReq) → RequiredContext
base_of globals retval = record { globals = globals; locals = none; args = none; retval = retval }

module _ (bytes : List ℕ) (m : Module) (was : read_module bytes ≡ accepted m) (f : FunctionHandle) (at : Place) (n held : ℕ) (globals retval : PartReq) (allowed : max_pieces ≤ n) where
  function_shows : (st : State) → own (entered m f (base_of globals retval) st) ≤ n → Ends Any (λ left a. shows left ≤ n) (add_function m f at held globals retval st)
  unfolding step_function entered
  function_shows st h =
      rw (function_is bytes m was f at held globals retval st)
      (ends_then (λ ended r. add_total m f at (get_or ended.functions f nothing) ended >> λ left. went left r)
      (block_owns m (add_function m) f (body_of m f) n held (base_of globals retval) false (entered m f (base_of globals retval) st) allowed h)
      (λ ended r few.
      ends_next (λ left. went left r) (total_shows m f at (get_or ended.functions f nothing) n ended (omega (arith, owned ended, few))) (λ left hl. ends hl)))

  -- from a fresh pruner
  fresh-owns : own (entered m f (base_of globals retval) (begun (fresh m))) ≡ pieces (base_of globals retval)
  unfolding count sum_of begun fresh entries entered
  fresh-owns = omega (arith, record_pieces-replicate (length (function_at m f).expressions), nothing-counts m (length m.functions))

  pub fresh-shows : pieces (base_of globals retval) ≤ n → Ends Any (λ left a. shows left ≤ n) (add_function m f at held globals retval (begun (fresh m)))
  fresh-shows h = function_shows (begun (fresh m)) (omega (arith, fresh-owns))
