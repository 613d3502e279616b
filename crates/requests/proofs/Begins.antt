-- From what was loaded, the walk of the asked function can begin, in the definition's first state of a request: a walk of a function looks at nothing of the state before but the totals and
-- the visits.
use Prim.Native.Nat.{ℕ, zero, suc, ◌+◌, ◌-◌, ◌<◌, ◌≤◌}
use native.Mathlib.Omega.{arith}
use mathlib.Core.Path.{◌≡◌, refl, sym, ap, ◌∙◌}
use mathlib.Core.List.{List}
use mathlib.Core.Option.{none as nothing}
use lib.ListN.{length, get_or, replicate, length-replicate}
use Rattle.part.specs.PartReq.{PartReq, none, entries}
use Rattle.module.specs.Module.{Function, Module}
use Rattle.module.specs.File.{read_module, accepted}
use Rattle.module.specs.Tables.{row_at, expressions_from, max_items, module_of}
use Rattle.access.proofs.Access.{expressions-are}
use Rattle.context.specs.RequiredContext.{RequiredContext, pieces, return_entry}
use Rattle.request.specs.Request.{Request}
use Rattle.walk.specs.State.{State, nowhere, record_pieces, total_pieces}
use Rattle.walk.specs.Resolve.{function_at}
use Rattle.walk.specs.Marks.{stretch, body_of}
use Rattle.walk.specs.Function.{entered, step_function, add_function}
use Rattle.walk.specs.Requests.{Pruner, begun}
use Rattle.walk.specs.Proper.{EachRecord, EachMark, FineContext, ProperState}
use Rattle.walk.proofs.Counts.{record_pieces-replicate}
use Rattle.walk.proofs.Proper.{retval_asked}
use Rattle.sound.proofs.Blocks.{record_within}
use Rattle.sound.proofs.Numbers.{body_there}
use Rattle.sound.proofs.Walks.{module_valid, function_is}
use Rattle.memory.specs.Layout.{globals_slot, exprs_slot, totals_slot, stack_slot}
use Rattle.memory.specs.Memory.{read, sum_from, counted, context_at}
use Rattle.memory.proofs.Slots.{read-long, sum_none, sum_suc, sum_split, counted-split}
use Rattle.memory.proofs.Records.{records_none}
use Rattle.memory.proofs.Runs.{context_pieces}
use Rattle.marks.proofs.Placed.{at_function}
use Rattle.marks.specs.declared.places.MarkPlaces.{MarkPlaces}
use Rattle.marks.specs.declared.totals.MarkTotals.{MarkTotals}
use Rattle.state.specs.State.{records_in, totals_sum}
use Rattle.state.proofs.Own.{fits}
use Rattle.block.specs.Standing.{state_in, Standing}
use Rattle.block.specs.Blocks.{Deep}
use Rattle.block.specs.Functions.{FunctionEntered}
use Rattle.pruner.specs.Form.{pruner_pieces}
use Rattle.requests.specs.Loaded.{Loaded}
use Rattle.requests.proofs.Ends.{walks}

-- slots that mean nothing count for nothing
sum_empty : (ps : List PartReq) (a n : ℕ) → ((k : ℕ) → a ≤ k → k < a + n → get_or ps k none ≡ none) → sum_from ps a n ≡ 0
unfolding entries
sum_empty ps a zero h = sum_none ps a
sum_empty ps a (suc n) h =
    let e : entries (get_or ps (a + n) none) ≡ 0 = rw (h (a + n) (omega arith) (omega arith)) in
    omega (arith, sum_suc ps a n, sum_empty ps a n (λ k x y. h k x (omega arith)))

-- what 16 counts where only the base context, at the bottom of the stack, and totals are there
pub base_counts : (ps : List PartReq) → stack_slot + 4 ≤ length ps → ((k : ℕ) → exprs_slot ≤ k → k < totals_slot → get_or ps k none ≡ none) → ((k : ℕ) → stack_slot + 4 ≤ k → get_or ps k none ≡ none)
    → counted ps ≡ pieces (context_at ps stack_slot) + (entries (get_or ps globals_slot none) + totals_sum ps)
base_counts ps l no_records above =
    let rest = length ps - stack_slot - 4 in
    let e : length ps - stack_slot ≡ 4 + rest = omega arith in
    omega (
      arith,
      counted-split ps (omega arith),
      sum_empty ps exprs_slot max_items (λ k x y. no_records k x (omega arith)),
      ap (sum_from ps stack_slot) e,
      sum_split ps stack_slot 4 rest,
      context_pieces ps stack_slot,
      sum_empty ps (stack_slot + 4) rest (λ k x y. above k x),
    )

-- no record and no mark
each_none : (n : ℕ) → EachRecord (replicate n nothing)
each_none zero = tt
each_none (suc n) = (tt, each_none n)

each_zero : (n : ℕ) → EachMark (replicate n 0)
each_zero zero = tt
each_zero (suc n) = (omega arith, each_zero n)

-- of the state before, a walk of a function looks at the totals and the visits alone
same_walk : (bytes : List ℕ) (m : Module) → read_module bytes ≡ accepted m → (f : ℕ) (globals retval : PartReq) (st before : State) → st.globals ≡ before.globals → st.functions ≡ before.functions → st.visits ≡ before.visits
    → add_function m f nowhere 0 globals retval st ≡ add_function m f nowhere 0 globals retval before
unfolding step_function entered
same_walk bytes m r f globals retval st before a b c =
    function_is bytes m r f nowhere 0 globals retval st ∙ rw (a, b, c) (sym (function_is bytes m r f nowhere 0 globals retval before))

module _ {bytes t types : List ℕ} {places : MarkPlaces} {s rs open_marks : List ℕ} {totals : MarkTotals} {q : Request} {pruner : Pruner} (L : Loaded bytes t types places s rs open_marks totals q pruner) where
  abbrev m : Module
  m = module_of bytes t

  abbrev base : RequiredContext
  base = record { globals = q.globals; locals = none; args = none; retval = return_entry q.retval }

  base_fine : FineContext m q.function base
  base_fine = record { globals = L.fine.globals; locals = tt; args = tt; retval = retval_asked q.retval L.fine.retval }

  expressions : length (function_at m q.function).expressions ≡ (row_at t q.function).expressions
  expressions =
      ap (λ (x : Function). length x.expressions) (at_function bytes t L.was_read q.function L.function)
      ∙ sym (expressions-are t q.function (row_at t q.function) refl bytes)

  no_records : records_in t exprs_slot q.function (read s rs) ≡ replicate (length (function_at m q.function).expressions) nothing
  no_records =
      let w = fits q.function L.was_read L.function in
      rw expressions
      (records_none (read s rs) (exprs_slot + expressions_from (row_at t q.function)) (row_at t q.function).expressions
      (λ e h. L.no_records (exprs_slot + expressions_from (row_at t q.function) + e) (omega arith) (omega arith)))

  none_recorded : record_pieces (records_in t exprs_slot q.function (read s rs)) ≡ 0
  none_recorded = ap record_pieces no_records ∙ record_pieces-replicate (length (function_at m q.function).expressions)

  -- the state as memory has it is the definition's first
  pub first_state : state_in bytes t s rs open_marks totals q.function stack_slot 0 ≡ entered m q.function base (begun pruner)
  unfolding entered begun
  first_state = rw (L.base_is, no_records, L.no_marks, L.globals_are, L.functions_are)

  first_proper : ProperState m 0 q.function (state_in bytes t s rs open_marks totals q.function stack_slot 0)
  unfolding entered begun
  first_proper =
      rw first_state
      (record {
        context = base_fine;
        exprs = record { long = length-replicate (length (function_at m q.function).expressions) nothing; each = each_none (length (function_at m q.function).expressions) };
        marks = record { long = length-replicate (stretch m q.function) 0; each = each_zero (stretch m q.function) };
        globals = L.fine_pruner.globals;
        functions = L.fine_pruner.functions;
        visits = record { more = omega arith; few = omega arith };
      })

  high : stack_slot + 4 ≤ length rs
  high = omega (arith, L.slots_long)

  counts : counted (read s rs) ≡ pieces (context_at (read s rs) stack_slot) + pruner_pieces pruner
  counts =
      let h = high in
      omega (
        arith,
        base_counts (read s rs) (omega (arith, read-long s rs)) L.no_records L.above,
        L.totals-sum,
        ap entries L.globals_are,
        ap total_pieces L.functions_are,
      )

  pub stands : Standing bytes t types places s rs open_marks totals q.function stack_slot 0 (pruner_pieces pruner) 0
  stands =
      let c = counts in
      let few = L.few in
      let small = L.base_few in
      let items = L.was_read.laid.within q.function in
      record {
        ready = record {
          was_read = L.was_read;
          function = L.function;
          memory = L.memory;
          low = omega arith;
          high = high;
          sums = omega (arith, none_recorded, L.totals-sum, ap entries L.globals_are, ap total_pieces L.functions_are);
          owned = omega arith;
          small = omega arith;
        };
        typed = L.typed;
        placed = L.placed;
        open_long = L.open_long;
        totals-sum = L.totals-sum;
        unwalked = L.unwalked;
        proper = first_proper;
        closed = λ k x y. L.no_records k x (let w = fits q.function L.was_read L.function in omega arith);
        above = L.above;
      }

  deep : Deep bytes t rs q.function (body_of m q.function) (stack_slot + 4)
  deep =
      let r = L.was_read.module_is in
      omega (arith, L.slots_long, record_within bytes m r q.function (body_of m q.function) (body_there m (module_valid bytes m r) q.function L.function))

  pub enters : FunctionEntered bytes t types places s rs open_marks totals q.function stack_slot 0 (pruner_pieces pruner) 0
  enters = record {
    standing = stands;
    no_locals = ap (λ (c : RequiredContext). c.locals) L.base_is;
    no_args = ap (λ (c : RequiredContext). c.args) L.base_is;
    no_records = no_records;
    no_marks = L.no_marks;
    base_few = L.base_few;
    few = omega arith;
    sum_few = L.few;
    deep = deep;
    roomy = L.roomy;
  }

  -- the walk that is done is the request's
  pub walks-request : add_function m q.function nowhere 0 (get_or (read s rs) stack_slot none) (get_or (read s rs) (stack_slot + 3) none) (state_in bytes t s rs open_marks totals q.function stack_slot 0) ≡ walks bytes t pruner q
  walks-request =
      let st = state_in bytes t s rs open_marks totals q.function stack_slot 0 in
      ap (λ (x : PartReq). add_function m q.function nowhere 0 x (get_or (read s rs) (stack_slot + 3) none) st) (ap (λ (c : RequiredContext). c.globals) L.base_is)
      ∙ ap (λ (x : PartReq). add_function m q.function nowhere 0 q.globals x st) (ap (λ (c : RequiredContext). c.retval) L.base_is)
      ∙ same_walk bytes m L.was_read.module_is q.function q.globals (return_entry q.retval) st (begun pruner) (unfold begun in L.globals_are) (unfold begun in L.functions_are) (unfold begun in refl)
