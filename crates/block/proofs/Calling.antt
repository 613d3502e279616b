-- A call: the called function g, below f, begins with its base context above the current one, with no records and no marks. What f has recorded is held meanwhile.
use Prim.Native.Nat.{ℕ, ◌+◌, ◌<◌, ◌≤◌}
use native.Mathlib.Omega.{arith}
use mathlib.Core.Path.{◌≡◌, refl, sym, ap, ◌∙◌}
use mathlib.Core.List.{List}
use mathlib.Core.Option.{none as nothing}
use lib.ListN.{length, get_or, replicate}
use Rattle.part.specs.PartReq.{none, entries}
use Rattle.part.specs.StoreLimits.{entries_cap}
use Rattle.module.specs.Module.{FunctionHandle, Function, Module}
use Rattle.module.specs.Tables.{row_at, expressions_from, items_to, module_of}
use Rattle.access.proofs.Access.{functions_are, expressions-are}
use Rattle.access.proofs.Laid.{earlier}
use Rattle.context.specs.RequiredContext.{RequiredContext, pieces}
use Rattle.walk.specs.State.{record_pieces}
use Rattle.walk.specs.Resolve.{function_at}
use Rattle.walk.specs.Marks.{stretch, write_marks}
use Rattle.walk.specs.Function.{entered}
use Rattle.walk.specs.Proper.{FineContext, Sound}
use Rattle.walk.proofs.Counts.{record_pieces-replicate}
use Rattle.walk.proofs.Proper.{proper, good, state, fine_context}
use Rattle.memory.specs.Layout.{globals_slot, exprs_slot, totals_slot, stack_slot}
use Rattle.memory.specs.Memory.{read, counted, context_at}
use Rattle.memory.proofs.Slots.{read-long}
use Rattle.memory.proofs.Records.{records_none}
use Rattle.memory.proofs.Runs.{context_put}
use Rattle.marks.specs.declared.places.MarkPlaces.{MarkPlaces}
use Rattle.marks.specs.declared.totals.MarkTotals.{MarkTotals}
use Rattle.marks.specs.Places.{slice, start_of, start_in, size_in}
use Rattle.marks.proofs.Write.{write_long}
use Rattle.marks.proofs.Placed.{at_function}
use Rattle.marks.proofs.Buffers.{cleared_own}
use Rattle.state.specs.State.{records_in}
use Rattle.block.specs.Standing.{state_in, Standing}
use Rattle.block.specs.Saved.{Saved}
use Rattle.block.proofs.Same.{functions_same, totals_same, sum_kept, unwalked_kept}
use Rattle.block.proofs.Tops.{put_below, put_above, counted-put, up_empty}
use Rattle.block.proofs.Steps.{items_within}

module _ {bytes t types : List ℕ} {places : MarkPlaces} {s rs open_marks : List ℕ} {totals : MarkTotals} {f at held sum visits : ℕ} (S : Standing bytes t types places s rs open_marks totals f at held sum visits)
    {g : FunctionHandle} (lower : g < f) {base : RequiredContext} {u us : List ℕ} (d : Saved s rs (at + 4) base u us) (high : at + 8 ≤ length rs)
    {cleared : List ℕ} (marks : cleared ≡ write_marks open_marks (start_in places.starts g) (replicate (size_in places.starts g) 0)) where
  abbrev m : Module
  m = module_of bytes t

  there : g < length m.functions
  there = omega (arith, S.ready.function)

  before : items_to (row_at t g) ≤ (row_at t f).items
  before = let n = functions_are t bytes in let l = S.ready.function in earlier t S.ready.was_read.laid g f lower (omega arith)

  within : exprs_slot + items_to (row_at t f) ≤ totals_slot
  within = items_within f S.ready.was_read S.ready.function

  same : (k : ℕ) → k < at + 4 → get_or (read u us) k none ≡ get_or (read s rs) k none
  same k l = rw d.reads (put_below (read s rs) (at + 4) base k l)

  low : stack_slot ≤ at
  low = S.ready.low

  totals_kept : (k : ℕ) → totals_slot ≤ k → k < stack_slot → get_or (read u us) k none ≡ get_or (read s rs) k none
  totals_kept k a b = let l = low in same k (omega arith)

  new_context : context_at (read u us) (at + 4) ≡ base
  new_context = rw d.reads (context_put (read s rs) (at + 4) base (omega (arith, read-long s rs)))

  expressions : length (function_at m g).expressions ≡ (row_at t g).expressions
  expressions = ap (λ (x : Function). length x.expressions) (at_function bytes t S.ready.was_read g there) ∙ sym (expressions-are t g (row_at t g) refl bytes)

  new_records : records_in t exprs_slot g (read u us) ≡ replicate (length (function_at m g).expressions) nothing
  new_records =
      let b = before in
      let w = within in
      let l = low in
      rw expressions
      (records_none (read u us) (exprs_slot + expressions_from (row_at t g)) (row_at t g).expressions
      (λ e h.
      same (exprs_slot + expressions_from (row_at t g) + e) (omega arith) ∙ S.closed (exprs_slot + expressions_from (row_at t g) + e) (omega arith) (omega arith)))

  new_marks : slice cleared (start_of m g) (stretch m g) ≡ replicate (stretch m g) 0
  new_marks = rw marks (cleared_own bytes t places S.ready.was_read S.placed open_marks g there S.open_long)

  pub entered-state : state_in bytes t u us cleared totals g (at + 4) visits ≡ entered m g base (state_in bytes t s rs open_marks totals f at visits)
  unfolding entered
  entered-state =
      let l = low in
      rw (new_context, new_records, new_marks, same globals_slot (omega arith), functions_same (read s rs) (read u us) S.ready.was_read totals_kept totals)

  counts : counted (read u us) ≡ counted (read s rs) + pieces base
  counts =
      let l = low in
      let h = read-long s rs in
      omega (arith, ap counted d.reads, counted-put (read s rs) (at + 4) base (omega arith) (omega arith), up_empty S)

  pub entered_standing : {less : ℕ} → less + record_pieces (records_in t exprs_slot f (read s rs)) ≡ sum → Sound m → FineContext m g base
      → held + pieces (context_at (read s rs) at) + record_pieces (records_in t exprs_slot f (read s rs)) + (pieces base + less) ≤ entries_cap
      → Standing bytes t types places u us cleared totals g (at + 4) (held + pieces (context_at (read s rs) at) + record_pieces (records_in t exprs_slot f (read s rs))) less visits
  entered_standing {less} is sound fine small =
      let w = S.ready.was_read in
      let b = before in
      let i = within in
      let l = low in
      let c = ap pieces new_context in
      let none_recorded : record_pieces (records_in t exprs_slot g (read u us)) ≡ 0 = ap record_pieces new_records ∙ record_pieces-replicate (length (function_at m g).expressions) in
      let globals = ap entries (same globals_slot (omega arith)) in
      let st = state_in bytes t s rs open_marks totals f at visits in
      let G = good m sound 0 f st S.proper in
      let K = proper m sound 0 in
      record {
        ready = record {
          was_read = w;
          function = there;
          memory = d.memory;
          low = omega arith;
          high = omega (arith, d.long);
          sums = omega (arith, S.ready.sums, totals_same (read s rs) (read u us) w totals_kept);
          owned = omega (arith, S.ready.owned, counts);
          small = omega arith;
        };
        typed = S.typed;
        placed = S.placed;
        open_long = omega (arith, S.open_long, ap length marks, write_long open_marks (start_in places.starts g) (replicate (size_in places.starts g) 0));
        totals-sum = sum_kept (read s rs) (read u us) w totals_kept totals S.totals-sum;
        unwalked = unwalked_kept (read s rs) (read u us) w totals_kept totals S.unwalked;
        proper = rw entered-state
            (unfold entered in
            state m sound 0 g (entered m g base st)
            (record {
              context = fine_context m sound 0 g base fine;
              exprs = K.exprs_fresh g;
              marks = K.marks_fresh g;
              globals = G.globals;
              functions = G.functions;
              visits = G.visits;
            }));
        closed = λ k x y. same k (omega arith) ∙ S.closed k x (omega arith);
        above = λ k x. rw d.reads (put_above (read s rs) (at + 4) base k (omega arith)) ∙ S.above k (omega arith);
      }
