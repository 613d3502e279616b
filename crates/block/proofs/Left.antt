-- A called function is left: the caller's state is `back` of the definition, and stands, since the call has changed nothing of the caller's own, and what the
-- function had is no longer counted.
use Prim.Native.Nat.{ℕ, zero, suc, ◌+◌, ◌-◌, ◌<◌, ◌≤◌}
use native.Mathlib.Omega.{arith}
use native.Mathlib.Decide.{dec_lt}
use mathlib.Core.Path.{◌≡◌, refl, sym, ap, ◌∙◌}
use mathlib.Core.List.{List}
use lib.ListN.{length, get_or, set, replicate, length-replicate}
use Rattle.part.specs.PartReq.{PartReq, none}
use Rattle.module.specs.Module.{FunctionHandle, Module}
use Rattle.module.specs.Tables.{row_at, expressions_from, items_to, module_of}
use Rattle.access.proofs.Access.{functions_are}
use Rattle.access.proofs.Laid.{earlier}
use Rattle.context.specs.RequiredContext.{RequiredContext, empty_context, pieces}
use Rattle.walk.specs.State.{record_pieces}
use Rattle.walk.specs.Marks.{stretch, write_marks}
use Rattle.walk.specs.Statement.{back}
use Rattle.memory.specs.Layout.{globals_slot, exprs_slot, totals_slot, stack_slot, returned}
use Rattle.memory.specs.Memory.{read, context_at, with_context}
use Rattle.memory.specs.Stretches.{four_set, forgotten}
use Rattle.memory.proofs.Slots.{read-long}
use Rattle.memory.proofs.Records.{records_pieces}
use Rattle.memory.proofs.Runs.{context_put, clear_read, records_same, context_same}
use Rattle.marks.specs.declared.places.MarkPlaces.{MarkPlaces}
use Rattle.marks.specs.declared.totals.MarkTotals.{MarkTotals}
use Rattle.marks.specs.Places.{slice, start_of, start_in, size_in}
use Rattle.marks.proofs.Write.{write_long, write_after, slice-more}
use Rattle.marks.proofs.Placed.{start_within}
use Rattle.marks.proofs.Buffers.{ends}
use Rattle.state.specs.State.{records_in}
use Rattle.state.proofs.Own.{fits, records_there}
use Rattle.leave.specs.Leave.{own_in, left_slots}
use Rattle.leave.proofs.Leaving.{forgot_long, cleared_long, left_long, left_same, left_memory, left_closed, left_counts, left_sum}
use Rattle.block.specs.Standing.{functions_in, state_in, Standing}
use Rattle.block.specs.Blocks.{Beside}
use Rattle.block.specs.Saved.{Saved}
use Rattle.block.specs.Left.{Left}
use Rattle.block.proofs.Same.{functions_same, totals_same, unwalked_kept}
use Rattle.block.proofs.Tops.{empty_slots, put_below}
use Rattle.block.proofs.Steps.{items_within}

-- bytes that are the same from `from` on
slice-same : (xs ys : List ℕ) (from n : ℕ) → from + n ≤ length xs → length ys ≡ length xs → ((k : ℕ) → from ≤ k → get_or ys k 0 ≡ get_or xs k 0) → slice ys from n ≡ slice xs from n
slice-same xs ys from zero b l h = refl
slice-same xs ys from (suc n) b l h =
    let one : n + 1 ≡ suc n = omega arith in
    rw (← one, slice-more ys from n (omega arith), slice-more xs from n (omega arith), h (from + n) (omega arith), slice-same xs ys from n (omega arith) l h)

-- four slots that were cleared
empty_at : (s vs : List ℕ) (k i : ℕ) → k + 4 ≤ length vs → i < 4 → get_or (read s (four_set vs k 2 2 2 2)) (k + i) none ≡ none
empty_at s vs k i h l =
    rw (clear_read s vs k) (empty_slots (with_context (read s vs) k empty_context) k i (context_put (read s vs) k empty_context (omega (arith, read-long s vs))) l)

module _ {bytes t types : List ℕ} {places : MarkPlaces} {s rs open_marks : List ℕ} {totals : MarkTotals} {f at held sum visits : ℕ} {g : FunctionHandle} {inner less later : ℕ} {u us open_after : List ℕ} {totals-after : MarkTotals}
    (L : Left bytes t types places s rs open_marks totals f at held sum visits g inner less later u us open_after totals-after) where
  abbrev m : Module
  m = module_of bytes t

  abbrev left : List ℕ
  left = left_slots t us g (at + 4) (at + 8)

  -- the records of g
  abbrev from : ℕ
  from = exprs_slot + expressions_from (row_at t g)

  low : stack_slot ≤ at
  low = L.caller.ready.low

  before : items_to (row_at t g) ≤ (row_at t f).items
  before =
      let n = functions_are t bytes in
      let l = L.caller.ready.function in
      earlier t L.caller.ready.was_read.laid g f L.lower (omega arith)

  within : exprs_slot + items_to (row_at t f) ≤ totals_slot
  within = items_within f L.caller.ready.was_read L.caller.ready.function

  own_within : from + (row_at t g).expressions ≤ totals_slot
  own_within = fits g L.callee.ready.was_read L.callee.ready.function

  -- a slot below the contexts of g, and none of its records
  still : (k : ℕ) → globals_slot ≤ k → k < at + 4 → ((e : ℕ) → e < (row_at t g).expressions → from + e ≡ k → ⊥) → get_or (read u left) k none ≡ get_or (read u us) k none
  still k a b e = left_same L.leaving k (omega arith) e (λ i x y. omega arith) (λ i x y. omega arith)

  totals_kept : (k : ℕ) → totals_slot ≤ k → k < stack_slot → get_or (read u left) k none ≡ get_or (read u us) k none
  totals_kept k a b =
      let l = low in
      let w = own_within in
      still k (omega arith) (omega arith) (λ e x y. omega arith)

  stack_back : (k : ℕ) → stack_slot ≤ k → k < at + 4 → get_or (read u left) k none ≡ get_or (read s rs) k none
  stack_back k a b =
      let w = own_within in
      still k (omega arith) b (λ e x y. omega arith) ∙ L.beside.stack k a b

  -- records of functions above g
  higher_back : (k : ℕ) → exprs_slot + items_to (row_at t g) ≤ k → k < totals_slot → get_or (read u left) k none ≡ get_or (read s rs) k none
  higher_back k a b =
      let l = low in
      let n : (e : ℕ) → e < (row_at t g).expressions → from + e ≡ k → ⊥ = λ e x y. omega arith in
      still k (omega arith) (omega arith) n ∙ L.beside.records k (omega arith) b n

  higher_same : (k : ℕ) → exprs_slot + items_to (row_at t g) ≤ k → k < totals_slot → get_or (read u us) k none ≡ get_or (read s rs) k none
  higher_same k a b = L.beside.records k (omega arith) b (λ e x y. omega arith)

  context_back : context_at (read u left) at ≡ context_at (read s rs) at
  context_back =
      let l = low in
      context_same (read s rs) (read u left) at (λ i x. stack_back (at + i) (omega arith) (omega arith))

  caller_records : (qs : List PartReq) → ((k : ℕ) → exprs_slot + items_to (row_at t g) ≤ k → k < totals_slot → get_or qs k none ≡ get_or (read s rs) k none)
      → records_in t exprs_slot f qs ≡ records_in t exprs_slot f (read s rs)
  caller_records qs h =
      let b = before in
      let w = within in
      records_same (read s rs) qs (exprs_slot + expressions_from (row_at t f)) (row_at t f).expressions
      (λ e x. h (exprs_slot + expressions_from (row_at t f) + e) (omega arith) (omega arith))

  marks_back : slice open_after (start_of m f) (stretch m f) ≡ slice open_marks (start_of m f) (stretch m f)
  marks_back =
      let e = ends bytes t places L.caller.ready.was_read L.caller.placed f L.caller.ready.function in
      let o = L.caller.open_long in
      slice-same open_marks open_after (start_of m f) (stretch m f) (omega arith) L.beside.marks_long
      (λ k x. L.beside.marks k (omega (arith, start_within m (suc g) f (omega (arith, L.lower)))))

  globals_left : get_or (read u left) globals_slot none ≡ get_or (read u us) globals_slot none
  globals_left =
      let l = low in
      still globals_slot (omega arith) (omega arith) (λ e x y. omega arith)

  functions_left : functions_in m t (read u left) totals-after ≡ functions_in m t (read u us) totals-after
  functions_left = functions_same (read u us) (read u left) L.caller.ready.was_read totals_kept totals-after

  pub left-state : state_in bytes t u left open_after totals-after f at later
      ≡ back (state_in bytes t s rs open_marks totals f at visits) (state_in bytes t u us open_after totals-after g (at + 8) later)
  left-state = rw (context_back, caller_records (read u left) higher_back, marks_back, globals_left, functions_left)

  -- what belongs to the caller's callers is as it was
  pub left-beside : Beside bytes t f at s rs open_marks u left open_after
  left-beside =
      let b = before in
      record {
        long = left_long t us g (at + 4) (at + 8) ∙ L.beside.long;
        stack = λ k x y. stack_back k x (omega arith);
        records = λ k x y n. higher_back k (omega arith) y;
        marks_long = L.beside.marks_long;
        marks = λ k x. L.beside.marks k (omega (arith, start_within m (suc g) (suc f) (omega (arith, L.lower))));
      }

  -- no function below f has a record: those of g are forgotten
  own_closed : (k : ℕ) → exprs_slot + (row_at t g).items ≤ k → k < exprs_slot + items_to (row_at t g) → get_or (read u left) k none ≡ none
  own_closed k a b =
      elim (dec_lt k from) [
        | yes x ↦ idle_still (λ e i z. omega arith)
        | no x ↦ elim (dec_lt k (from + (row_at t g).expressions)) [
          | yes y ↦ let z : k ≡ from + (k - from) = omega arith in rw z (left_closed L.leaving (k - from) (omega arith))
          | no y ↦ idle_still (λ e i z. omega arith)
        ]
      ]
    where
      idle_still : ((e : ℕ) → e < (row_at t g).expressions → from + e ≡ k → ⊥) → get_or (read u left) k none ≡ none
      idle_still none_there =
          let l = low in
          let c = before in
          let w = within in
          still k (omega arith) (omega arith) none_there ∙ L.beside.records k a (omega arith) none_there ∙ L.caller.closed k (omega arith) (omega arith)

  lower_closed : (k : ℕ) → exprs_slot ≤ k → k < exprs_slot + (row_at t f).items → get_or (read u left) k none ≡ none
  lower_closed k a b =
      let l = low in
      let w = within in
      elim (dec_lt k (exprs_slot + (row_at t g).items)) [
        | yes x ↦ still k (omega arith) (omega arith) (λ e i z. omega arith) ∙ L.callee.closed k a x
        | no x ↦ elim (dec_lt k (exprs_slot + items_to (row_at t g))) [
          | yes y ↦ own_closed k (omega arith) y
          | no y ↦ higher_back k (omega arith) (omega arith) ∙ L.caller.closed k a b
        ]
      ]

  -- no context stands above the caller's: both of g are cleared
  abbrev forgot : List ℕ
  forgot = forgotten (set us returned (get_or us (at + 8 + 2) 0)) from (row_at t g).expressions

  abbrev cleared : List ℕ
  cleared = four_set forgot (at + 4) 2 2 2 2

  forgot-size : length forgot ≡ length us
  forgot-size = forgot_long us forgot returned (get_or us (at + 8 + 2) 0) from (row_at t g).expressions refl

  cleared-size : length cleared ≡ length us
  cleared-size = cleared_long forgot cleared (at + 4) refl ∙ forgot-size

  nothing_above : (k : ℕ) → at + 4 ≤ k → get_or (read u left) k none ≡ none
  nothing_above k a =
      let h = L.callee.ready.high in
      let l = low in
      elim (dec_lt k (at + 8)) [
        | yes x ↦
            let z : k ≡ at + 4 + (k - (at + 4)) = omega arith in
            let e : get_or (read u cleared) k none ≡ none = rw z (empty_at u forgot (at + 4) (k - (at + 4)) (omega (arith, forgot-size)) (omega arith)) in
            rw (clear_read u cleared (at + 8)) (put_below (read u cleared) (at + 8) empty_context k x ∙ e)
        | no x ↦ elim (dec_lt k (at + 12)) [
          | yes y ↦ let z : k ≡ at + 8 + (k - (at + 8)) = omega arith in rw z (empty_at u cleared (at + 8) (k - (at + 8)) (omega (arith, cleared-size)) (omega arith))
          | no y ↦
              let w = own_within in
              left_same L.leaving k (omega arith) (λ e i z. omega arith) (λ i j z. omega arith) (λ i j z. omega arith) ∙ L.callee.above k (omega arith)
        ]
      ]

  -- what g has recorded
  own-pieces : own_in t u us g ≡ record_pieces (records_in t exprs_slot g (read u us))
  own-pieces =
      sym (records_pieces (read u us) from (row_at t g).expressions (records_there t g own_within L.callee.ready.memory))

  -- `new` is the caller's sum again: records of f for those of g
  pub left-standing : {new : ℕ} → new + record_pieces (records_in t exprs_slot g (read u us)) ≡ less + record_pieces (records_in t exprs_slot f (read s rs))
      → Standing bytes t types places u left open_after totals-after f at held new later
  left-standing is =
      let w = L.caller.ready.was_read in
      let c = ap pieces context_back in
      record {
        ready = record {
          was_read = w;
          function = L.caller.ready.function;
          memory = left_memory L.leaving;
          low = low;
          high = omega (arith, L.caller.ready.high, L.beside.long, left_long t us g (at + 4) (at + 8));
          sums = omega (arith, L.callee.ready.sums, ap record_pieces (caller_records (read u us) higher_same), left_sum L.leaving f L.caller.ready.function (λ e. omega (arith, L.lower)));
          owned = omega (arith, L.callee.ready.owned, L.most, own-pieces, left_counts L.leaving (omega arith));
          small = omega (arith, L.callee.ready.small, L.least);
        };
        typed = L.caller.typed;
        placed = L.caller.placed;
        open_long = L.callee.open_long;
        totals-sum = rw (functions_left, totals_same (read u us) (read u left) w totals_kept) L.callee.totals-sum;
        unwalked = unwalked_kept (read u us) (read u left) w totals_kept totals-after L.callee.unwalked;
        proper = rw left-state
            (record {
              context = L.caller.proper.context;
              exprs = L.caller.proper.exprs;
              marks = L.caller.proper.marks;
              globals = L.callee.proper.globals;
              functions = L.callee.proper.functions;
              visits = L.callee.proper.visits;
            });
        closed = lower_closed;
        above = nothing_above;
      }

-- What a call leaves of the caller as g begins.
module _ {bytes t types : List ℕ} {places : MarkPlaces} {s rs open_marks : List ℕ} {totals : MarkTotals} {f at held sum visits : ℕ} (S : Standing bytes t types places s rs open_marks totals f at held sum visits) where
  pub beside_entered : {g : FunctionHandle} {base : RequiredContext} {u us cleared : List ℕ} → g < f → Saved s rs (at + 4) base u us
      → cleared ≡ write_marks open_marks (start_in places.starts g) (replicate (size_in places.starts g) 0) → Beside bytes t g (at + 4) s rs open_marks u us cleared
  beside_entered {g} {base} {u} {us} lower d marks =
      let l = S.ready.low in
      let there = S.ready.function in
      let one : g + 1 ≡ suc g = omega arith in
      let zeros : List ℕ = replicate (size_in places.starts g) 0 in
      let under : (k : ℕ) → k < at + 4 → get_or (read u us) k none ≡ get_or (read s rs) k none = λ k x. rw d.reads (put_below (read s rs) (at + 4) base k x) in
      record {
        long = d.long;
        stack = λ k x y. under k y;
        records = λ k x y n. under k (omega arith);
        marks_long = ap length marks ∙ write_long open_marks (start_in places.starts g) zeros;
        marks = λ k x.
            rw marks
            (write_after open_marks (start_in places.starts g) zeros k
            (omega (
              arith,
              length-replicate {A = ℕ} (size_in places.starts g) 0,
              S.placed.starts g (omega arith),
              S.placed.starts (g + 1) (omega arith),
              start_within (module_of bytes t) g (g + 1) (omega arith),
              ap (start_of (module_of bytes t)) one,
            )));
      }
