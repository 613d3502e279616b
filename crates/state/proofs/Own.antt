-- A store into one of the state's own slots: a map of the current context, the total of globals, or a record. What the state is then, and what
-- records, totals and the context count for. The slots of each sort lie apart, so that a store changes one of them and leaves the others.
use Prim.Native.Nat.{ℕ, ◌+◌, ◌*◌, ◌<◌, ◌≤◌}
use native.Mathlib.Omega.{arith}
use mathlib.Core.Path.{◌≡◌, ap}
use mathlib.Core.List.{List}
use lib.ListN.{length, get_or, set}
use lib.Seq.{get_or-set_same, get_or-set_other}
use Rattle.field.specs.Limits.{max_functions}
use Rattle.part.specs.PartReq.{PartReq, none, more, entries}
use Rattle.module.specs.Module.{FunctionHandle, ExpressionHandle}
use Rattle.module.specs.Tables.{row_at, expressions_from, max_items, module_of}
use Rattle.access.proofs.Access.{functions_are}
use Rattle.context.specs.RequiredContext.{pieces}
use Rattle.walk.specs.State.{with_context, with_globals, record_pieces}
use Rattle.walk.specs.Expression.{with_args, with_locals, with_global_entries, recorded}
use Rattle.memory.specs.Layout.{globals_slot, exprs_slot, totals_slot, functions_slot, stack_slot}
use Rattle.memory.specs.Memory.{read, Recorded, context_at, Memory}
use Rattle.memory.proofs.Slots.{read_at, sum_outside, sum_set, slot_low}
use Rattle.memory.proofs.Records.{records_outside, records_set, records_pieces, record_present}
use Rattle.memory.proofs.Runs.{context_pieces}
use Rattle.state.specs.State.{Rest, records_in, totals_sum, state_of, sum_in}
use Rattle.access.specs.Laid.{WasRead}

-- the slot of the record of e
abbrev pub record_slot : List ℕ → FunctionHandle → ExpressionHandle → ℕ
record_slot t f e = exprs_slot + expressions_from (row_at t f) + e

-- the slots of the records of f lie before those of the totals
abbrev pub Fits : List ℕ → FunctionHandle → Type 0
Fits t f = exprs_slot + expressions_from (row_at t f) + (row_at t f).expressions ≤ totals_slot

pub fits : {bytes t : List ℕ} (f : FunctionHandle) → WasRead bytes t → f < length (module_of bytes t).functions → Fits t f
fits {bytes} {t} f w l =
    let h = w.laid.within f (rw (functions_are t bytes) l) in
    omega arith

-- the totals are changed by no such store
module _ (ps : List PartReq) (k : ℕ) (q : PartReq) where
  totals_outside : (totals_slot ≤ k → k < stack_slot → ⊥) → totals_sum (set ps k q) ≡ totals_sum ps
  totals_outside h =
      rw (sum_outside ps k q totals_slot max_items (λ j l e. h (omega arith) (omega arith)), sum_outside ps k q functions_slot (4 * max_functions) (λ j l e. h (omega arith) (omega arith)))

-- a map of the context
module _ (t : List ℕ) (f at : ℕ) (ps : List PartReq) (q : PartReq) (room : Fits t f) (low : stack_slot ≤ at) (high : at + 4 ≤ length ps) where
  records_same : (i : ℕ) → records_in t exprs_slot f (set ps (at + i) q) ≡ records_in t exprs_slot f ps
  records_same i = records_outside ps (exprs_slot + expressions_from (row_at t f)) (row_at t f).expressions (at + i) q (λ e l z. omega arith)

  total_same : (i : ℕ) → get_or (set ps (at + i) q) globals_slot none ≡ get_or ps globals_slot none
  total_same i = get_or-set_other ps (at + i) globals_slot q none (omega arith)

  other : (i j : ℕ) → (j ≡ i → ⊥) → get_or (set ps (at + i) q) (at + j) none ≡ get_or ps (at + j) none
  other i j h = get_or-set_other ps (at + i) (at + j) q none (λ z. h (omega arith))

  here : (i : ℕ) → i < 4 → get_or (set ps (at + i) q) (at + i) none ≡ q
  here i h = let l : at + i < length ps = omega arith in get_or-set_same ps (at + i) q none l

  first_is : at + 0 ≡ at
  first_is = omega arith

  pub state_locals : (rest : Rest) (v : ℕ) → state_of t f at (set ps (at + 1) q) rest v ≡ with_context (with_locals q (context_at ps at)) (state_of t f at ps rest v)
  state_locals rest v =
      rw (records_same 1, total_same 1, here 1 (omega arith), other 1 2 (omega arith), other 1 3 (omega arith), (rw first_is at (other 1 0 (omega arith))))

  pub state_args : (rest : Rest) (v : ℕ) → state_of t f at (set ps (at + 2) q) rest v ≡ with_context (with_args q (context_at ps at)) (state_of t f at ps rest v)
  state_args rest v =
      rw (records_same 2, total_same 2, here 2 (omega arith), other 2 1 (omega arith), other 2 3 (omega arith), (rw first_is at (other 2 0 (omega arith))))

  pub state_entries : (rest : Rest) (v : ℕ) → state_of t f at (set ps at q) rest v ≡ with_context (with_global_entries q (context_at ps at)) (state_of t f at ps rest v)
  state_entries rest v =
      rw (
        rw first_is at (records_same 0),
        rw first_is at (total_same 0),
        rw first_is at (here 0 (omega arith)),
        rw first_is at (other 0 1 (omega arith)),
        rw first_is at (other 0 2 (omega arith)),
        rw first_is at (other 0 3 (omega arith)),
      )

  pub map_sum : (i : ℕ) → i < 4 → sum_in t f (set ps (at + i) q) ≡ sum_in t f ps
  map_sum i h = rw (records_same i, total_same i, totals_outside ps (at + i) q (λ a b. omega arith))

  pub map_pieces : (i : ℕ) → i < 4 → pieces (context_at (set ps (at + i) q) at) + entries (get_or ps (at + i) none) ≡ pieces (context_at ps at) + entries q
  map_pieces i h =
      omega (arith, context_pieces (set ps (at + i) q) at, context_pieces ps at, sum_set ps (at + i) q at 4 (omega arith) (omega arith) (omega arith))

-- the total of globals
module _ (t : List ℕ) (f at : ℕ) (ps : List PartReq) (q : PartReq) (low : stack_slot ≤ at) (l : globals_slot < length ps) where
  pub context_apart : context_at (set ps globals_slot q) at ≡ context_at ps at
  context_apart =
      rw (
        get_or-set_other ps globals_slot at q none (omega arith),
        get_or-set_other ps globals_slot (at + 1) q none (omega arith),
        get_or-set_other ps globals_slot (at + 2) q none (omega arith),
        get_or-set_other ps globals_slot (at + 3) q none (omega arith),
      )

  records_apart : records_in t exprs_slot f (set ps globals_slot q) ≡ records_in t exprs_slot f ps
  records_apart = records_outside ps (exprs_slot + expressions_from (row_at t f)) (row_at t f).expressions globals_slot q (λ e l z. omega arith)

  pub state_total : (rest : Rest) (v : ℕ) → state_of t f at (set ps globals_slot q) rest v ≡ with_globals q (state_of t f at ps rest v)
  state_total rest v = rw (context_apart, records_apart, get_or-set_same ps globals_slot q none l)

  pub total_sum : sum_in t f (set ps globals_slot q) + entries (get_or ps globals_slot none) ≡ sum_in t f ps + entries q
  total_sum =
      omega (
        arith,
        ap record_pieces records_apart,
        ap entries (get_or-set_same ps globals_slot q none l),
        totals_outside ps globals_slot q (λ a b. omega arith),
      )

  pub total-pieces : pieces (context_at (set ps globals_slot q) at) ≡ pieces (context_at ps at)
  total-pieces = ap pieces context_apart

-- a record
module _ (t : List ℕ) (f at e : ℕ) (ps : List PartReq) (room : Fits t f) (low : stack_slot ≤ at) (l : stack_slot ≤ length ps) (there : e < (row_at t f).expressions) where
  record_there : record_slot t f e < length ps
  record_there = omega arith

  module _ (q : PartReq) where
    context_kept : context_at (set ps (record_slot t f e) q) at ≡ context_at ps at
    context_kept =
        rw (
          get_or-set_other ps (record_slot t f e) at q none (omega arith),
          get_or-set_other ps (record_slot t f e) (at + 1) q none (omega arith),
          get_or-set_other ps (record_slot t f e) (at + 2) q none (omega arith),
          get_or-set_other ps (record_slot t f e) (at + 3) q none (omega arith),
        )

    pub record-pieces : pieces (context_at (set ps (record_slot t f e) q) at) ≡ pieces (context_at ps at)
    record-pieces = ap pieces context_kept

    total_kept : get_or (set ps (record_slot t f e) q) globals_slot none ≡ get_or ps globals_slot none
    total_kept = get_or-set_other ps (record_slot t f e) globals_slot q none (omega arith)

    -- where all slots of records have one
    pub record_sum : ((k : ℕ) → k < (row_at t f).expressions → Recorded (get_or ps (record_slot t f k) none))
        → ((k : ℕ) → k < (row_at t f).expressions → Recorded (get_or (set ps (record_slot t f e) q) (record_slot t f k) none))
        → sum_in t f (set ps (record_slot t f e) q) + entries (get_or ps (record_slot t f e) none) ≡ sum_in t f ps + entries q
    record_sum old new =
        omega (
          arith,
          records_pieces (set ps (record_slot t f e) q) (exprs_slot + expressions_from (row_at t f)) (row_at t f).expressions new,
          records_pieces ps (exprs_slot + expressions_from (row_at t f)) (row_at t f).expressions old,
          sum_set ps (record_slot t f e) q (exprs_slot + expressions_from (row_at t f)) (row_at t f).expressions record_there (omega arith) (omega arith),
          ap entries total_kept,
          totals_outside ps (record_slot t f e) q (λ a b. omega arith),
        )

  pub state_record : (p : PartReq) (rest : Rest) (v : ℕ) → state_of t f at (set ps (record_slot t f e) (more 0 p none)) rest v ≡ recorded e p (state_of t f at ps rest v)
  state_record p rest v =
      rw (
        context_kept (more 0 p none),
        total_kept (more 0 p none),
        records_set ps (exprs_slot + expressions_from (row_at t f)) (row_at t f).expressions e (more 0 p none) record_there there,
        record_present p,
      )

-- the slots of the records of f have records
pub records_there : {s rs : List ℕ} (t : List ℕ) (f : FunctionHandle) → Fits t f → Memory s rs → (k : ℕ) → k < (row_at t f).expressions → Recorded (get_or (read s rs) (record_slot t f k) none)
records_there {s} {rs} t f room m k l =
    let h = (slot_low m (record_slot t f k) (omega arith)).0 in
    rw (read_at s rs (record_slot t f k) h) (m.records (record_slot t f k) (omega arith) (omega arith))
