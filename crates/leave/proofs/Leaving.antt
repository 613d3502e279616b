-- A function that is left: every slot but those written means what it meant; what 16 counts, and the caller's sum, by the stretches that were emptied.
use Prim.Native.Nat.{ℕ, zero, suc, ◌+◌, ◌-◌, ◌*◌, ◌<◌, ◌≤◌}
use native.Mathlib.Omega.{arith}
use mathlib.Core.Path.{◌≡◌, refl, sym, ap, ◌∙◌}
use mathlib.Core.List.{List}
use lib.ListN.{length, get_or, set, length-set}
use lib.Seq.{get_or-set_same, get_or-set_other}
use native.Mathlib.Decide.{ℕ_discrete}
use Rattle.field.specs.Limits.{max_functions}
use Rattle.part.specs.PartReq.{PartReq, none, entries}
use Rattle.part.specs.Store.{top, part}
use Rattle.part.specs.StoreLimits.{entries_cap}
use Rattle.part.proofs.Pieces.{part-2}
use Rattle.module.specs.Tables.{row_at, expressions_from, max_items, module_of}
use Rattle.module.specs.declared.tables.Row.{Row}
use Rattle.context.specs.RequiredContext.{pieces}
use Rattle.walk.specs.State.{record_pieces}
use Rattle.memory.specs.Layout.{globals_slot, exprs_slot, totals_slot, functions_slot, stack_slot, returned}
use Rattle.memory.specs.Memory.{read, sum_from, counted, context_at, Memory}
use Rattle.memory.specs.Stretches.{four_set, forgotten}
use Rattle.memory.proofs.Slots.{read_at, read-long, read_set, sum_outside, hold_memory}
use Rattle.memory.proofs.Runs.{four_outside, four_memory, sum_context, clear_read, forgotten-long, forgotten-outside, forgotten-memory, four_long, read-still, context_same, records_same}
use Rattle.access.proofs.Access.{functions_are}
use Rattle.access.proofs.Laid.{number_once}
use Rattle.state.specs.State.{records_in, sum_in}
use Rattle.state.proofs.Others.{sum_same}
use Rattle.state.proofs.Own.{fits}
use Rattle.leave.specs.Leave.{RecordsAt, Placed, own_in, left_slots, Leaving}
use Rattle.leave.proofs.Sums.{sum_stretch, sum_empty}
use Rattle.leave.specs.declared.leave.Stretch.{Stretch}

-- the records of a function, by its row
pub records_are : (t : List ℕ) (f : ℕ) (row : Row) → row ≡ row_at t f → RecordsAt t f (record { from = row.items + row.arguments + row.locals; n = row.expressions })
records_are t f row e = rw e (record { from = refl; n = refl })

-- their slots
module _ {t : List ℕ} {f : ℕ} {r : Stretch} (o : RecordsAt t f r) where
  own_fit : {rs : List ℕ} → Placed t rs f → exprs_slot + r.from + r.n ≤ length rs
  own_fit p =
      let x = p.records in
      let y = p.slots in
      let a = o.from in
      let b = o.n in
      omega arith

  pub weigh_own : {s rs : List ℕ} → Memory s rs → Placed t rs f → own_in t s rs f ≤ entries_cap
      → Memory s rs × ((exprs_slot + r.from + r.n ≤ length rs) × (sum_from (read s rs) (exprs_slot + r.from) r.n ≤ entries_cap))
  weigh_own m p h = (m, (own_fit p, rw (o.from, o.n) h))

  pub own_is : (s rs : List ℕ) (k : ℕ) → k ≡ sum_from (read s rs) (exprs_slot + r.from) r.n → k ≡ own_in t s rs f
  own_is s rs k e = e ∙ rw (o.from, o.n)

  pub forget_fit : {rs : List ℕ} (k x : ℕ) → Placed t rs f → exprs_slot + r.from + r.n ≤ length (set rs k x)
  forget_fit {rs} k x p = omega (arith, own_fit p, length-set rs k x)

  pub left_is : (rs us vs ws : List ℕ) (base at : ℕ) → us ≡ forgotten (set rs returned (get_or rs (at + 2) 0)) (exprs_slot + r.from) r.n → vs ≡ four_set us base 2 2 2 2 → ws ≡ four_set vs at 2 2 2 2 → ws ≡ left_slots t rs f base at
  left_is rs us vs ws base at a b c = c ∙ rw (b, a, o.from, o.n)

-- no such step changes how many slots there are
pub forgot_long : (rs us : List ℕ) (k x from n : ℕ) → us ≡ forgotten (set rs k x) from n → length us ≡ length rs
forgot_long rs us k x from n e = ap length e ∙ forgotten-long (set rs k x) from n ∙ length-set rs k x

pub cleared_long : (us vs : List ℕ) (at : ℕ) → vs ≡ four_set us at 2 2 2 2 → length vs ≡ length us
cleared_long us vs at e = ap length e ∙ four_long us at 2 2 2 2

pub left_long : (t rs : List ℕ) (f base at : ℕ) → length (left_slots t rs f base at) ≡ length rs
left_long t rs f base at =
    let first = exprs_slot + expressions_from (row_at t f) in
    let n = (row_at t f).expressions in
    let us = forgotten (set rs returned (get_or rs (at + 2) 0)) first n in
    four_long (four_set us base 2 2 2 2) at 2 2 2 2 ∙ four_long us base 2 2 2 2 ∙ forgot_long rs us returned (get_or rs (at + 2) 0) first n refl

-- a record that is forgotten
forgotten-slot : (rs : List ℕ) (from : ℕ) (s : List ℕ) (n : ℕ) → from + n ≤ length rs → (e : ℕ) → e < n → get_or (read s (forgotten rs from n)) (from + e) none ≡ none
unfolding forgotten
forgotten-slot rs from s zero b e h = absurd (omega arith)
forgotten-slot rs from s (suc n) b e h =
    elim (ℕ_discrete e n) [
      | yes i ↦
          let k : from + n < length (read s (forgotten rs from n)) = omega (arith, read-long s (forgotten rs from n), forgotten-long rs from n) in
          rw (i, read_set s (forgotten rs from n) (from + n) 2) (get_or-set_same (read s (forgotten rs from n)) (from + n) (part s 2) none k ∙ part-2 s)
      | no i ↦
          rw (read_set s (forgotten rs from n) (from + n) 2)
          (get_or-set_other (read s (forgotten rs from n)) (from + n) (from + e) (part s 2) none (omega arith) ∙ forgotten-slot rs from s n (omega arith) e (omega arith))
    ]

-- the function ends
module _ {bytes t s rs : List ℕ} {f base at : ℕ} (d : Leaving bytes t s rs f base at) where
  abbrev from : ℕ
  from = exprs_slot + expressions_from (row_at t f)

  abbrev n : ℕ
  n = (row_at t f).expressions

  abbrev held : List ℕ
  held = set rs returned (get_or rs (at + 2) 0)

  abbrev forgot : List ℕ
  forgot = forgotten held from n

  abbrev cleared : List ℕ
  cleared = four_set forgot base 2 2 2 2

  room : from + n ≤ totals_slot
  room = fits f d.was_read d.function

  forgot-size : length forgot ≡ length rs
  forgot-size = forgot_long rs forgot returned (get_or rs (at + 2) 0) from n refl

  cleared-size : length cleared ≡ length rs
  cleared-size = four_long forgot base 2 2 2 2 ∙ forgot-size

  args_is : get_or (read s rs) (at + 2) none ≡ part s (get_or rs (at + 2) 0)
  args_is = let h = d.high in read_at s rs (at + 2) (omega arith)

  -- a slot that no context takes
  past : (k : ℕ) → ((i : ℕ) → i < 4 → base + i ≡ k → ⊥) → ((i : ℕ) → i < 4 → at + i ≡ k → ⊥) → get_or (left_slots t rs f base at) k 0 ≡ get_or forgot k 0
  past k a b = four_outside cleared at 2 2 2 2 0 k b ∙ four_outside forgot base 2 2 2 2 0 k a

  pub left_same : (k : ℕ) → (k ≡ returned → ⊥) → ((e : ℕ) → e < n → from + e ≡ k → ⊥) → ((i : ℕ) → i < 4 → base + i ≡ k → ⊥) → ((i : ℕ) → i < 4 → at + i ≡ k → ⊥)
      → get_or (read s (left_slots t rs f base at)) k none ≡ get_or (read s rs) k none
  left_same k r e a b =
      read-still s rs (left_slots t rs f base at) k (left_long t rs f base at)
      (past k a b ∙ forgotten-outside held from n k e ∙ get_or-set_other rs returned k (get_or rs (at + 2) 0) 0 r)

  pub left_returned : get_or (read s (left_slots t rs f base at)) returned none ≡ get_or (read s rs) (at + 2) none
  left_returned =
      let x = d.base_low in
      let y = d.low in
      let z = d.memory.slots in
      let i : returned < length rs = omega arith in
      let j : returned < length (left_slots t rs f base at) = omega (arith, left_long t rs f base at) in
      read_at s (left_slots t rs f base at) returned j
      ∙ ap (part s) (past returned (λ k u v. omega arith) (λ k u v. omega arith) ∙ forgotten-outside held from n returned (λ k u v. omega arith) ∙ get_or-set_same rs returned (get_or rs (at + 2) 0) 0 i)
      ∙ sym args_is

  pub left_memory : Memory s (left_slots t rs f base at)
  left_memory =
      let x = d.base_low in
      let y = d.low in
      let z = d.memory.slots in
      let p = d.base_high in
      let q = d.high in
      let r = room in
      let two : 2 < top s = omega (arith, d.memory.good.base) in
      let m0 = hold_memory {k = returned} {r = get_or rs (at + 2) 0} d.memory (omega arith) (omega arith) (d.memory.below (at + 2) (omega arith)) (rw (← args_is) d.few) (rw (← args_is) d.within) in
      let m1 = forgotten-memory from m0 (omega arith) n (omega (arith, length-set rs returned (get_or rs (at + 2) 0))) in
      let m2 = four_memory base 2 2 2 2 m1 (omega arith) (omega (arith, forgot-size)) (two, (two, (two, two))) in
      four_memory at 2 2 2 2 m2 (omega arith) (omega (arith, cleared-size)) (two, (two, (two, two)))

  -- no record of f is left
  pub left_closed : (e : ℕ) → e < n → get_or (read s (left_slots t rs f base at)) (from + e) none ≡ none
  left_closed e h =
      let x = d.base_low in
      let y = d.low in
      let z = d.memory.slots in
      let r = room in
      let fit : from + n ≤ length held = omega (arith, length-set rs returned (get_or rs (at + 2) 0)) in
      let i : from + e < length (left_slots t rs f base at) = omega (arith, left_long t rs f base at) in
      let j : from + e < length forgot = omega (arith, forgot-size) in
      read_at s (left_slots t rs f base at) (from + e) i
      ∙ ap (part s) (past (from + e) (λ k u v. omega arith) (λ k u v. omega arith))
      ∙ sym (read_at s forgot (from + e) j)
      ∙ forgotten-slot held from s n fit e h

  -- what 16 counts: the records of f and its two contexts no more
  module _ (apart : base + 4 ≤ at) where
    abbrev size : ℕ
    size = length rs - globals_slot

    held-sum : sum_from (read s held) globals_slot size ≡ sum_from (read s rs) globals_slot size
    held-sum =
        ap (λ (ps : List PartReq). sum_from ps globals_slot size) (read_set s rs returned (get_or rs (at + 2) 0))
        ∙ sum_outside (read s rs) returned (part s (get_or rs (at + 2) 0)) globals_slot size (λ j l e. omega arith)

    held-own : sum_from (read s held) from n ≡ own_in t s rs f
    held-own =
        ap (λ (ps : List PartReq). sum_from ps from n) (read_set s rs returned (get_or rs (at + 2) 0))
        ∙ sum_outside (read s rs) returned (part s (get_or rs (at + 2) 0)) from n (λ j l e. omega arith)

    forgot-own : sum_from (read s forgot) from n ≡ 0
    forgot-own =
        let z = d.memory.slots in
        let r = room in
        sum_empty (read s forgot) from n (λ e h. forgotten-slot held from s n (omega (arith, length-set rs returned (get_or rs (at + 2) 0))) e h)

    forgot-sum : sum_from (read s forgot) globals_slot size + own_in t s rs f ≡ sum_from (read s rs) globals_slot size
    forgot-sum =
        let z = d.memory.slots in
        let r = room in
        let a = held-sum in
        let b = held-own in
        let c = forgot-own in
        omega (
          arith,
          sum_stretch (read s held) (read s forgot) globals_slot size from n (omega arith) (omega arith)
              (λ j x y h. read-still s held forgot j (forgotten-long held from n) (forgotten-outside held from n j (λ e u v. h (omega arith) (omega arith)))),
        )

    forgot-context : (k : ℕ) → stack_slot ≤ k → context_at (read s forgot) k ≡ context_at (read s rs) k
    forgot-context k l =
        let r = room in
        context_same (read s rs) (read s forgot) k
        (λ i j. read-still s rs forgot (k + i) forgot-size (forgotten-outside held from n (k + i) (λ e u v. omega arith) ∙ get_or-set_other rs returned (k + i) (get_or rs (at + 2) 0) 0 (omega arith)))

    cleared-context : context_at (read s cleared) at ≡ context_at (read s rs) at
    cleared-context =
        context_same (read s forgot) (read s cleared) at (λ i j. read-still s forgot cleared (at + i) (four_long forgot base 2 2 2 2) (four_outside forgot base 2 2 2 2 0 (at + i) (λ k u v. omega arith)))
        ∙ forgot-context at d.low

    emptied : (vs : List ℕ) (k : ℕ) → stack_slot ≤ k → k + 4 ≤ length rs → length vs ≡ length rs → sum_from (read s (four_set vs k 2 2 2 2)) globals_slot size + pieces (context_at (read s vs) k) ≡ sum_from (read s vs) globals_slot size
    unfolding pieces entries
    emptied vs k a b l =
        omega (
          arith,
          ap (λ (ps : List PartReq). sum_from ps globals_slot size) (clear_read s vs k),
          sum_context (read s vs) k (record { globals = none; locals = none; args = none; retval = none }) globals_slot size (omega (arith, read-long s vs)) (omega arith) (omega arith),
        )

    pub left_counts : counted (read s (left_slots t rs f base at)) + (own_in t s rs f + (pieces (context_at (read s rs) base) + pieces (context_at (read s rs) at))) ≡ counted (read s rs)
    left_counts =
        omega (
          arith,
          ap (λ (k : ℕ). sum_from (read s (left_slots t rs f base at)) globals_slot (k - globals_slot)) (read-long s (left_slots t rs f base at) ∙ left_long t rs f base at),
          ap (λ (k : ℕ). sum_from (read s rs) globals_slot (k - globals_slot)) (read-long s rs),
          emptied cleared at d.low d.high cleared-size,
          emptied forgot base d.base_low d.base_high forgot-size,
          forgot-sum,
          ap pieces cleared-context,
          ap pieces (forgot-context base d.base_low),
        )

-- The sum of a caller h, from that of f and back: records of f for those of h.
module _ {bytes t s rs : List ℕ} {f base at : ℕ} (d : Leaving bytes t s rs f base at) (h : ℕ) (hh : h < length (module_of bytes t).functions) (ne : h ≡ f → ⊥) where
  caller_records : records_in t exprs_slot h (read s (left_slots t rs f base at)) ≡ records_in t exprs_slot h (read s rs)
  caller_records =
      let x = d.base_low in
      let y = d.low in
      let r = fits h d.was_read hh in
      records_same (read s rs) (read s (left_slots t rs f base at)) (exprs_slot + expressions_from (row_at t h)) (row_at t h).expressions
      (λ e l.
      left_same d (exprs_slot + expressions_from (row_at t h) + e) (omega arith)
      (λ k j z. absurd (ne (sym (number_once t d.was_read.laid f h k e (rw (functions_are t bytes) d.function) (rw (functions_are t bytes) hh) j l (omega arith)).0)))
      (λ i j z. omega arith) (λ i j z. omega arith))

  still : (k : ℕ) → globals_slot ≤ k → (exprs_slot ≤ k → totals_slot ≤ k) → k < stack_slot → get_or (read s (left_slots t rs f base at)) k none ≡ get_or (read s rs) k none
  still k a b c =
      let x = d.base_low in
      let y = d.low in
      let r = fits f d.was_read d.function in
      left_same d k (omega arith) (λ e i j. let q = b (omega arith) in omega arith) (λ i j l. omega arith) (λ i j l. omega arith)

  pub left_sum : sum_in t h (read s (left_slots t rs f base at)) + record_pieces (records_in t exprs_slot f (read s rs)) ≡ sum_in t f (read s rs) + record_pieces (records_in t exprs_slot h (read s rs))
  left_sum =
      omega (
        arith,
        ap record_pieces caller_records,
        ap entries (still globals_slot (omega arith) (λ z. omega arith) (omega arith)),
        sum_same (read s (left_slots t rs f base at)) (read s rs) totals_slot max_items (λ j l. still (totals_slot + j) (omega arith) (λ z. omega arith) (omega arith)),
        sum_same (read s (left_slots t rs f base at)) (read s rs) functions_slot (4 * max_functions) (λ j l. still (functions_slot + j) (omega arith) (λ z. omega arith) (omega arith)),
      )
