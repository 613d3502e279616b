-- What the slots of a total count for, by two sums of slots: those of its records, and those of its context.
use Prim.Native.Nat.{ℕ, ◌+◌, ◌*◌, ◌≤◌}
use native.Mathlib.Omega.{arith}
use mathlib.Core.Path.{◌≡◌, sym}
use mathlib.Core.List.{List}
use lib.ListN.{length}
use Rattle.part.specs.StoreLimits.{entries_cap}
use Rattle.module.specs.Module.{FunctionHandle}
use Rattle.module.specs.Tables.{row_at, expressions_from, items_to}
use Rattle.walk.specs.State.{record_pieces}
use Rattle.memory.specs.Layout.{totals_slot, functions_slot}
use Rattle.memory.specs.Memory.{read, sum_from, Memory}
use Rattle.memory.proofs.Slots.{read_at, slot_low}
use Rattle.memory.proofs.Records.{records_pieces}
use Rattle.memory.proofs.Runs.{context_pieces}
use Rattle.state.specs.State.{records_in}
use Rattle.leave.specs.Leave.{RecordsAt}
use Rattle.leave.specs.declared.leave.Stretch.{Stretch}
use Rattle.block.specs.Total.{total_count, Weighing}

module _ {t s rs : List ℕ} {f : FunctionHandle} {r : Stretch} (W : Weighing t s rs f) (R : RecordsAt t f r) where
  abbrev place : ℕ
  place = totals_slot + expressions_from (row_at t f)

  inside : totals_slot + items_to (row_at t f) ≤ functions_slot
  inside = omega (arith, W.items)

  records_sum : sum_from (read s rs) (totals_slot + r.from) r.n ≡ record_pieces (records_in t totals_slot f (read s rs))
  records_sum =
      let i = inside in
      rw (R.from, R.n)
      (sym
      (records_pieces (read s rs) place (row_at t f).expressions
      (λ e l.
      let h = (slot_low W.memory (place + e) (omega arith)).0 in
      rw (read_at s rs (place + e) h) (W.memory.records (place + e) (omega arith) (omega arith)))))

  pub records_weighed : Memory s rs × ((totals_slot + r.from + r.n ≤ length rs) × (sum_from (read s rs) (totals_slot + r.from) r.n ≤ entries_cap))
  records_weighed =
      let i = inside in
      (W.memory, (omega (arith, W.memory.slots, R.from, R.n), omega (arith, records_sum, W.few)))

  pub context_weighed : Memory s rs × ((functions_slot + 4 * f + 4 ≤ length rs) × (sum_from (read s rs) (functions_slot + 4 * f) 4 ≤ entries_cap))
  context_weighed = (W.memory, (omega (arith, W.memory.slots, W.function), omega (arith, context_pieces (read s rs) (functions_slot + 4 * f), W.few)))

  pub total_weighed : {a b : ℕ} → a ≡ sum_from (read s rs) (totals_slot + r.from) r.n → b ≡ sum_from (read s rs) (functions_slot + 4 * f) 4 → a + b ≡ total_count t f (read s rs)
  total_weighed e g = omega (arith, records_sum, context_pieces (read s rs) (functions_slot + 4 * f))
