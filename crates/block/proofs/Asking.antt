-- A state that stands can be put into the totals: the slots of the total of f are among those that are counted, so that there is room for a join.
use Prim.Native.Nat.{ℕ, ◌+◌, ◌-◌, ◌*◌, ◌<◌, ◌≤◌}
use native.Mathlib.Nat.{le_refl}
use native.Mathlib.Omega.{arith}
use mathlib.Core.Path.{◌≡◌, ap}
use mathlib.Core.List.{List}
use Rattle.field.specs.Limits.{max_functions, max_pieces, min_report}
use Rattle.part.specs.PartReq.{PartReq}
use Rattle.part.specs.Store.{Room}
use Rattle.module.specs.Tables.{row_at, expressions_from, items_to, max_items, module_of}
use Rattle.access.proofs.Access.{functions_are}
use Rattle.valid.proofs.Accepted.{valid}
use Rattle.memory.specs.Layout.{totals_slot, functions_slot, room}
use Rattle.memory.specs.Memory.{read, sum_from}
use Rattle.memory.proofs.Slots.{sum_split}
use Rattle.memory.proofs.Records.{records_pieces}
use Rattle.memory.proofs.Runs.{context_pieces}
use Rattle.marks.proofs.Buffers.{inside}
use Rattle.marks.specs.declared.places.MarkPlaces.{MarkPlaces}
use Rattle.marks.specs.declared.totals.MarkTotals.{MarkTotals}
use Rattle.block.specs.Standing.{Standing}
use Rattle.block.specs.Blocks.{context_in}
use Rattle.block.specs.Total.{total_count}
use Rattle.block.specs.AddTotal.{TotalAsked}
use Rattle.block.proofs.Keeping.{totals_recorded}

-- a stretch of slots counts for no more than one that has it
stretch_within : (ps : List PartReq) (a n b k : ℕ) → a ≤ b → b + k ≤ a + n → sum_from ps b k ≤ sum_from ps a n
stretch_within ps a n b k l h =
    let e : n ≡ (b - a) + (k + (n - (b - a) - k)) = omega arith in
    let f : a + (b - a) ≡ b = omega arith in
    omega (
      arith,
      ap (λ (x : ℕ). sum_from ps a x) e,
      sum_split ps a (b - a) (k + (n - (b - a) - k)),
      ap (λ (x : ℕ). sum_from ps x (k + (n - (b - a) - k))) f,
      sum_split ps b k (n - (b - a) - k),
    )

module _ {bytes t types : List ℕ} {places : MarkPlaces} {s rs open_marks : List ℕ} {totals : MarkTotals} {f at held sum visits : ℕ} (S : Standing bytes t types places s rs open_marks totals f at held sum visits) where
  few : f < max_functions
  few = let l = S.ready.function in omega (arith, (valid bytes (module_of bytes t) S.ready.was_read.module_is).few_functions)

  items : items_to (row_at t f) ≤ max_items
  items = S.ready.was_read.laid.within f (rw (functions_are t bytes) S.ready.function)

  pub total_counted : total_count t f (read s rs) ≤ sum
  total_counted =
      let i = items in
      let l = few in
      let from = totals_slot + expressions_from (row_at t f) in
      let n = (row_at t f).expressions in
      omega (
        arith,
        S.ready.sums,
        records_pieces (read s rs) from n (λ e x. totals_recorded S.ready.memory (from + e) (omega arith) (omega arith)),
        context_pieces (read s rs) (functions_slot + 4 * f),
        stretch_within (read s rs) totals_slot max_items from n (omega arith) (omega arith),
        stretch_within (read s rs) functions_slot (4 * max_functions) (functions_slot + 4 * f) 4 (omega arith) (omega arith),
      )

  pub total_asked : context_in s rs at ≤ 2 * max_pieces → sum ≤ 2 * max_pieces → Room s room → TotalAsked bytes t places.starts s rs open_marks f at sum
  total_asked small less roomy =
      let c = total_counted in
      let w = S.ready.was_read in
      record {
        adding = record {
          totalling = record { function = few; items = items; low = S.ready.low; high = S.ready.high };
          weighing = record { memory = S.ready.memory; function = few; items = items; few = omega arith };
          inside = inside bytes t places w S.placed f min_report S.ready.function (le_refl min_report);
          open_long = S.open_long;
          old = c;
          few = omega (arith, S.ready.sums);
        };
        was_read = w;
        function = S.ready.function;
        roomy = omega arith;
      }
