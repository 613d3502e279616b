-- Another context in the slots of the current one: what the state is then, and what else stays as it was.
use Prim.Native.Nat.{ℕ, ◌+◌, ◌-◌, ◌*◌, ◌<◌, ◌≤◌}
use native.Mathlib.Omega.{arith}
use mathlib.Core.Path.{◌≡◌, sym, ap, ◌∙◌}
use mathlib.Core.List.{List}
use lib.ListN.{length, get_or, set}
use Rattle.field.specs.Limits.{max_functions}
use Rattle.part.specs.PartReq.{PartReq, none}
use Rattle.part.specs.StoreLimits.{entries_cap}
use Rattle.module.specs.Tables.{row_at, expressions_from, max_items}
use Rattle.context.specs.RequiredContext.{RequiredContext, pieces}
use Rattle.walk.specs.State as walk
use Rattle.memory.specs.Layout.{globals_slot, exprs_slot, totals_slot, functions_slot, stack_slot}
use Rattle.memory.specs.Memory.{read, sum_from, counted, context_at, with_context, Memory}
use Rattle.memory.proofs.Slots.{read-long}
use Rattle.memory.proofs.Records.{records_outside}
use Rattle.memory.proofs.Runs.{four_outside, context_put, sum_context, four_long}
use Rattle.state.specs.State.{Rest, records_in, totals_sum, state_of}
use Rattle.state.specs.Ready.{Ready, Others}
use Rattle.state.proofs.Own.{Fits}
use Rattle.state.proofs.Others.{sum_same, ready_fits}

-- the memory u us is s rs with the context c in the slots from `at` on
pub record Placed (s rs : List ℕ) (at : ℕ) (c : RequiredContext) (u us : List ℕ) : Type 0 where
  pub memory : Memory u us
  pub reads : read u us ≡ with_context (read s rs) at c
  pub long : length us ≡ length rs

-- the slots
module _ (t : List ℕ) (f at : ℕ) (ps : List PartReq) (c : RequiredContext) (room : Fits t f) (low : stack_slot ≤ at) (high : at + 4 ≤ length ps) where
  outside : (k : ℕ) → ((j : ℕ) → j < 4 → at + j ≡ k → ⊥) → get_or (with_context ps at c) k none ≡ get_or ps k none
  outside k h = four_outside ps at c.globals c.locals c.args c.retval none k h

  records_are : records_in t exprs_slot f (with_context ps at c) ≡ records_in t exprs_slot f ps
  records_are =
      rw (
        apart (set (set (set ps at c.globals) (at + 1) c.locals) (at + 2) c.args) (at + 3) c.retval (omega arith),
        apart (set (set ps at c.globals) (at + 1) c.locals) (at + 2) c.args (omega arith),
        apart (set ps at c.globals) (at + 1) c.locals (omega arith),
        apart ps at c.globals (omega arith),
      )
    where
      apart : (qs : List PartReq) (k : ℕ) (q : PartReq) → stack_slot ≤ k → records_in t exprs_slot f (set qs k q) ≡ records_in t exprs_slot f qs
      apart qs k q l = records_outside qs (exprs_slot + expressions_from (row_at t f)) (row_at t f).expressions k q (λ e b z. omega arith)

  totals_are : totals_sum (with_context ps at c) ≡ totals_sum ps
  totals_are =
      rw (
        sum_same (with_context ps at c) ps totals_slot max_items (λ j l. outside (totals_slot + j) (λ i b z. omega arith)),
        sum_same (with_context ps at c) ps functions_slot (4 * max_functions) (λ j l. outside (functions_slot + j) (λ i b z. omega arith)),
      )

  total_is : get_or (with_context ps at c) globals_slot none ≡ get_or ps globals_slot none
  total_is = outside globals_slot (λ i b z. omega arith)

  long_is : length (with_context ps at c) ≡ length ps
  long_is = four_long ps at c.globals c.locals c.args c.retval

  counted_is : counted (with_context ps at c) + pieces (context_at ps at) ≡ counted ps + pieces c
  counted_is =
      omega (
        arith,
        ap (λ (n : ℕ). sum_from (with_context ps at c) globals_slot (n - globals_slot)) long_is,
        sum_context ps at c globals_slot (length ps - globals_slot) high (omega arith) (omega arith),
      )

module _ {bytes t s rs : List ℕ} {f at held sum : ℕ} (r : Ready bytes t s rs f at held sum) {c : RequiredContext} {u us : List ℕ} (d : Placed s rs at c u us) where
  high : at + 4 ≤ length (read s rs)
  high = omega (arith, r.high, read-long s rs)

  pub placed_state : (rest : Rest) (v : ℕ) → state_of t f at (read u us) rest v ≡ walk.with_context c (state_of t f at (read s rs) rest v)
  placed_state rest v =
      rw (
        d.reads,
        context_put (read s rs) at c high,
        records_are t f at (read s rs) c (ready_fits r) r.low high,
        total_is t f at (read s rs) c (ready_fits r) r.low high,
      )

  pub placed_context : context_at (read u us) at ≡ c
  placed_context = ap (λ (ps : List PartReq). context_at ps at) d.reads ∙ context_put (read s rs) at c high

  pub placed_ready : held + (pieces c + sum) ≤ entries_cap → Ready bytes t u us f at held sum
  placed_ready few = record {
    was_read = r.was_read;
    function = r.function;
    memory = d.memory;
    low = r.low;
    high = omega (arith, r.high, d.long);
    sums =
        rw (
          d.reads,
          records_are t f at (read s rs) c (ready_fits r) r.low high,
          total_is t f at (read s rs) c (ready_fits r) r.low high,
          totals_are t f at (read s rs) c (ready_fits r) r.low high,
        )
        r.sums;
    owned = omega (arith, ap pieces placed_context, ap counted d.reads, counted_is t f at (read s rs) c (ready_fits r) r.low high, r.owned);
    small = omega (arith, ap pieces placed_context);
  }

  pub placed_others : Others t f at s rs u us
  placed_others = record {
    long = d.long;
    same = λ k e.
        ap (λ (ps : List PartReq). get_or ps k none) d.reads
        ∙ outside t f at (read s rs) c (ready_fits r) r.low high k (λ j l z. e.no_context j l (sym z));
  }
