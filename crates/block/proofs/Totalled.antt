-- A new total of a function: the totals of the state are `set`, those of other functions stay, and what the slots count for changes by that of f alone. Slots
-- of different functions lie apart.
use Prim.Native.Nat.{ℕ, ◌+◌, ◌*◌, ◌<◌, ◌≤◌}
use native.Mathlib.Omega.{arith}
use native.Mathlib.Decide.{ℕ_discrete}
use mathlib.Core.Path.{◌≡◌, sym, ap, ◌∙◌}
use mathlib.Core.List.{List}
use mathlib.Core.Option.{Option, some, none as nothing}
use lib.ListN.{length, get_or, set, length-set}
use lib.Seq.{get_or-set_same, get_or-set_other, ext_get_or}
use Rattle.field.specs.Limits.{max_functions}
use Rattle.part.specs.PartReq.{PartReq, none}
use Rattle.module.specs.Module.{FunctionHandle}
use Rattle.module.specs.Tables.{row_at, expressions_from, max_items, module_of}
use Rattle.module.proofs.Tab.{length-tab, get_d_tab}
use Rattle.access.proofs.Access.{functions_are}
use Rattle.access.proofs.Laid.{number_once}
use Rattle.context.specs.RequiredContext.{RequiredContext, pieces}
use Rattle.walk.specs.State.{Records, FunctionReq, record_pieces}
use Rattle.valid.proofs.Accepted.{valid}
use Rattle.memory.specs.Layout.{totals_slot, functions_slot}
use Rattle.memory.specs.Memory.{Recorded, context_at}
use Rattle.memory.proofs.Records.{records_pieces}
use Rattle.memory.proofs.Runs.{context_pieces, records_same, context_same}
use Rattle.marks.specs.declared.totals.MarkTotals.{MarkTotals}
use Rattle.marks.specs.Report as report
use Rattle.state.specs.State.{records_in, totals_sum}
use Rattle.access.specs.Laid.{WasRead}
use Rattle.state.proofs.Own.{fits}
use Rattle.leave.proofs.Sums.{sum_stretch}
use Rattle.block.specs.Standing.{total_of, total_in, functions_in}
use Rattle.block.specs.Total.{NewTotal, total_count}

module _ {bytes t : List ℕ} {f : FunctionHandle} {ps qs : List PartReq} {c : RequiredContext} {es : Records} (w : WasRead bytes t) (there : f < length (module_of bytes t).functions)
    (N : NewTotal t f ps qs c es) where
  few : length (module_of bytes t).functions ≤ max_functions
  few = (valid bytes (module_of bytes t) w.module_is).few_functions

  -- another function's slots
  module _ (g : FunctionHandle) (l : g < length (module_of bytes t).functions) (ne : g ≡ f → ⊥) where
    other_context : context_at qs (functions_slot + 4 * g) ≡ context_at ps (functions_slot + 4 * g)
    other_context =
        let b = fits f w there in
        context_same ps qs (functions_slot + 4 * g) (λ i x. N.same (functions_slot + 4 * g + i) (λ e y z. omega arith) (λ j y z. ne (omega arith)))

    other_records : records_in t totals_slot g qs ≡ records_in t totals_slot g ps
    other_records =
        let b = fits g w l in
        let n = functions_are t bytes in
        records_same ps qs (totals_slot + expressions_from (row_at t g)) (row_at t g).expressions
        (λ e x. N.same (totals_slot + expressions_from (row_at t g) + e)
        (λ k y z. ne (sym (number_once t w.laid f g k e (omega arith) (omega arith) y x (omega arith)).0)) (λ j y z. omega arith))

  -- the totals of the state
  own_total : (after : MarkTotals) (ms : List ℕ) → report.total_in (module_of bytes t) after f ≡ some ms → total_in (module_of bytes t) t qs after f ≡ some (record { marks = ms; context = c; exprs = es })
  unfolding total_in total_of
  own_total after ms own = rw (own, N.context, N.exprs)

  other_total : (totals after : MarkTotals) (g : ℕ) → g < length (module_of bytes t).functions → (g ≡ f → ⊥) → report.total_in (module_of bytes t) after g ≡ report.total_in (module_of bytes t) totals g
      → total_in (module_of bytes t) t qs after g ≡ total_in (module_of bytes t) t ps totals g
  unfolding total_in
  other_total totals after g l ne same = rw (same, other_context g l ne, other_records g l ne)

  pub functions-set : (totals after : MarkTotals) (ms : List ℕ) → report.total_in (module_of bytes t) after f ≡ some ms
      → ((g : ℕ) → g < length (module_of bytes t).functions → (g ≡ f → ⊥) → report.total_in (module_of bytes t) after g ≡ report.total_in (module_of bytes t) totals g)
      → functions_in (module_of bytes t) t qs after ≡ set (functions_in (module_of bytes t) t ps totals) f (some (record { marks = ms; context = c; exprs = es }))
  unfolding functions_in
  functions-set totals after ms own others =
      let m = module_of bytes t in
      let n = length m.functions in
      let req : Option FunctionReq = some (record { marks = ms; context = c; exprs = es }) in
      let left = functions_in m t qs after in
      let old = functions_in m t ps totals in
      let left_long : length left ≡ n = length-tab n (total_in m t qs after) in
      let old-long : length old ≡ n = length-tab n (total_in m t ps totals) in
      ext_get_or nothing left (set old f req) (left_long ∙ sym (length-set old f req ∙ old-long))
      (λ g l.
      let h : g < n = omega arith in
      let is : get_or left g nothing ≡ total_in m t qs after g = get_d_tab n (total_in m t qs after) g nothing h in
      is
      ∙ elim (ℕ_discrete g f) [
        | yes e ↦
            let b : f < length old = omega arith in
            rw (e, get_or-set_same old f req nothing b) (own_total after ms own)
        | no ne ↦
            rw (get_or-set_other old f g req nothing ne)
            (other_total totals after g h ne (others g h ne) ∙ sym (get_d_tab n (total_in m t ps totals) g nothing h))
      ])

  pub other_count : (g : ℕ) → g < length (module_of bytes t).functions → (g ≡ f → ⊥) → total_count t g qs ≡ total_count t g ps
  other_count g l ne = rw (other_context g l ne, other_records g l ne)

  -- what the slots count for
  pub total_sums : ((e : ℕ) → e < (row_at t f).expressions → Recorded (get_or ps (totals_slot + expressions_from (row_at t f) + e) none))
      → ((e : ℕ) → e < (row_at t f).expressions → Recorded (get_or qs (totals_slot + expressions_from (row_at t f) + e) none))
      → totals_sum qs + total_count t f ps ≡ totals_sum ps + (record_pieces es + pieces c)
  total_sums old new =
      let b = fits f w there in
      let l = few in
      let from = totals_slot + expressions_from (row_at t f) in
      let n = (row_at t f).expressions in
      omega (
        arith,
        ap record_pieces N.exprs,
        ap pieces N.context,
        records_pieces ps from n old,
        records_pieces qs from n new,
        context_pieces ps (functions_slot + 4 * f),
        context_pieces qs (functions_slot + 4 * f),
        sum_stretch ps qs totals_slot max_items from n (omega arith) (omega arith)
            (λ j x y out. N.same j (λ e i z. out (omega arith) (omega arith)) (λ i k z. omega arith)),
        sum_stretch ps qs functions_slot (4 * max_functions) (functions_slot + 4 * f) 4 (omega arith) (omega arith)
            (λ j x y out. N.same j (λ e i z. omega arith) (λ i k z. out (omega arith) (omega arith))),
      )
