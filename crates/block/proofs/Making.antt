-- The total of a function in its slots: a context is put, and then the records of the open function are copied over those of the total, which is `extend`. No other slot
-- changes.
use Prim.Native.Nat.{ℕ, ◌+◌, ◌*◌, ◌<◌, ◌≤◌}
use native.Mathlib.Omega.{arith}
use mathlib.Core.Path.{◌≡◌, sym, ap, ◌∙◌}
use mathlib.Core.Bool.{Bool}
use mathlib.Core.List.{List}
use lib.ListN.{length, get_or}
use Rattle.part.specs.PartReq.{PartReq, none}
use Rattle.part.specs.Store.{Good, Room}
use Rattle.module.specs.Module.{FunctionHandle}
use Rattle.module.specs.Tables.{row_at, expressions_from}
use Rattle.context.specs.RequiredContext.{RequiredContext, merge_context, over_context, pieces}
use Rattle.context.specs.Contexts.{context_of, HasContext, MadeContext}
use Rattle.context.specs.declared.required_context.RequiredContext.{RequiredContext as Pieces}
use Rattle.memory.specs.Layout.{exprs_slot, totals_slot, functions_slot}
use Rattle.memory.specs.Memory.{read, records_of, context_at, Memory}
use Rattle.memory.specs.Stretches.{four_set, copied}
use Rattle.memory.proofs.Slots.{read-long}
use Rattle.memory.proofs.Runs.{four_outside, context_put, copied-long, copied-outside, copied-records, copied-memory, four_long, records_same, context_same, read-still}
use Rattle.leave.specs.Leave.{RecordsAt}
use Rattle.leave.specs.declared.leave.Stretch.{Stretch}
use Rattle.block.specs.Saved.{Saved, Loaded}
use Rattle.block.specs.Total.{Totalling, TotalMade, TotalKept, TotalJoined}
use Rattle.block.proofs.Saving.{loaded_is, loaded_has, saved_copy, saved_made}

module _ {t : List ℕ} {f : FunctionHandle} {r : Stretch} (R : RecordsAt t f r) {rs : List ℕ} {at : ℕ} (T : Totalling t rs f at) where
  -- the copies stay within the records
  extend_asks : (vs : List ℕ) → length vs ≡ length rs → (exprs_slot + r.from + r.n ≤ totals_slot + r.from) × (totals_slot + r.from + r.n ≤ length vs)
  extend_asks vs l = (omega (arith, T.items, R.from, R.n), omega (arith, T.items, T.low, T.high, R.from, R.n))

  pub joined_asks : {vs : List ℕ} (k : ℕ) (n : Pieces) → vs ≡ four_set rs k n.globals n.locals n.args n.retval
      → (exprs_slot + r.from + r.n ≤ totals_slot + r.from) × (totals_slot + r.from + r.n ≤ length vs)
  joined_asks {vs} k n e = extend_asks vs (ap length e ∙ four_long rs k n.globals n.locals n.args n.retval)

  total_made : {s u vs us : List ℕ} {c : RequiredContext} → Saved s rs (functions_slot + 4 * f) c u vs → us ≡ copied vs (exprs_slot + r.from) (totals_slot + r.from) r.n
      → TotalMade t f s rs c u us
  total_made {s} {u} {vs} {us} {c} d is =
      let n = (row_at t f).expressions in
      let from = exprs_slot + expressions_from (row_at t f) in
      let to = totals_slot + expressions_from (row_at t f) in
      let e : us ≡ copied vs from to n = is ∙ rw (R.from, R.n) in
      let long : length us ≡ length vs = ap length e ∙ copied-long vs from to n in
      let inside = T.items in
      let high = T.function in
      let low = T.low in
      let top-slot = T.high in
      let kept : (k : ℕ) → ((i : ℕ) → i < n → to + i ≡ k → ⊥) → get_or (read u us) k none ≡ get_or (read u vs) k none
      = λ k h. read-still u vs us k long (ap (λ (xs : List ℕ). get_or xs k 0) e ∙ copied-outside vs from to n k h) in
      let put : (k : ℕ) → ((i : ℕ) → i < 4 → functions_slot + 4 * f + i ≡ k → ⊥) → get_or (read u vs) k none ≡ get_or (read s rs) k none
      = λ k h. ap (λ (ps : List PartReq). get_or ps k none) d.reads ∙ four_outside (read s rs) (functions_slot + 4 * f) c.globals c.locals c.args c.retval none k h in
      let before : (base : ℕ) → base + n ≤ functions_slot → records_of (read u vs) base n ≡ records_of (read s rs) base n
      = λ base l. records_same (read s rs) (read u vs) base n (λ i x. put (base + i) (λ j y z. omega arith)) in
      record {
        memory = rw e (copied-memory d.memory from to n (omega arith) (omega arith) (omega arith) n (omega arith));
        total = record {
          long = read-long u us ∙ long ∙ d.long ∙ sym (read-long s rs);
          context =
              context_same (read u vs) (read u us) (functions_slot + 4 * f) (λ i x. kept (functions_slot + 4 * f + i) (λ j y z. omega arith))
              ∙ ap (λ (ps : List PartReq). context_at ps (functions_slot + 4 * f)) d.reads
              ∙ context_put (read s rs) (functions_slot + 4 * f) c (omega (arith, read-long s rs));
          exprs =
              ap (λ (xs : List ℕ). records_of (read u xs) to n) e
              ∙ copied-records d.memory from to n (omega arith) (omega arith) (omega arith)
              ∙ rw (before to (omega arith), before from (omega arith));
          same = λ k a b. kept k a ∙ put k b;
        };
      }

-- the first total, and a later one
pub total_kept : {t : List ℕ} {f : FunctionHandle} {r : Stretch} {rs vs us : List ℕ} {at : ℕ} → RecordsAt t f r → Totalling t rs f at
    → vs ≡ four_set rs (functions_slot + 4 * f) (get_or rs at 0) (get_or rs (at + 1) 0) (get_or rs (at + 2) 0) (get_or rs (at + 3) 0)
    → us ≡ copied vs (exprs_slot + r.from) (totals_slot + r.from) r.n → TotalKept t f at rs us
total_kept {f = f} {vs = vs} {at = at} R T e is = record {
  is = λ s m.
      let high = T.function in
      let low = T.low in
      total_made R T (rw e (saved_copy m at (functions_slot + 4 * f) (omega arith) T.high (omega (arith, T.high)))) is;
}

module _ {t : List ℕ} {f : FunctionHandle} {s rs : List ℕ} {at : ℕ} {c d : Pieces} (T : Totalling t rs f at) (m : Memory s rs) (hc : Loaded rs (functions_slot + 4 * f) c) (hd : Loaded rs at d) where
  total_there : functions_slot + 4 * f + 4 ≤ length rs
  total_there = omega (arith, T.function, T.low, T.high)

  pub total_joins : Room s (pieces (context_at (read s rs) (functions_slot + 4 * f)) + pieces (context_at (read s rs) at))
      → Good s × ((HasContext s c × HasContext s d) × Room s (pieces (context_of s c) + pieces (context_of s d)))
  total_joins room =
      (m.good, ((loaded_has m total_there hc, loaded_has m T.high hd), omega (arith, ap pieces (loaded_is m total_there hc), ap pieces (loaded_is m T.high hd))))

  pub total_joined : {r : Stretch} {u vs us : List ℕ} {b : Bool} (n : Pieces) → RecordsAt t f r
      → MadeContext s u (merge_context (context_of s c) (context_of s d)) (pieces (context_of s c) + pieces (context_of s d)) n
      → vs ≡ four_set rs (functions_slot + 4 * f) n.globals n.locals n.args n.retval
      → us ≡ copied vs (exprs_slot + r.from) (totals_slot + r.from) r.n
      → b ≡ over_context (context_of u n)
      → TotalJoined t f at s rs b u us
  total_joined {r} {u} {vs} {us} n R h e is o =
      let left = loaded_is m total_there hc in
      let right = loaded_is m T.high hd in
      let saved : Saved s rs (functions_slot + 4 * f) (merge_context (context_of s c) (context_of s d)) u vs = rw e (saved_made m (functions_slot + 4 * f) (omega arith) total_there h) in
      record {
        made = rw (← left, ← right) (total_made R T saved is);
        over = o ∙ rw (h.is, left, right);
        spent = omega (arith, h.cost, ap pieces left, ap pieces right);
      }
