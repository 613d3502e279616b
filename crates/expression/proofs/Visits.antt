-- How a visit begins and ends: what the calls ask, and that the answer is the definition's. The record is one store into a slot of the state, so 16 counts
-- what the definition counts.
use Prim.Native.Nat.{ℕ, ◌+◌, ◌*◌, ◌<◌, ◌≤◌}
use native.Mathlib.Omega.{arith}
use mathlib.Core.Path.{◌≡◌, refl, sym, ap, subst, ◌∙◌}
use mathlib.Core.Bool.{Bool, true, false}
use mathlib.Core.List.{List}
use lib.ListN.{length, get_or, set}
use Rattle.std.specs.Prelude.{Ok, Err}
use Rattle.field.specs.Limits.{max_pieces, max_depth}
use Rattle.field.specs.declared.refusal.Refusal.TheVariants.{PiecesLimit}
use Rattle.part.specs.PartReq.{PartReq, none, more, entries}
use Rattle.part.specs.Store.{part}
use Rattle.part.specs.StoreLimits.{entries_cap}
use Rattle.module.specs.Tables.{row_at, expressions_from}
use Rattle.module.specs.declared.handles.ExpressionHandle.{ExpressionHandle}
use Rattle.module.specs.declared.handles.FunctionHandle.{FunctionHandle}
use Rattle.access.specs.Access.{expression_number}
use Rattle.context.specs.RequiredContext.{pieces}
use Rattle.walk.specs.State.{State, at_expression, went, count, total_pieces}
use Rattle.walk.specs.Expression.{recorded}
use Rattle.walk.proofs.Bind.{counted-over, counted-under}
use Rattle.memory.specs.Layout.{exprs_slot, stack_slot, most}
use Rattle.memory.specs.Memory.{read, sum_from, context_at, Memory, Tidied, Noting, Noted}
use Rattle.memory.specs.Memory as memory
use Rattle.memory.specs.Want.{asked}
use Rattle.memory.specs.declared.want.Want.{Want}
use Rattle.memory.proofs.Slots.{read_at, read-long, sum_set, asked-small, counted-set, slot_low, above}
use Rattle.memory.proofs.Records.{records_pieces}
use Rattle.memory.proofs.Notes.{entries-single}
use Rattle.memory.proofs.Runs.{context_pieces}
use Rattle.state.specs.State.{Rest, state_of, sum_in, totals_sum}
use Rattle.state.specs.Ready.{Ready, Others}
use Rattle.state.specs.Stored.{Stored}
use Rattle.state.specs.declared.answer.Place.TheVariants as place
use Rattle.state.proofs.Own.{record_slot, Fits, record_sum, record-pieces, state_record, records_there}
use Rattle.state.proofs.Others.{others_same, others_trans, others_set, own_record, others_totals, count_is, ready_fits, ready_set, ready_tidied}
use Rattle.state.proofs.Ends.{goes, halts}
use Rattle.expression.specs.Walks.{Walks, closing}
use Rattle.expression.specs.Visits.{Counting, Allowing, Allowed, Closing}

-- `allowed`
module _ {s rs : List ℕ} {at held sum : ℕ} (h : Counting s rs at held sum) where
  pub allowed_weigh : Memory s rs × ((at + 4 ≤ length rs) × (sum_from (read s rs) at 4 ≤ entries_cap))
  allowed_weigh = (h.memory, (h.high, omega (arith, h.few, context_pieces (read s rs) at)))

  module _ {n : ℕ} (is : n ≡ sum_from (read s rs) at 4) where
    weighed : n ≡ pieces (context_at (read s rs) at)
    weighed = is ∙ context_pieces (read s rs) at

    pub allowed_small : (n + sum ≤ 3 * entries_cap) × (held + (n + sum) ≤ 3 * entries_cap)
    allowed_small = (omega (arith, weighed, h.few, h.small), omega (arith, weighed, h.few, h.small))

    pub allowed_not : max_pieces < held + (n + sum) → Allowed s rs at held sum false s rs
    allowed_not l = record { by = omega (arith, weighed) }

    pub allowed_tidy : held + (n + sum) ≤ max_pieces → Memory s rs × (memory.counted (read s rs) ≤ most)
    allowed_tidy l = (h.memory, omega (arith, weighed, h.owned))

    pub allowed_so : {u us : List ℕ} → held + (n + sum) ≤ max_pieces → Tidied s rs u us → Allowed s rs at held sum true u us
    allowed_so l d = record { by = (omega (arith, weighed), d) }

-- what it has answered
module _ {s rs : List ℕ} {at held sum : ℕ} {r : Bool} {u us : List ℕ} (x : Allowed s rs at held sum r u us) where
  pub is_allowed : r ≡ true → (held + (pieces (context_at (read s rs) at) + sum) ≤ max_pieces) × Tidied s rs u us
  is_allowed e = subst (λ (b : Bool). Allowing s rs at held sum b u us) e x.by

  pub not_allowed : r ≡ false → max_pieces < held + (pieces (context_at (read s rs) at) + sum)
  not_allowed e = subst (λ (b : Bool). Allowing s rs at held sum b u us) e x.by

-- `close`
module _ {t : List ℕ} {f e at held : ℕ} {s rs : List ℕ} {w : Want} {sum : ℕ} (q : Closing t f e at held s rs w sum) where
  room_there : Fits t f
  room_there = ready_fits q.ready

  inside : record_slot t f e < length rs
  inside = (slot_low q.ready.memory (record_slot t f e) (omega (arith, room_there, q.there))).0

  long : stack_slot ≤ length (read s rs)
  long = omega (arith, q.ready.memory.slots, read-long s rs)

  -- the record that was there is among what `sum` counts
  old_record : entries (part s (get_or rs (record_slot t f e) 0)) ≤ sum
  old_record =
      omega (
        arith,
        q.ready.sums,
        ap entries (read_at s rs (record_slot t f e) inside),
        records_pieces (read s rs) (exprs_slot + expressions_from (row_at t f)) (row_at t f).expressions (records_there t f room_there q.ready.memory),
        sum_set (read s rs) (record_slot t f e) none (exprs_slot + expressions_from (row_at t f)) (row_at t f).expressions (omega (arith, inside, read-long s rs)) (omega arith) (omega (arith, q.there)),
        no_entries,
      )
    where
      no_entries : entries none ≡ 0
      no_entries = unfold entries in refl

  module _ {n : ℕ} (number : n ≡ expression_number t f e) where
    slot_is : exprs_slot + n ≡ record_slot t f e
    slot_is = omega (arith, number)

    pub close_note : Noting s rs (exprs_slot + n) w sum
    close_note = record {
      memory = q.ready.memory;
      wants = q.wants;
      low = omega arith;
      high = omega (arith, slot_is, room_there, q.there);
      roomy = q.roomy;
      old = rw slot_is old_record;
      few = omega (arith, q.ready.small);
    }

    module _ {u us : List ℕ} {m : ℕ} (d : Noted s rs (exprs_slot + n) (more 0 (asked s rs w) none) sum (max_depth + 1) u us m) where
      abbrev new : PartReq
      new = more 0 (asked s rs w) none

      stored : Stored s rs (record_slot t f e) new u us
      stored = record { memory = d.memory; reads = rw slot_is at d.reads; long = d.long }

      new-few : entries new ≤ max_pieces + max_depth + 5
      new-few = omega (arith, entries-single 0 (asked s rs w), asked-small q.ready.memory w q.wants)

      records_new : (k : ℕ) → k < (row_at t f).expressions → memory.Recorded (get_or (set (read s rs) (record_slot t f e) new) (record_slot t f k) none)
      records_new k l = rw stored.reads at (records_there t f room_there d.memory k l)

      changed : m + entries (get_or (read s rs) (record_slot t f e) none) ≡ sum + entries new
      changed = rw (slot_is, ← read_at s rs (record_slot t f e) inside) at d.sums

      sum_is : m ≡ sum_in t f (set (read s rs) (record_slot t f e) new)
      sum_is =
          omega (
            arith,
            changed,
            q.ready.sums,
            record_sum t f at e (read s rs) room_there q.ready.low long q.there new (records_there t f room_there q.ready.memory) records_new,
          )

      context_is : pieces (context_at (set (read s rs) (record_slot t f e) new) at) ≡ pieces (context_at (read s rs) at)
      context_is = record-pieces t f at e (read s rs) room_there q.ready.low long q.there new

      pub close_counting : Counting u us at held m
      close_counting = record {
        memory = d.memory;
        high = omega (arith, q.ready.high, d.long);
        owned = rw stored.reads (omega (arith, context_is, changed, q.ready.owned, counted-set (read s rs) (record_slot t f e) new (omega arith) (omega (arith, inside, read-long s rs))));
        few = rw stored.reads (omega (arith, context_is, q.ready.small));
        small = omega (arith, changed, new-few, q.ready.small, above);
      }

      module _ {bytes : List ℕ} (ready : Ready bytes t s rs f at held sum) (visits : ℕ) where
        others : Others t f at s rs u us
        others = others_set stored (own_record e q.there)

        state_is : (rest : Rest) → state_of t f at (read u us) rest visits ≡ recorded e (asked s rs w) (state_of t f at (read s rs) rest visits)
        state_is rest = rw stored.reads (state_record t f at e (read s rs) room_there q.ready.low long q.there (asked s rs w) rest visits)

        counts : (rest : Rest) → total_pieces rest.functions ≡ totals_sum (read s rs)
            → count held (recorded e (asked s rs w) (state_of t f at (read s rs) rest visits)) ≡ held + (pieces (context_at (read u us) at) + m)
        counts rest h =
            ap (count held) (sym (state_is rest))
            ∙ count_is t f at held (read u us) rest visits m (rw stored.reads sum_is) (h ∙ sym (others_totals room_there q.ready.low others))

        pub closed : {r : Bool} {v vs : List ℕ} → Allowed u us at held m r v vs → r ≡ true
            → Walks bytes t f at held s rs (closing f held e (asked s rs w)) visits (Ok (record { visits = visits; sum = m })) v vs
        closed {r} {v} {vs} x g =
            let a = is_allowed x g in
            let few : held + (pieces (context_at (set (read s rs) (record_slot t f e) new) at) + m) ≤ max_pieces = rw stored.reads at a.0 in
            record {
              by = λ rest h.
                  goes
                  (record {
                    is =
                        rw a.1.same (ap (λ (st : State). went st tt) (state_is rest))
                        ∙ sym (counted-under held (at_expression f e) (recorded e (asked s rs w) (state_of t f at (read s rs) rest visits)) (omega (arith, counts rest h, a.0)));
                    ready = ready_tidied (ready_set ready stored (omega arith) inside sum_is (omega (arith, context_is, changed)) (omega (arith, few, above))) a.1;
                    few = rw a.1.same a.0;
                    roomy = a.1.roomy;
                    others = others_trans others (others_same a.1.long a.1.same);
                  });
            }

        pub closed_16 : {r : Bool} {v vs : List ℕ} {fh : FunctionHandle} {eh : ExpressionHandle} → Allowed u us at held m r v vs → r ≡ false → fh.0 ≡ f → eh.0 ≡ e
            → Walks bytes t f at held s rs (closing f held e (asked s rs w)) visits (Err (record { refusal = PiecesLimit; place = place.Expression fh eh })) v vs
        closed_16 x g ef ee =
            record {
              by = λ rest h.
                  halts
                  (rw (ef, ee)
                  (sym (counted-over held (at_expression f e) (recorded e (asked s rs w) (state_of t f at (read s rs) rest visits)) (omega (arith, counts rest h, not_allowed x g)))));
            }
