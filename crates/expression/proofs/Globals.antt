-- What an arm asks of a global: the total of globals is stored, and at the first visit the context's entry too. So the state is what the definition says,
-- and then the visit ends.
use Prim.Native.Nat.{ℕ, ◌+◌, ◌<◌, ◌≤◌}
use native.Mathlib.Omega.{arith}
use mathlib.Core.Path.{◌≡◌, sym, ap, ◌∙◌}
use mathlib.Core.Bool.{Bool, true, false}
use mathlib.Core.List.{List}
use lib.ListN.{length, get_or, set, length-set}
use lib.Seq.{get_or-set_same}
use Rattle.std.specs.Prelude.{Result, Err}
use Rattle.field.specs.declared.refusal.Refusal.TheVariants.{PartLimit}
use Rattle.part.specs.PartReq.{PartReq, none, gone, there, get_subpart, entries, over, spine}
use Rattle.part.specs.Insert.{insert}
use Rattle.part.specs.Store.{top, part, Good}
use Rattle.module.specs.declared.handles.ExpressionHandle.{ExpressionHandle}
use Rattle.module.specs.declared.handles.FunctionHandle.{FunctionHandle}
use Rattle.context.specs.RequiredContext.{RequiredContext, pieces, variable}
use Rattle.walk.specs.State.{State, at_expression, went, with_context, with_globals, limited}
use Rattle.walk.specs.Expression.{joined, with_global_entries, ask_global}
use Rattle.walk.proofs.Bind.{next_went, next_halt, limited_over, limited-under}
use Rattle.memory.specs.Layout.{globals_slot}
use Rattle.memory.specs.Memory.{read, context_at, join_room, Totalling, Totalled, total_after, globals_after}
use Rattle.memory.specs.Want.{asked, Still}
use Rattle.memory.specs.declared.want.Want.{Want}
use Rattle.memory.proofs.Slots.{read_at, read-long, asked-small, slot_low, set-memory, set-read, wants_still, asked-still, above}
use Rattle.part.proofs.Write.{kept_self}
use Rattle.memory.proofs.Joins.{insert-small, totalled_few}
use Rattle.state.specs.State.{Rest, state_of}
use Rattle.state.specs.Ready.{Ready, Others}
use Rattle.state.specs.Stored.{Stored}
use Rattle.state.specs.declared.answer.Place.TheVariants as place
use Rattle.state.specs.declared.answer.Halt.{Halt}
use Rattle.state.specs.declared.answer.Tally.{Tally}
use Rattle.state.proofs.Own.{state_entries, state_total, map_sum, map_pieces, total_sum, total-pieces, context_apart}
use Rattle.state.proofs.Others.{others_trans, others_set, own_map, own_total, others_still, others_totals, ready_fits, ready_set}
use Rattle.state.proofs.Ends.{halts, ends_after}
use Rattle.expression.specs.Walks.{Walks, closing, ending_global}
use Rattle.expression.specs.Visits.{Closing, Visiting}
use Rattle.expression.proofs.Maps.{visit_joining}

module _ {t : List ℕ} {f e at held : ℕ} {s rs : List ℕ} {w : Want} {sum : ℕ} (q : Visiting t f e at held s rs w sum) (g : ℕ) (low : g < spine) where
  abbrev was : PartReq
  was = part s (get_or rs globals_slot 0)

  total_there : (globals_slot < length rs) × (get_or rs globals_slot 0 < top s)
  total_there = slot_low q.ready.memory globals_slot (omega arith)

  pub global_get : Good s × (get_or rs globals_slot 0 < top s)
  global_get = (q.ready.memory.good, total_there.1)

  total_is : get_or (read s rs) globals_slot none ≡ was
  total_is = read_at s rs globals_slot total_there.0

  first_slot : at + 0 ≡ at
  first_slot = omega arith

  pub visit_totalling : Totalling s rs (get_or rs at 0) g w sum
  visit_totalling = record {
    joining = rw first_slot at (visit_joining q 0 g (omega arith) low);
    old = omega (arith, q.ready.sums, ap entries total_is);
    few = omega (arith, q.few);
  }

  module _ {u us : List ℕ} {d m : ℕ} (x : Totalled s rs (get_or rs at 0) g (asked s rs w) sum u us d m) where
    abbrev total : PartReq
    total = total_after (get_subpart was (variable g)) was g (asked s rs w)

    stored : Stored s rs globals_slot total u us
    stored = record { memory = x.noted.memory; reads = x.noted.reads; long = x.noted.long }

    inside : globals_slot < length (read s rs)
    inside = omega (arith, total_there.0, read-long s rs)

    total_others : Others t f at s rs u us
    total_others = others_set stored own_total

    context_same : pieces (context_at (read u us) at) ≡ pieces (context_at (read s rs) at)
    context_same = rw stored.reads (total-pieces t f at (read s rs) total q.ready.low inside)

    total_ready : {bytes : List ℕ} → Ready bytes t s rs f at held sum → Ready bytes t u us f at held m
    total_ready r =
        let p = total-pieces t f at (read s rs) total q.ready.low inside in
        let c = total_sum t f at (read s rs) total q.ready.low inside in
        ready_set r stored (omega arith) total_there.0
        (omega (arith, x.noted.sums, c, r.sums, ap entries total_is))
        (omega (arith, p, x.noted.sums, ap entries total_is))
        (omega (arith, p, q.few, totalled_few visit_totalling x, above))

    total-now : part u (get_or us globals_slot 0) ≡ total
    total-now =
        sym (read_at u us globals_slot (omega (arith, total_there.0, stored.long)))
        ∙ ap (λ (ps : List PartReq). get_or ps globals_slot none) stored.reads
        ∙ get_or-set_same (read s rs) globals_slot total none inside

    spent : top u ≤ top s + join_room
    spent = x.noted.spent

    pub global_over : Good u × ((globals_slot < length us) × (get_or us globals_slot 0 < top u))
    global_over = (x.noted.memory.good, slot_low x.noted.memory globals_slot (omega arith))

    -- a later visit
    module _ {o : PartReq} (seen : get_subpart was (variable g) ≡ there o) where
      joined_is : total ≡ joined was g (asked s rs w)
      unfolding total_after
      joined_is = rw seen

      global_is : (visits : ℕ) (rest : Rest) → ask_global (at_expression f e) g (asked s rs w) (get_subpart (get_or (read s rs) globals_slot none) (variable g)) (state_of t f at (read s rs) rest visits)
          ≡ limited (at_expression f e) total (state_of t f at (read u us) rest visits)
      unfolding ask_global
      global_is visits rest =
          rw (stored.reads, state_total t f at (read s rs) total q.ready.low inside rest visits)
          (rw joined_is (rw (total_is, seen)))

      later_still : Still s rs u us
      later_still = others_still q.ready.low q.ready.memory total_others

      pub later_closing : Closing t f e at held u us w m
      later_closing = record {
        bytes = q.bytes;
        ready = total_ready q.ready;
        there = q.there;
        wants = wants_still w later_still q.wants;
        roomy = omega (arith, q.roomy, spent, x.noted.kept.long);
      }

      pub later_15 : {bytes : List ℕ} {b : Bool} {v vs : List ℕ} {fh : FunctionHandle} {eh : ExpressionHandle} (visits : ℕ) → b ≡ over (part u (get_or us globals_slot 0)) → b ≡ true
          → fh.0 ≡ f → eh.0 ≡ e → Walks bytes t f at held s rs (ending_global f held e g (asked s rs w)) visits (Err (record { refusal = PartLimit; place = place.Expression fh eh })) v vs
      later_15 visits eb eo ef ee = record {
        by = λ rest h.
            halts
            (rw (ef, ee)
            (sym (next_halt (closing f held e (asked s rs w)) (global_is visits rest ∙ limited_over (at_expression f e) total _ (ap over (sym total-now) ∙ sym eb ∙ eo)))));
      }

      pub later_ends : {bytes : List ℕ} {b : Bool} (visits : ℕ) → b ≡ over (part u (get_or us globals_slot 0)) → b ≡ false
          → Ready bytes t s rs f at held sum → {r : Result Tally Halt} {v vs : List ℕ}
          → ((bytes : List ℕ) → Ready bytes t u us f at held m → Walks bytes t f at held u us (closing f held e (asked u us w)) visits r v vs)
          → Walks bytes t f at held s rs (ending_global f held e g (asked s rs w)) visits r v vs
      later_ends {bytes} visits eb eo r y = record {
        by = λ rest h.
            ends_after total_others
            (rw (asked-still w later_still q.wants)
            (sym
            (next_went (closing f held e (asked s rs w))
            (global_is visits rest ∙ limited-under (at_expression f e) total (state_of t f at (read u us) rest visits) (ap over (sym total-now) ∙ sym eb ∙ eo)))))
            ((y bytes (total_ready r)).by rest (h ∙ sym (others_totals (ready_fits r) r.low total_others)));
      }

    -- the first visit
    module _ (seen : get_subpart was (variable g) ≡ gone) where
      abbrev put : PartReq
      put = insert (part s (get_or rs at 0)) (variable g) (asked s rs w)

      inserted_is : total ≡ insert was (variable g) (asked s rs w)
      unfolding total_after
      inserted_is = rw seen

      put_is : part u d ≡ put
      unfolding globals_after
      put_is = x.is ∙ rw seen

      at_there : at < length us
      at_there = omega (arith, q.ready.high, stored.long)

      put-stored : Stored u us at put u (set us at d)
      put-stored = record {
        memory = set-memory x.noted.memory (kept_self x.noted.memory.good) x.piece (omega (arith, q.ready.low)) at_there (λ a b. absurd (omega (arith, q.ready.low)));
        reads = set-read us at d (kept_self x.noted.memory.good) x.noted.memory.below put_is;
        long = length-set us at d;
      }

      put_others : Others t f at u us u (set us at d)
      put_others = others_set put-stored (rw first_slot at (own_map {t = t} {f = f} {at = at} 0 (omega arith)))

      first_others : Others t f at s rs u (set us at d)
      first_others = others_trans total_others put_others

      first_still : Still s rs u (set us at d)
      first_still = others_still q.ready.low q.ready.memory first_others

      long_now : at + 4 ≤ length (read u us)
      long_now = omega (arith, q.ready.high, stored.long, read-long u us)

      map_was : entries (get_or (read u us) at none) ≡ entries (part s (get_or rs at 0))
      map_was =
          ap entries
          (ap (λ (ps : List PartReq). get_or ps at none) stored.reads
          ∙ ap (λ c. c.globals) (context_apart t f at (read s rs) total q.ready.low inside)
          ∙ read_at s rs at (omega (arith, q.ready.high)))

      first_ready : {bytes : List ℕ} → Ready bytes t s rs f at held sum → Ready bytes t u (set us at d) f at held m
      first_ready r =
          let a = total_ready r in
          let p = rw first_slot at (map_pieces t f at (read u us) put (ready_fits r) q.ready.low long_now 0 (omega arith)) in
          let c = rw first_slot at (map_sum t f at (read u us) put (ready_fits r) q.ready.low long_now 0 (omega arith)) in
          ready_set a put-stored (omega (arith, q.ready.low)) at_there (a.sums ∙ sym c) (omega (arith, p))
          (omega (
            arith,
            p,
            context_same,
            map_was,
            q.few,
            totalled_few visit_totalling x,
            insert-small (part s (get_or rs at 0)) (variable g) (asked s rs w),
            asked-small q.ready.memory w q.wants,
            above,
          ))

      pub first_store : at < length us
      first_store = at_there

      pub first_closing : Closing t f e at held u (set us at d) w m
      first_closing = record {
        bytes = q.bytes;
        ready = first_ready q.ready;
        there = q.there;
        wants = wants_still w first_still q.wants;
        roomy = omega (arith, q.roomy, spent, x.noted.kept.long);
      }

      state_is : (visits : ℕ) (rest : Rest) → state_of t f at (read u (set us at d)) rest visits
          ≡ with_context (with_global_entries put (context_at (read s rs) at)) (with_globals total (state_of t f at (read s rs) rest visits))
      state_is visits rest =
          ap (λ (ps : List PartReq). state_of t f at ps rest visits) put-stored.reads
          ∙ state_entries t f at (read u us) put (ready_fits q.ready) q.ready.low long_now rest visits
          ∙ ap (λ (ps : List PartReq). with_context (with_global_entries put (context_at ps at)) (state_of t f at ps rest visits)) stored.reads
          ∙ ap (λ (c : RequiredContext). with_context (with_global_entries put c) (state_of t f at (set (read s rs) globals_slot total) rest visits)) (context_apart t f at (read s rs) total q.ready.low inside)
          ∙ ap (λ (st : State). with_context (with_global_entries put (context_at (read s rs) at)) st) (state_total t f at (read s rs) total q.ready.low inside rest visits)

      first_is : (visits : ℕ) (rest : Rest) → ask_global (at_expression f e) g (asked s rs w) (get_subpart (get_or (read s rs) globals_slot none) (variable g)) (state_of t f at (read s rs) rest visits)
          ≡ went (state_of t f at (read u (set us at d)) rest visits) tt
      unfolding ask_global
      first_is visits rest =
          inserted ∙ ap (λ (st : State). went st tt) (sym (state_is visits rest))
        where
          inserted : ask_global (at_expression f e) g (asked s rs w) (get_subpart (get_or (read s rs) globals_slot none) (variable g)) (state_of t f at (read s rs) rest visits)
              ≡ went (with_context (with_global_entries put (context_at (read s rs) at)) (with_globals total (state_of t f at (read s rs) rest visits))) tt
          inserted = rw inserted_is (rw (total_is, seen, read_at s rs at (omega (arith, q.ready.high))))

      pub first_ends : {bytes : List ℕ} (visits : ℕ) → Ready bytes t s rs f at held sum → {r : Result Tally Halt} {v vs : List ℕ}
          → ((bytes : List ℕ) → Ready bytes t u (set us at d) f at held m → Walks bytes t f at held u (set us at d) (closing f held e (asked u (set us at d) w)) visits r v vs)
          → Walks bytes t f at held s rs (ending_global f held e g (asked s rs w)) visits r v vs
      first_ends {bytes} visits r y = record {
        by = λ rest h.
            ends_after first_others
            (rw (asked-still w first_still q.wants) (sym (next_went (closing f held e (asked s rs w)) (first_is visits rest))))
            ((y bytes (first_ready r)).by rest (h ∙ sym (others_totals (ready_fits r) r.low first_others)));
      }
