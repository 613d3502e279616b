-- What an arm asks of a variable: each is one store into the current context, or into the total of globals, so that the state is what the definition says;
-- then the visit ends.
use Prim.Native.Nat.{ℕ, ◌+◌, ◌<◌, ◌≤◌}
use native.Mathlib.Omega.{arith}
use mathlib.Core.Path.{◌≡◌, refl, sym, ap, subst, ◌∙◌}
use mathlib.Core.Bool.{Bool, true, false}
use mathlib.Core.List.{List}
use lib.ListN.{length, get_or, set, length-set}
use Rattle.std.specs.Prelude.{Result, Err}
use Rattle.field.specs.Limits.{max_pieces, max_depth}
use Rattle.field.specs.declared.refusal.Refusal.TheVariants.{PartLimit}
use Rattle.part.specs.PartReq.{PartReq, none, more, entries, over, spine}
use Rattle.part.specs.Store.{part, Made}
use Rattle.part.proofs.Sizes.{sum_small}
use Rattle.module.specs.declared.handles.ExpressionHandle.{ExpressionHandle}
use Rattle.module.specs.declared.handles.FunctionHandle.{FunctionHandle}
use Rattle.context.specs.RequiredContext.{pieces, variable}
use Rattle.walk.specs.State.{Walk, at_expression, ◌>>◌, limited}
use Rattle.walk.specs.Expression.{joined, ask_argument, ask_local}
use Rattle.walk.proofs.Bind.{next_went, next_halt, limited_over, limited-under}
use Rattle.memory.specs.Memory.{read, context_at, join_room, Joining}
use Rattle.memory.specs.Want.{asked, Still}
use Rattle.memory.specs.declared.want.Want.{Want}
use Rattle.memory.proofs.Slots.{read_at, read-long, asked-small, set-memory, set-read, wants_still, asked-still, above}
use Rattle.memory.proofs.Notes.{entries-single}
use Rattle.state.specs.State.{Rest, state_of}
use Rattle.state.specs.Ready.{Ready, Others}
use Rattle.state.specs.declared.answer.Place.TheVariants as place
use Rattle.state.specs.declared.answer.Halt.{Halt}
use Rattle.state.specs.declared.answer.Tally.{Tally}
use Rattle.state.proofs.Own.{Fits, state_locals, state_args, map_sum, map_pieces}
use Rattle.state.proofs.Others.{others_set, own_map, others_still, others_totals, ready_fits, ready_set}
use Rattle.state.proofs.Ends.{halts, ends_after}
use Rattle.expression.specs.Walks.{Walks, closing, ending_argument, ending_local}
use Rattle.expression.specs.Visits.{Closing, Visiting, Mapping, Mapped, Meeting, Meets}

-- `join`
module _ {s rs : List ℕ} {k i : ℕ} {w : Want} (h : Mapping s rs k i w) {u : List ℕ} {q : PartReq} {r : ℕ} (a : Made s u q join_room r) where
  pub join_set : {b : Bool} → b ≡ over (part u r) → b ≡ false → Meets s rs k q false u (set rs k r)
  join_set e g = record {
    by = record {
      fine = ap over (sym a.is) ∙ sym e ∙ g;
      stored = record {
        memory = set-memory h.joining.memory a.kept a.piece (omega (arith, h.low)) h.high (λ x y. absurd (omega (arith, h.low)));
        reads = set-read rs k r a.kept h.joining.memory.below a.is;
        long = length-set rs k r;
      };
      spent = a.cost;
      long = a.kept.long;
    };
  }

-- what it has answered
module _ {s rs : List ℕ} {k : ℕ} {q : PartReq} {r : Bool} {u us : List ℕ} (x : Meets s rs k q r u us) where
  pub is_over : r ≡ true → over q ≡ true
  is_over e = subst (λ (b : Bool). Meeting s rs k q b u us) e x.by

  pub is_mapped : r ≡ false → Mapped s rs k q u us
  is_mapped e = subst (λ (b : Bool). Meeting s rs k q b u us) e x.by

no_entries : entries none ≡ 0
unfolding entries
no_entries = refl

-- an arm that comes to a variable
module _ {t : List ℕ} {f e at held : ℕ} {s rs : List ℕ} {w : Want} {sum : ℕ} (q : Visiting t f e at held s rs w sum) where
  room_there : Fits t f
  room_there = ready_fits q.ready

  long : at + 4 ≤ length (read s rs)
  long = omega (arith, q.ready.high, read-long s rs)

  slot_there : (j : ℕ) → j < 4 → at + j < length rs
  slot_there j l = omega (arith, q.ready.high)

  map_is : (j : ℕ) → j < 4 → get_or (read s rs) (at + j) none ≡ part s (get_or rs (at + j) 0)
  map_is j l = read_at s rs (at + j) (slot_there j l)

  map_few : (j : ℕ) → j < 4 → entries (get_or (read s rs) (at + j) none) ≤ pieces (context_at (read s rs) at)
  map_few j l = omega (arith, map_pieces t f at (read s rs) none room_there q.ready.low long j l, no_entries)

  pub visit_joining : (j i : ℕ) → j < 4 → i < spine → Joining s rs (get_or rs (at + j) 0) i w
  visit_joining j i l b = record {
    memory = q.ready.memory;
    wants = q.wants;
    piece = q.ready.memory.below (at + j) (slot_there j l);
    few = omega (arith, map_few j l, ap entries (map_is j l), q.few);
    index = b;
    roomy = omega (arith, q.roomy);
  }

  pub visit_mapping : (j i : ℕ) → j < 4 → i < spine → Mapping s rs (at + j) i w
  visit_mapping j i l b = record { low = omega (arith, q.ready.low); high = slot_there j l; joining = visit_joining j i l b }

  joined-few : (o : PartReq) (i : ℕ) → entries (joined o i (asked s rs w)) ≤ entries o + (max_pieces + max_depth + 5)
  joined-few o i =
      omega (arith, (sum_small o (more (variable i) (asked s rs w) none)).few, entries-single (variable i) (asked s rs w), asked-small q.ready.memory w q.wants)

  -- a map of the context was joined
  module _ (j i : ℕ) (l : j < 4) {u us : List ℕ} (d : Mapped s rs (at + j) (joined (part s (get_or rs (at + j) 0)) i (asked s rs w)) u us) where
    abbrev new : PartReq
    new = joined (part s (get_or rs (at + j) 0)) i (asked s rs w)

    map_others : Others t f at s rs u us
    map_others = others_set d.stored (own_map j l)

    map_still : Still s rs u us
    map_still = others_still q.ready.low q.ready.memory map_others

    map_ready : {bytes : List ℕ} → Ready bytes t s rs f at held sum → Ready bytes t u us f at held sum
    map_ready r =
        let p = map_pieces t f at (read s rs) new room_there q.ready.low long j l in
        let m = map_sum t f at (read s rs) new room_there q.ready.low long j l in
        ready_set r d.stored (omega (arith, q.ready.low)) (slot_there j l) (r.sums ∙ sym m) (omega (arith, p))
        (omega (arith, p, q.few, joined-few (part s (get_or rs (at + j) 0)) i, ap entries (map_is j l), above))

    pub map_closing : Closing t f e at held u us w sum
    map_closing = record {
      bytes = q.bytes;
      ready = map_ready q.ready;
      there = q.there;
      wants = wants_still w map_still q.wants;
      roomy = omega (arith, q.roomy, d.spent, d.long);
    }

    -- where an ask sets that map, unless it passes a limit
    map_ends : {bytes : List ℕ} (ask : Walk (Unit {0})) (visits : ℕ)
        → ((rest : Rest) → ask (state_of t f at (read s rs) rest visits) ≡ limited (at_expression f e) new (state_of t f at (set (read s rs) (at + j) new) rest visits))
        → Ready bytes t s rs f at held sum → {r : Result Tally Halt} {v vs : List ℕ}
        → ((bytes : List ℕ) → Ready bytes t u us f at held sum → Walks bytes t f at held u us (closing f held e (asked u us w)) visits r v vs)
        → Walks bytes t f at held s rs (λ st. ask st >> closing f held e (asked s rs w)) visits r v vs
    map_ends {bytes} ask visits is r x = record {
      by = λ rest h.
          let st = state_of t f at (set (read s rs) (at + j) new) rest visits in
          ends_after map_others
          (rw (d.stored.reads, asked-still w map_still q.wants)
          (sym (next_went (closing f held e (asked s rs w)) (is rest ∙ limited-under (at_expression f e) new st d.fine))))
          ((x bytes (map_ready r)).by rest (h ∙ sym (others_totals room_there q.ready.low map_others)));
    }

  -- 15
  map_15 : {bytes : List ℕ} (j i : ℕ) (ask : Walk (Unit {0})) (visits : ℕ) → over (joined (part s (get_or rs (at + j) 0)) i (asked s rs w)) ≡ true
      → ((rest : Rest) → ask (state_of t f at (read s rs) rest visits) ≡ limited (at_expression f e) (joined (part s (get_or rs (at + j) 0)) i (asked s rs w)) (state_of t f at (set (read s rs) (at + j) (joined (part s (get_or rs (at + j) 0)) i (asked s rs w))) rest visits))
      → {fh : FunctionHandle} {eh : ExpressionHandle} → fh.0 ≡ f → eh.0 ≡ e → {u us : List ℕ}
      → Walks bytes t f at held s rs (λ st. ask st >> closing f held e (asked s rs w)) visits (Err (record { refusal = PartLimit; place = place.Expression fh eh })) u us
  map_15 j i ask visits o is ef ee = record {
    by = λ rest h.
        halts (rw (ef, ee) (sym (next_halt (closing f held e (asked s rs w)) (is rest ∙ limited_over (at_expression f e) _ _ o))));
  }

  -- the arguments' map and the locals'
  argument_is : (i visits : ℕ) (rest : Rest) → ask_argument (at_expression f e) i (asked s rs w) (state_of t f at (read s rs) rest visits)
      ≡ limited (at_expression f e) (joined (part s (get_or rs (at + 2) 0)) i (asked s rs w)) (state_of t f at (set (read s rs) (at + 2) (joined (part s (get_or rs (at + 2) 0)) i (asked s rs w))) rest visits)
  unfolding ask_argument
  argument_is i visits rest =
      rw (map_is 2 (omega arith), state_args t f at (read s rs) (joined (part s (get_or rs (at + 2) 0)) i (asked s rs w)) room_there q.ready.low long rest visits)

  local_is : (i visits : ℕ) (rest : Rest) → ask_local (at_expression f e) i (asked s rs w) (state_of t f at (read s rs) rest visits)
      ≡ limited (at_expression f e) (joined (part s (get_or rs (at + 1) 0)) i (asked s rs w)) (state_of t f at (set (read s rs) (at + 1) (joined (part s (get_or rs (at + 1) 0)) i (asked s rs w))) rest visits)
  unfolding ask_local
  local_is i visits rest =
      rw (map_is 1 (omega arith), state_locals t f at (read s rs) (joined (part s (get_or rs (at + 1) 0)) i (asked s rs w)) room_there q.ready.low long rest visits)

  -- `argument` and `local`
  module _ (i visits : ℕ) where
    pub argument_15 : {bytes : List ℕ} {u us : List ℕ} {fh : FunctionHandle} {eh : ExpressionHandle} → over (joined (part s (get_or rs (at + 2) 0)) i (asked s rs w)) ≡ true
        → fh.0 ≡ f → eh.0 ≡ e → Walks bytes t f at held s rs (ending_argument f held e i (asked s rs w)) visits (Err (record { refusal = PartLimit; place = place.Expression fh eh })) u us
    argument_15 o ef ee = map_15 2 i (ask_argument (at_expression f e) i (asked s rs w)) visits o (argument_is i visits) ef ee

    pub local_15 : {bytes : List ℕ} {u us : List ℕ} {fh : FunctionHandle} {eh : ExpressionHandle} → over (joined (part s (get_or rs (at + 1) 0)) i (asked s rs w)) ≡ true
        → fh.0 ≡ f → eh.0 ≡ e → Walks bytes t f at held s rs (ending_local f held e i (asked s rs w)) visits (Err (record { refusal = PartLimit; place = place.Expression fh eh })) u us
    local_15 o ef ee = map_15 1 i (ask_local (at_expression f e) i (asked s rs w)) visits o (local_is i visits) ef ee

    pub argument_ends : {bytes : List ℕ} {u us : List ℕ} → Mapped s rs (at + 2) (joined (part s (get_or rs (at + 2) 0)) i (asked s rs w)) u us
        → Ready bytes t s rs f at held sum → {r : Result Tally Halt} {v vs : List ℕ}
        → ((bytes : List ℕ) → Ready bytes t u us f at held sum → Walks bytes t f at held u us (closing f held e (asked u us w)) visits r v vs)
        → Walks bytes t f at held s rs (ending_argument f held e i (asked s rs w)) visits r v vs
    argument_ends d r x = map_ends 2 i (omega arith) d (ask_argument (at_expression f e) i (asked s rs w)) visits (argument_is i visits) r x

    pub local_ends : {bytes : List ℕ} {u us : List ℕ} → Mapped s rs (at + 1) (joined (part s (get_or rs (at + 1) 0)) i (asked s rs w)) u us
        → Ready bytes t s rs f at held sum → {r : Result Tally Halt} {v vs : List ℕ}
        → ((bytes : List ℕ) → Ready bytes t u us f at held sum → Walks bytes t f at held u us (closing f held e (asked u us w)) visits r v vs)
        → Walks bytes t f at held s rs (ending_local f held e i (asked s rs w)) visits r v vs
    local_ends d r x = map_ends 1 i (omega arith) d (ask_local (at_expression f e) i (asked s rs w)) visits (local_is i visits) r x
