-- The walk of an expression: how a visit begins, and the ways through a turn of its loop. What is left of the asks gives the whole (`Left`): an operand's
-- walk leaves one ask less, and what ends an arm ends the visit.
use Prim.Native.Nat.{ℕ, suc, ◌+◌, ◌<◌, ◌≤◌}
use native.Mathlib.Omega.{arith}
use native.Mathlib.Numerals.{add-one}
use mathlib.Core.Path.{◌≡◌, refl, sym, ap, subst, ◌∙◌}
use mathlib.Core.Bool.{Bool, true, false}
use mathlib.Core.List.{List, []}
use mathlib.Core.Option.{none as nothing}
use lib.ListN.{length, get_elem?}
use Rattle.std.specs.Prelude.{Result, Ok, Err, Option as Optional, Some, None}
use Rattle.field.specs.Limits.{max_pieces, max_visits, max_depth, max_components}
use Rattle.field.specs.Refusal.{number}
use Rattle.field.specs.declared.refusal.Refusal.{Refusal}
use Rattle.field.specs.declared.refusal.Refusal.TheVariants.{PiecesLimit, VisitsLimit}
use Rattle.part.specs.PartReq.{PartReq, entries, spine}
use Rattle.module.specs.Module.{Function}
use Rattle.module.specs.Tables.{row_at, module_of}
use Rattle.module.specs.declared.handles.ExpressionHandle.{ExpressionHandle}
use Rattle.module.specs.declared.handles.FunctionHandle.{FunctionHandle}
use Rattle.module.specs.declared.handles.GlobalHandle.{GlobalHandle}
use Rattle.module.specs.declared.handles.LocalHandle.{LocalHandle}
use Rattle.access.proofs.Access.{function_is, expressions-are}
use Rattle.valid.specs.Valid.{ComponentsWithin, Valid}
use Rattle.valid.proofs.Accepted.{valid}
use Rattle.sound.proofs.There.{function_valid}
use Rattle.sound.proofs.Lower.{lower}
use Rattle.context.specs.RequiredContext.{pieces}
use Rattle.walk.specs.State.{State, Walk, ◌>>◌}
use Rattle.walk.specs.Resolve.{function_at, expression_at}
use Rattle.walk.specs.Lower.{LowerExpression}
use Rattle.walk.specs.Expression.{Ask, arm_asks, add_expression}
use Rattle.walk.proofs.Bind.{next_went, next_halt}
use Rattle.memory.specs.Memory.{read, context_at, Memory, Tidied}
use Rattle.memory.specs.Want.{asked, Wants, Still}
use Rattle.memory.specs.declared.want.Want.{Want}
use Rattle.memory.proofs.Slots.{asked-small, wants_still, asked-still, tidied_still, still_trans}
use Rattle.state.specs.State.{state_of, totals_sum}
use Rattle.state.specs.Ready.{Ready, Ended}
use Rattle.state.specs.declared.answer.Place.TheVariants as place
use Rattle.state.specs.declared.answer.Tally.{Tally}
use Rattle.state.specs.declared.answer.Halt.{Halt}
use Rattle.state.proofs.Others.{others_same, others_still, others_totals, count_is, ready_fits, ready_tidied}
use Rattle.state.proofs.Rests.{some_rest, rest_counts}
use Rattle.state.proofs.Ends.{ends_went, ends_halt, halts, ends_after}
use Rattle.asks.specs.Asks.{said, HasWant, Within, There, Asks}
use Rattle.asks.specs.declared.what.Ask as declared
use Rattle.asks.specs.declared.what.Ask.TheVariants.{Operand, Argument, Global, Local, Refuse}
use Rattle.expression.specs.Walks.{Walks, closing, ending_argument, ending_local, ending_global, asks_from, Left}
use Rattle.expression.specs.Visits.{Counting, Allowed, Closing, Visiting}
use Rattle.expression.proofs.Arms.{arm, there_inside}
use Rattle.expression.proofs.Turns.{visit_17, visit_16, visit_asks, turn_operand, turn_refuse, turn_end, turn_argument, turn_local, turn_global}
use Rattle.expression.proofs.Visits.{is_allowed, not_allowed}

-- the same walk, said otherwise
pub walks_as : {bytes t : List ℕ} {f at held : ℕ} {s rs : List ℕ} {walk : Walk (Unit {0})} {visits : ℕ} {r : Result Tally Halt} {u us : List ℕ} (other : Walk (Unit {0}))
    → ((st : State) → walk st ≡ other st) → Walks bytes t f at held s rs walk visits r u us → Walks bytes t f at held s rs other visits r u us
walks_as other e x = record { by = λ rest h. ends_after (others_same refl refl) (e _) (x.by rest h) }

-- what a module that was read has at e
module _ {bytes t s rs : List ℕ} {f at held sum : ℕ} (r : Ready bytes t s rs f at held sum) (e : ℕ) where
  is_valid : Valid (module_of bytes t)
  is_valid = valid bytes (module_of bytes t) r.was_read.module_is

  low : LowerExpression (module_of bytes t) f e
  low = (lower (module_of bytes t) is_valid).expressions f e

  module _ (there : e < length (function_at (module_of bytes t) f).expressions) where
    components : ComponentsWithin (expression_at (module_of bytes t) f e)
    unfolding expression_at
    components = ((function_valid (module_of bytes t) is_valid f r.function).parts.each_expression e _ there).components

    row_there : e < (row_at t f).expressions
    unfolding function_at
    row_there =
        omega (
          arith,
          expressions-are t f (row_at t f) refl bytes,
          ap (λ (x : Function). length x.expressions) (function_is bytes t f none_there r.function),
        )
      where
        none_there : Function
        none_there = record { entry = false; result = nothing; arguments = []; locals = []; expressions = []; statements = []; blocks = [] }

-- a visit begins, or is refused
module _ {bytes t s rs : List ℕ} {f at held sum : ℕ} (r : Ready bytes t s rs f at held sum) where
  pub visit_counting : Counting s rs at held sum
  visit_counting = record {
    memory = r.memory;
    high = r.high;
    owned = r.owned;
    few = omega (arith, r.small);
    small = omega (arith, r.small);
  }

  module _ (e visits : ℕ) (w : Want) where
    pub walk_17 : {fh : FunctionHandle} {eh : ExpressionHandle} → fh.0 ≡ f → eh.0 ≡ e → max_visits ≤ visits
        → Walks bytes t f at held s rs (add_expression (module_of bytes t) f held e (asked s rs w)) visits (Err (record { refusal = VisitsLimit; place = place.Expression fh eh })) s rs
    walk_17 ef ee l = record {
      by = λ rest h. halts (rw (ef, ee) (visit_17 (module_of bytes t) f held e (asked s rs w) (low r e) (state_of t f at (read s rs) rest visits) l));
    }

    pub walk_16 : {b : Bool} {u us : List ℕ} {fh : FunctionHandle} {eh : ExpressionHandle} → fh.0 ≡ f → eh.0 ≡ e → visits < max_visits → Allowed s rs at held sum b u us → b ≡ false
        → Walks bytes t f at held s rs (add_expression (module_of bytes t) f held e (asked s rs w)) visits (Err (record { refusal = PiecesLimit; place = place.Expression fh eh })) u us
    walk_16 ef ee few x not = record {
      by = λ rest h.
          halts
          (rw (ef, ee)
          (visit_16 (module_of bytes t) f held e (asked s rs w) (low r e) (state_of t f at (read s rs) rest visits) few
          (omega (arith, not_allowed x not, count_is t f at held (read s rs) rest (suc visits) sum r.sums h))));
    }

-- a visit has begun in s rs, and its asks begin in u us
pub record Began (bytes t : List ℕ) (f e at held : ℕ) (s rs : List ℕ) (w : Want) (visits sum : ℕ) (u us : List ℕ) : Type 0 where
  pub ready : Ready bytes t s rs f at held sum
  pub there : e < length (function_at (module_of bytes t) f).expressions
  pub wants : Wants s rs w
  pub counted : visits < max_visits
  pub few : held + (pieces (context_at (read s rs) at) + sum) ≤ max_pieces
  pub tidied : Tidied s rs u us

pub began : {bytes t s rs : List ℕ} {f at held sum : ℕ} {e visits : ℕ} {w : Want} {b : Bool} {u us : List ℕ} → Ready bytes t s rs f at held sum
    → e < length (function_at (module_of bytes t) f).expressions → Wants s rs w → visits < max_visits → Allowed s rs at held sum b u us → b ≡ true
    → Began bytes t f e at held s rs w visits sum u us
began r there wants few x so = record { ready = r; there = there; wants = wants; counted = few; few = (is_allowed x so).0; tidied = (is_allowed x so).1 }

module _ {bytes t : List ℕ} {f e at held : ℕ} {s rs : List ℕ} {w : Want} {visits sum : ℕ} {u us : List ℕ} (b : Began bytes t f e at held s rs w visits sum u us) where
  still : Still s rs u us
  still = tidied_still b.ready.memory b.tidied

  pub left_all : Left bytes t f e at held u us w (visits + 1) 0 (visits + 1) sum u us
  left_all = record {
    ready = ready_tidied b.ready b.tidied;
    few = rw b.tidied.same b.few;
    roomy = b.tidied.roomy;
    still = record { slot = λ k l. refl };
    cells = refl;
    slots = refl;
    inside = omega arith;
    rest = λ r y ys x. x;
  }

  -- all asks are the visit
  begun_walks : {r : Result Tally Halt} {y ys : List ℕ} → Walks bytes t f at held u us (asks_from (module_of bytes t) f held e (asked u us w) 0) (visits + 1) r y ys
      → Walks bytes t f at held s rs (add_expression (module_of bytes t) f held e (asked s rs w)) visits r y ys
  begun_walks x = record {
    by = λ rest h.
        let others = others_same {t = t} {f = f} {at = at} b.tidied.long b.tidied.same in
        let st = state_of t f at (read s rs) rest visits in
        ends_after others
        (rw (b.tidied.same, asked-still w still b.wants, add-one visits)
        (visit_asks (module_of bytes t) f held e (asked s rs w) (low b.ready e) st b.counted
        (omega (arith, b.few, count_is t f at held (read s rs) rest (suc visits) sum b.ready.sums h))))
        (x.by rest (h ∙ sym (others_totals (ready_fits b.ready) b.ready.low others)));
  }

  -- a turn
  module _ {j v m : ℕ} {z zs : List ℕ} (l : Left bytes t f e at held u us w (visits + 1) j v m z zs) where
    wants_now : Wants z zs w
    wants_now = wants_still w l.still (wants_still w still b.wants)

    asked-now : asked z zs w ≡ asked u us w
    asked-now = asked-still w l.still (wants_still w still b.wants)

    components_now : ComponentsWithin (expression_at (module_of bytes t) f e)
    components_now = components l.ready e b.there

    pub left_ask : There bytes t f e × (Memory z zs × Wants z zs w)
    left_ask = (record { was_read = l.ready.was_read; function = l.ready.function; expression = b.there }, (l.ready.memory, wants_now))

    pub left_closing : Closing t f e at held z zs w m
    left_closing = record { bytes = bytes; ready = l.ready; there = row_there l.ready e b.there; wants = wants_now; roomy = omega (arith, l.roomy) }

    pub left_visiting : Visiting t f e at held z zs w m
    left_visiting = record { bytes = bytes; ready = l.ready; there = row_there l.ready e b.there; wants = wants_now; few = l.few; roomy = l.roomy }

    abbrev asks : List Ask
    asks = arm_asks (expression_at (module_of bytes t) f e) (asked u us w)

    abbrev whole : Walk (Unit {0})
    whole = add_expression (module_of bytes t) f held e (asked s rs w)

    -- what is left of the asks
    abbrev left : ℕ → Walk (Unit {0})
    left j = asks_from (module_of bytes t) f held e (asked u us w) j

    ended : {r : Result Tally Halt} {y ys : List ℕ} → Walks bytes t f at held z zs (left j) v r y ys → Walks bytes t f at held s rs whole visits r y ys
    ended x = begun_walks (l.rest _ _ _ x)

    -- a walk that is what is left
    module _ (walk : PartReq → Walk (Unit {0})) (is : (st : State) → walk (asked u us w) st ≡ left j st) where
      ended_by : {r : Result Tally Halt} {y ys : List ℕ} → ((bytes : List ℕ) → Ready bytes t z zs f at held m → Walks bytes t f at held z zs (walk (asked z zs w)) v r y ys)
          → Walks bytes t f at held s rs whole visits r y ys
      ended_by x = ended (walks_as (left j) is (rw asked-now at (x bytes l.ready)))

    module _ {a : Optional declared.Ask} (x : Asks (module_of bytes t) f e z zs w j a) where
      said-is : {y : Optional declared.Ask} → a ≡ y → get_elem? asks j ≡ said z zs w y
      said-is g = (rw asked-now at x.told.is) ∙ ap (λ (y : Optional declared.Ask). said z zs w y) g

      wants_is : {y : Optional declared.Ask} → a ≡ y → HasWant z zs y
      wants_is g = subst (λ (y : Optional declared.Ask). HasWant z zs y) g x.told.wants

      within_is : {y : Optional declared.Ask} → a ≡ y → Within (length (module_of bytes t).globals) (length (function_at (module_of bytes t) f).arguments) (length (function_at (module_of bytes t) f).locals) e y
      within_is g = subst (λ (y : Optional declared.Ask). Within (length (module_of bytes t).globals) (length (function_at (module_of bytes t) f).arguments) (length (function_at (module_of bytes t) f).locals) e y) g x.within

      -- nothing more, or a refusal
      pub left_end : a ≡ None → {r : Result Tally Halt} {y ys : List ℕ}
          → ((bytes : List ℕ) → Ready bytes t z zs f at held m → Walks bytes t f at held z zs (closing f held e (asked z zs w)) v r y ys)
          → Walks bytes t f at held s rs whole visits r y ys
      left_end g = ended_by (closing f held e) (λ st. turn_end (module_of bytes t) f held e (asked u us w) j st (said-is g))

      pub left_refuse : {r : Refusal} {fh : FunctionHandle} {eh : ExpressionHandle} → a ≡ Some (Refuse r) → fh.0 ≡ f → eh.0 ≡ e
          → Walks bytes t f at held s rs whole visits (Err (record { refusal = r; place = place.Expression fh eh })) z zs
      left_refuse {r} g ef ee =
          ended (record { by = λ rest h. halts (rw (ef, ee) (turn_refuse (module_of bytes t) f held e (asked u us w) j (state_of t f at (read z zs) rest v) (number r) (said-is g))) })

      -- a variable
      pub argument_low : {i : ℕ} → a ≡ Some (Argument i) → i < spine
      argument_low g = (within_is g).1

      pub local_low : {i : LocalHandle} → a ≡ Some (Local i) → i.0 < spine
      local_low g = (within_is g).1

      pub global_low : {i : GlobalHandle} → a ≡ Some (Global i) → i.0 < spine
      global_low g = (within_is g).1

      pub left_argument : {i : ℕ} → a ≡ Some (Argument i) → {r : Result Tally Halt} {y ys : List ℕ}
          → ((bytes : List ℕ) → Ready bytes t z zs f at held m → Walks bytes t f at held z zs (ending_argument f held e i (asked z zs w)) v r y ys)
          → Walks bytes t f at held s rs whole visits r y ys
      left_argument {i} g = ended_by (ending_argument f held e i) (λ st. turn_argument (module_of bytes t) f held e (asked u us w) j st components_now i _ (said-is g))

      pub left_local : {i : LocalHandle} → a ≡ Some (Local i) → {r : Result Tally Halt} {y ys : List ℕ}
          → ((bytes : List ℕ) → Ready bytes t z zs f at held m → Walks bytes t f at held z zs (ending_local f held e i.0 (asked z zs w)) v r y ys)
          → Walks bytes t f at held s rs whole visits r y ys
      left_local {i} g = ended_by (ending_local f held e i.0) (λ st. turn_local (module_of bytes t) f held e (asked u us w) j st components_now i.0 _ (said-is g))

      pub left_global : {i : GlobalHandle} → a ≡ Some (Global i) → {r : Result Tally Halt} {y ys : List ℕ}
          → ((bytes : List ℕ) → Ready bytes t z zs f at held m → Walks bytes t f at held z zs (ending_global f held e i.0 (asked z zs w)) v r y ys)
          → Walks bytes t f at held s rs whole visits r y ys
      left_global {i} g = ended_by (ending_global f held e i.0) (λ st. turn_global (module_of bytes t) f held e (asked u us w) j st components_now i.0 _ (said-is g))

      -- an operand
      module _ {h : ExpressionHandle} {want : Want} (g : a ≡ Some (Operand h want)) where
        pub operand_low : h.0 < e
        operand_low = within_is g

        pub operand_asks : Ready bytes t z zs f at held m × ((h.0 < length (function_at (module_of bytes t) f).expressions) × Wants z zs want)
        operand_asks = (l.ready, (omega (arith, operand_low, b.there), wants_is g))

        pub operand_inside : j < length asks
        operand_inside = there_inside asks j _ (said-is g)

        pub operand_few : j + 1 ≤ max_components + max_pieces + max_depth + 12
        operand_few =
            omega (
              arith,
              operand_inside,
              (arm (expression_at (module_of bytes t) f e) (asked u us w) components_now).few,
              ap entries asked-now,
              asked-small l.ready.memory w wants_now,
            )

        module _ {r : Result Tally Halt} {y ys : List ℕ} (c : Walks bytes t f at held z zs (add_expression (module_of bytes t) f held h.0 (asked z zs want)) v r y ys) where
          turn_is : (st : State) → left j st ≡ (add_expression (module_of bytes t) f held h.0 (asked z zs want) st >> left (suc j))
          turn_is st = turn_operand (module_of bytes t) f held e (asked u us w) j st h.0 (asked z zs want) (said-is g)

          pub left_halt : {stop : Halt} → r ≡ Err stop → Walks bytes t f at held s rs whole visits (Err stop) y ys
          left_halt is =
              ended (record { by = λ rest k. halts (sym (turn_is (state_of t f at (read z zs) rest v) ∙ next_halt (left (suc j)) (sym (ends_halt (c.by rest k) is)))) })

          module _ {tally : Tally} (is : r ≡ Ok tally) where
            some_end : Ended bytes t f at held z zs (some_rest (totals_sum (read z zs))) (add_expression (module_of bytes t) f held h.0 (asked z zs want) (state_of t f at (read z zs) (some_rest (totals_sum (read z zs))) v)) tally.visits tally.sum y ys
            some_end = ends_went (c.by (some_rest (totals_sum (read z zs))) (rest_counts (totals_sum (read z zs)))) is

            pub left_next : length y ≡ length z → Left bytes t f e at held u us w (visits + 1) (j + 1) tally.visits tally.sum y ys
            left_next long = record {
              ready = some_end.ready;
              few = some_end.few;
              roomy = some_end.roomy;
              still = still_trans l.still (others_still l.ready.low l.ready.memory some_end.others);
              cells = long ∙ l.cells;
              slots = some_end.others.long ∙ l.slots;
              inside = omega (arith, operand_inside);
              rest = λ r' y' ys' k.
                  l.rest r' y' ys'
                  (record {
                    by = λ rest i.
                        let end = ends_went (c.by rest i) is in
                        ends_after end.others
                        (rw (add-one j) (sym (turn_is (state_of t f at (read z zs) rest v) ∙ next_went (left (suc j)) (sym end.is))))
                        (k.by rest (i ∙ sym (others_totals (ready_fits l.ready) l.ready.low end.others)));
                  });
            }
