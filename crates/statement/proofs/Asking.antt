-- An ask after what was walked before: it goes on with that, from wherever that began, since no ask changes what is asked.
use Prim.Native.Nat.{ℕ, zero, suc, ◌<◌, ◌≤◌}
use native.Mathlib.Omega.{arith}
use mathlib.Core.Path.{◌≡◌, refl, sym, ap, subst, ◌∙◌}
use mathlib.Core.Bool.{Bool, false}
use mathlib.Core.List.{List}
use mathlib.Core.Option.{Option, some, none as nothing}
use lib.ListN.{get_or}
use Rattle.std.specs.Prelude.{Option as Optional, Some, None, Result, Ok, Err}
use Rattle.part.specs.PartReq.{PartReq, over}
use Rattle.part.specs.Store.{part}
use Rattle.module.specs.declared.handles.ExpressionHandle.{ExpressionHandle as Handle}
use Rattle.module.specs.Tables.{module_of}
use Rattle.access.specs.Access.{handle_in}
use Rattle.valid.specs.Valid.{MaybeBelow}
use Rattle.walk.specs.State.{State, Out, went, ◌>>◌}
use Rattle.walk.specs.Expression.{add_expression}
use Rattle.walk.specs.Statement.{ask_optional}
use Rattle.walk.specs.Statement as walk
use Rattle.walk.proofs.Bind.{next_went, next_halt, next_self}
use Rattle.memory.specs.Layout.{returned}
use Rattle.memory.specs.Memory.{read, Memory}
use Rattle.memory.specs.Want.{asked, Wants, want_of}
use Rattle.memory.proofs.Slots.{asked-slot, want_slot}
use Rattle.state.specs.State.{Rest, state_of, totals_sum}
use Rattle.state.specs.Ready.{Ready, Others, Ends}
use Rattle.state.specs.Frame.{Apart, ArmEnds}
use Rattle.state.specs.declared.answer.Tally.{Tally}
use Rattle.state.specs.declared.frame.Frame.{Frame}
use Rattle.state.specs.declared.answer.Halt.{Halt}
use Rattle.state.proofs.Others.{others_same, others_trans, others_still, others_totals, ready_fits, others_apart, apart_trans}
use Rattle.state.proofs.Rests.{some_rest, rest_counts}
use Rattle.expression.specs.Walks.{Walks}
use Rattle.statement.specs.Asks.{Opening, Open, Going, Goes, Asked, maybe_ask, answer_of}

-- the slots that a statement asks with have parts within the limits
pub slot_wants : {s rs : List ℕ} → Memory s rs → (k : ℕ) → k ≤ returned → Wants s rs (want_of k)
slot_wants {s} {rs} m k l = want_slot s rs k (omega arith) (fine k l)
  where
    fine : (k : ℕ) → k ≤ returned → over (part s (get_or rs k 0)) ≡ false
    fine zero l = rw m.first (unfold over in refl)
    fine (suc zero) l = rw m.second (unfold over in refl)
    fine (suc (suc k)) l = m.fine (suc (suc k)) (omega arith) l

-- what an ask answers, from where the walk began
goes_after : {bytes t : List ℕ} {fr : Frame} {z zs s rs u us : List ℕ} {rest : Rest} {first total : Out (Unit {0})} (r : Result Tally Halt)
    → Others t fr.function.0 fr.at z zs s rs → first ≡ total
    → Ends bytes t fr.function.0 fr.at fr.held s rs rest first r u us → Goes bytes t z zs fr rest total r u us
goes_after (Ok tally) o e x = record { by = record { is = x.by.is ∙ e; ready = x.by.ready; others = others_trans o x.by.others } }
goes_after (Err stop) o e x = record { by = x.by ∙ e }

opens_after : {bytes t : List ℕ} {fr : Frame} {s rs u us : List ℕ} {rest : Rest} {total : Out (Unit {0})} (r : Result Tally Halt)
    → Ends bytes t fr.function.0 fr.at fr.held s rs rest total r u us → Open bytes t u us fr r
opens_after (Ok tally) x = record { by = x.by.ready }
opens_after (Err stop) x = record { by = tt }

module _ {bytes t s rs : List ℕ} {fr : Frame} {before : Result Tally Halt} where
  open_went : {tally : Tally} → before ≡ Ok tally → Open bytes t s rs fr before → Ready bytes t s rs fr.function.0 fr.at fr.held tally.sum
  open_went e o = subst (λ (r : Result Tally Halt). Opening bytes t s rs fr r) e o.by

  -- what `add_expression` asks
  pub ask_wants : {tally : Tally} (k : ℕ) → before ≡ Ok tally → Open bytes t s rs fr before → k ≤ returned → Wants s rs (want_of k)
  ask_wants k e o l = slot_wants (open_went e o).memory k l

  pub ask_went : {tally : Tally} (e k : ℕ) {r : Result Tally Halt} {u us : List ℕ} → before ≡ Ok tally → Open bytes t s rs fr before → k ≤ returned
      → Walks bytes t fr.function.0 fr.at fr.held s rs (add_expression (module_of bytes t) fr.function.0 fr.held e (asked s rs (want_of k))) tally.visits r u us
      → Asked bytes t s rs fr before (add_expression (module_of bytes t) fr.function.0 fr.held e) k r u us
  ask_went {tally} e k {r} {u} {us} is o l w =
      let ready = open_went is o in
      record {
        opens = opens_after r (w.by (some_rest (totals_sum (read s rs))) (rest_counts (totals_sum (read s rs))));
        by = λ z zs rest total m h g.
            let x = subst (λ (b : Result Tally Halt). Going bytes t z zs fr rest total b s rs) is g.by in
            let still = others_still ready.low m x.others in
            goes_after r x.others
            (rw (asked-slot s rs k, still.slot k (omega arith)) (sym (next_went (add_expression (module_of bytes t) fr.function.0 fr.held e (part z (get_or zs k 0))) (sym x.is))))
            (w.by rest (h ∙ sym (others_totals (ready_fits ready) ready.low x.others)));
      }

  -- an expression that may be absent
  pub maybe_absent : {e : Optional Handle} (k : ℕ) → e ≡ None → Open bytes t s rs fr before
      → Asked bytes t s rs fr before (maybe_ask (module_of bytes t) fr.function.0 fr.held (handle_in e)) k before s rs
  unfolding handle_in maybe_ask
  maybe_absent k h o =
      rw h (record { opens = o; by = λ z zs rest total m x g. record { by = subst (λ (y : Out (Unit {0})). Going bytes t z zs fr rest y before s rs) (sym (next_self total)) g.by } })

  pub maybe_there : {e : Optional Handle} {there : Handle} (k : ℕ) {r : Result Tally Halt} {u us : List ℕ} → e ≡ Some there
      → Asked bytes t s rs fr before (add_expression (module_of bytes t) fr.function.0 fr.held there.0) k r u us
      → Asked bytes t s rs fr before (maybe_ask (module_of bytes t) fr.function.0 fr.held (handle_in e)) k r u us
  unfolding handle_in maybe_ask
  maybe_there k h a = rw h a

-- an optional handle that is there, of what it stands for
module _ {e : Optional Handle} {there : Handle} (h : e ≡ Some there) where
  pub handle_there : {o : Option ℕ} → handle_in e ≡ o → o ≡ some there.0
  unfolding handle_in
  handle_there g = sym g ∙ rw h refl

  pub maybe_below : (n : ℕ) → MaybeBelow n (handle_in e) → there.0 < n
  unfolding handle_in
  maybe_below n b = rw h at b

pub handle_absent : {e : Optional Handle} {o : Option ℕ} → e ≡ None → handle_in e ≡ o → o ≡ nothing
unfolding handle_in
handle_absent h g = sym g ∙ rw h refl

pub handle_given : {e : Handle} {n : ℕ} → e.0 ≡ n → handle_in (Some e) ≡ some n
unfolding handle_in
handle_given h = ap (λ (n : ℕ). some n) h

pub optional_is : (fr : walk.Frame) (m : _) (o : Option ℕ) (p : PartReq) (st : State) → maybe_ask m fr.function fr.held o p st ≡ ask_optional m fr o p st
unfolding maybe_ask ask_optional
optional_is fr m nothing p st = refl
optional_is fr m (some e) p st = refl

-- how the walk begins, and how it ends
module _ {bytes t s rs : List ℕ} {fr : Frame} where
  pub begins : {visits sum : ℕ} → Ready bytes t s rs fr.function.0 fr.at fr.held sum → Open bytes t s rs fr (Ok (record { visits = visits; sum = sum }))
  begins r = record { by = r }

  pub began : {visits sum : ℕ} (rest : Rest) → Ready bytes t s rs fr.function.0 fr.at fr.held sum
      → Goes bytes t s rs fr rest (went (state_of t fr.function.0 fr.at (read s rs) rest visits) tt) (Ok (record { visits = visits; sum = sum })) s rs
  began rest r = record { by = record { is = refl; ready = r; others = others_same refl refl } }

  -- with the answer b, for an arm that came to s rs from z zs
  pub ends : {A : Type 0} {z zs u us : List ℕ} {rest : Rest} {total : Out (Unit {0})} {whole : Out A} (answer : Bool → A) (b : Bool) (r : Result Tally Halt)
      → Apart t fr.function.0 fr.at z zs s rs → (total >> λ left. went left (answer b)) ≡ whole
      → Goes bytes t s rs fr rest total r u us → ArmEnds bytes t z zs fr rest whole answer (answer_of r b) u us
  ends answer b (Ok tally) a e g =
      record {
        by = record {
          is = sym (next_went (λ left. went left (answer b)) (sym g.by.is)) ∙ e;
          ready = g.by.ready;
          apart = apart_trans a (others_apart g.by.others);
        };
      }
  ends answer b (Err stop) a e g = record { by = sym (next_halt (λ left. went left (answer b)) (sym g.by)) ∙ e }
