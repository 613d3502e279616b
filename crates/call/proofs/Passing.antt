-- The asks of arguments, one after the other: each is put into the slot that is asked with, and leaves what is needed of the others as it was.
use Prim.Native.Nat.{ℕ, zero, suc, ◌+◌, ◌<◌, ◌≤◌}
use native.Mathlib.Omega.{arith}
use mathlib.Core.Path.{◌≡◌, refl, sym, ap, subst, ◌∙◌}
use mathlib.Core.List.{List, [], ◌∷◌, ◌++◌}
use lib.ListN.{length, get_or, set}
use lib.Seq.{get_or-set_other}
use Rattle.std.specs.Prelude.{Result, Ok, Err}
use Rattle.part.specs.PartReq.{PartReq, entries, Subpart, gone, there, get_subpart, spine}
use Rattle.part.specs.Store.{top, part}
use Rattle.module.specs.Module.{Module}
use Rattle.module.specs.Decode.{tab}
use Rattle.module.specs.Tables.{module_of}
use Rattle.module.proofs.Tab.{length-tab}
use Rattle.access.specs.Access.{operand_at}
use Rattle.access.specs.declared.kinded.Kinded.{Kinded}
use Rattle.context.specs.RequiredContext.{RequiredContext, empty_context, variable}
use Rattle.walk.specs.State.{State, Out, went, ◌>>◌, total_pieces}
use Rattle.walk.specs.Expression.{add_expression}
use Rattle.walk.specs.Statement.{ask_needed, ask_arguments}
use Rattle.walk.specs.Statement as walk
use Rattle.walk.specs.Proper.{Fine}
use Rattle.walk.proofs.Bind.{next_went, next_halt, next_next, next_self, next_same}
use Rattle.walk.proofs.Keeps.{Needs}
use Rattle.walk.proofs.Parts.{variables_subpart}
use Rattle.memory.specs.Layout.{ask, result, returned, stack_slot}
use Rattle.memory.specs.Memory.{read, Memory}
use Rattle.state.specs.State.{Rest, state_of, totals_sum}
use Rattle.state.specs.Ready.{Ready, Others}
use Rattle.state.specs.declared.answer.Tally.{Tally}
use Rattle.state.specs.declared.frame.Frame.{Frame}
use Rattle.state.specs.declared.answer.Halt.{Halt}
use Rattle.state.proofs.Others.{others_still, ready_fits, others_apart, apart_trans, apart_totals}
use Rattle.state.proofs.Rests.{some_rest, rest_counts}
use Rattle.statement.specs.Asks.{Open, Goes, Asked}
use Rattle.statement.proofs.Asking.{began, begins}
use Rattle.statement.proofs.Holding.{Holdable, hold_ready, hold_state, hold_totals, hold_apart, hold_part}
use Rattle.statement.proofs.Uses.{sub_few}
use Rattle.call.specs.Calls.{frame_over, arguments_of, Needed, Calling, PassableAs, Passable, Beside, Passed, Passing, Passes, Argued, AskedArguments}

module _ {t : List ℕ} {f at : ℕ} where
  pub beside_self : {s rs : List ℕ} → Beside t f at s rs s rs
  beside_self = record { apart = record { long = refl; same = λ k l e. refl }; result_same = refl; returned_same = refl }

  beside_trans : {s rs u us v vs : List ℕ} → Beside t f at s rs u us → Beside t f at u us v vs → Beside t f at s rs v vs
  beside_trans a b = record {
    apart = apart_trans a.apart b.apart;
    result_same = b.result_same ∙ a.result_same;
    returned_same = b.returned_same ∙ a.returned_same;
  }

  others_beside : {s rs u us : List ℕ} → stack_slot ≤ at → Memory s rs → Others t f at s rs u us → Beside t f at s rs u us
  others_beside low m o =
      let still = others_still low m o in
      record { apart = others_apart o; result_same = still.slot result (omega arith); returned_same = still.slot returned (omega arith) }

  hold_beside : {bytes s rs : List ℕ} {held sum n : ℕ} → Ready bytes t s rs f at held sum → Holdable s ask n → Beside t f at s rs s (set rs ask n)
  hold_beside {bytes} {s} {rs} {held} {sum} {n} r h = record {
    apart = hold_apart r h;
    result_same = ap (part s) (get_or-set_other rs ask result n 0 (omega arith));
    returned_same = ap (part s) (get_or-set_other rs ask returned n 0 (omega arith));
  }

module _ {bytes t : List ℕ} {fr : Frame} where
  -- how the asks begin
  pub passes_self : {s rs : List ℕ} {visits sum : ℕ} (rest : Rest) → Ready bytes t s rs fr.function.0 fr.at fr.held sum
      → Passes bytes t s rs fr rest (went (state_of t fr.function.0 fr.at (read s rs) rest visits) tt) (Ok (record { visits = visits; sum = sum })) s rs
  passes_self rest r = record { by = record { is = refl; ready = r; beside = beside_self } }

  -- what a statement's ask leaves, from where the asks began
  pub goes_passes : {z zs s rs u us : List ℕ} {rest : Rest} {first whole : Out (Unit {0})} (r : Result Tally Halt)
      → stack_slot ≤ fr.at → Memory s rs → Beside t fr.function.0 fr.at z zs s rs → first ≡ whole
      → Goes bytes t s rs fr rest first r u us → Passes bytes t z zs fr rest whole r u us
  goes_passes (Ok tally) low m b e g =
      record { by = record { is = g.by.is ∙ e; ready = g.by.ready; beside = beside_trans b (others_beside low m g.by.others) } }
  goes_passes (Err stop) low m b e g = record { by = g.by ∙ e }

  pub passes_passable : {s rs u us : List ℕ} {rest : Rest} {total : Out (Unit {0})} (r : Result Tally Halt)
      → Needed (part s (get_or rs returned 0)) → Passes bytes t s rs fr rest total r u us → Passable bytes t u us fr r
  passes_passable (Ok tally) n p = record { by = (p.by.ready, subst Needed (sym p.by.beside.returned_same) n) }
  passes_passable (Err stop) n p = record { by = tt }

-- the definition
module _ (m : Module) (fr : walk.Frame) (e : ℕ) (st : State) where
  needed_none : (p : Subpart) → p ≡ gone → ask_needed m fr e p st ≡ went st tt
  unfolding ask_needed
  needed_none p h = rw h

  needed_there : (p : Subpart) (q : PartReq) → p ≡ there q → ask_needed m fr e p st ≡ add_expression m fr.function fr.held e q st
  unfolding ask_needed
  needed_there p q h = rw h

-- the arguments with one more
arguments_more : (m : Module) (fr : walk.Frame) (args : PartReq) (es : List ℕ) (e i j : ℕ) (st : State) → j ≡ i + length es
    → ask_arguments m fr (es ++ (e ∷ [])) i args st ≡ (ask_arguments m fr es i args st >> ask_needed m fr e (get_subpart args (variable j)))
unfolding ask_arguments
arguments_more m fr args [] e i j st h =
    let same : j ≡ i = omega arith in
    rw same (next_self (ask_needed m fr e (get_subpart args (variable i)) st))
arguments_more m fr args (d ∷ es) e i j st h =
    next_same (ask_needed m fr d (get_subpart args (variable i)) st) (ask_arguments m fr (es ++ (e ∷ [])) (suc i) args)
    (λ left. ask_arguments m fr es (suc i) args left >> ask_needed m fr e (get_subpart args (variable j)))
    (λ left. arguments_more m fr args es e (suc i) j left (omega arith))
    ∙ sym (next_next (ask_needed m fr d (get_subpart args (variable i)) st) (ask_arguments m fr es (suc i) args) (ask_needed m fr e (get_subpart args (variable j))))

tab-more : (m : Module) (fr : walk.Frame) (args : PartReq) (k : ℕ) (o : ℕ → ℕ) (st : State)
    → ask_arguments m fr (tab (suc k) o) 0 args st ≡ (ask_arguments m fr (tab k o) 0 args st >> ask_needed m fr (o k) (get_subpart args (variable k)))
unfolding tab
tab-more m fr args k o st = arguments_more m fr args (tab k o) (o k) 0 k st (omega (arith, length-tab k o))

-- one argument
module _ {bytes t s rs : List ℕ} {fr : Frame} {before : Result Tally Halt} (e i : ℕ) where
  module _ {tally : Tally} (is : before ≡ Ok tally) (o : Passable bytes t s rs fr before) where
    opened : Ready bytes t s rs fr.function.0 fr.at fr.held tally.sum × Needed (part s (get_or rs returned 0))
    opened = subst (λ (r : Result Tally Halt). PassableAs bytes t s rs fr r) is o.by

    -- nothing is needed of it
    pub argue_none : get_subpart (part s (get_or rs returned 0)) (variable i) ≡ gone → Argued bytes t s rs fr before e i (Ok tally) s rs
    argue_none h = record {
      opens = record { by = opened };
      by = λ c z zs rest total counts p.
          let x = subst (λ (b : Result Tally Halt). Passing bytes t z zs fr rest total b s rs) is p.by in
          let walk = ask_needed (module_of bytes t) (frame_over fr c) e (get_subpart (part z (get_or zs returned 0)) (variable i)) in
          record {
            by = record {
              is =
                  sym
                  (next_went walk (sym x.is)
                  ∙ needed_none (module_of bytes t) (frame_over fr c) e (state_of t fr.function.0 fr.at (read s rs) rest tally.visits) _
                  (ap (λ (q : PartReq). get_subpart q (variable i)) (sym x.beside.returned_same) ∙ h));
              ready = x.ready;
              beside = x.beside;
            };
          };
    }

    -- the piece n is
    module _ {n : ℕ} (h : (n < top s) × (get_subpart (part s (get_or rs returned 0)) (variable i) ≡ there (part s n))) where
      fine : Fine (part s n)
      fine =
          subst (Needs Fine) h.1 (variables_subpart opened.1.count spine (variable i) (part s (get_or rs returned 0)) opened.1.are)

      few : entries (part s n) ≤ entries (part s (get_or rs returned 0))
      few =
          subst (Needs (λ (q : PartReq). entries q ≤ entries (part s (get_or rs returned 0)))) h.1 (sub_few (part s (get_or rs returned 0)) (variable i))

      holdable : Holdable s ask n
      holdable = record {
        low = omega arith;
        high = omega arith;
        piece = h.0;
        few = omega (arith, few, opened.0.memory.asking returned (omega arith) (omega arith));
        fine = fine.within;
      }

      pub argue_begins : Open bytes t s (set rs ask n) fr (Ok tally)
      argue_begins = begins (hold_ready opened.0 holdable)

      module _ {r : Result Tally Halt} {u us : List ℕ} (a : Asked bytes t s (set rs ask n) fr (Ok tally) (add_expression (module_of bytes t) fr.function.0 fr.held e) ask r u us) where
        passes : (c : RequiredContext) (z zs : List ℕ) (rest : Rest) (total : Out (Unit {0})) → total_pieces rest.functions ≡ totals_sum (read z zs)
            → Passed bytes t z zs fr rest total tally.visits tally.sum s rs
            → Passes bytes t z zs fr rest (total >> ask_needed (module_of bytes t) (frame_over fr c) e (get_subpart (part z (get_or zs returned 0)) (variable i))) r u us
        passes c z zs rest total counts x =
            let ready = hold_ready opened.0 holdable in
            let walk = ask_needed (module_of bytes t) (frame_over fr c) e (get_subpart (part z (get_or zs returned 0)) (variable i)) in
            let same = apart_totals (ready_fits opened.0) opened.0.low x.beside.apart in
            goes_passes r opened.0.low ready.memory (beside_trans x.beside (hold_beside opened.0 holdable))
            (rw (hold_state opened.0 holdable rest tally.visits, hold_part opened.0 holdable)
            (sym
            (next_went walk (sym x.is)
            ∙ needed_there (module_of bytes t) (frame_over fr c) e (state_of t fr.function.0 fr.at (read s rs) rest tally.visits) _ (part s n)
            (ap (λ (q : PartReq). get_subpart q (variable i)) (sym x.beside.returned_same) ∙ h.1))))
            (a.by s (set rs ask n) rest _ ready.memory (counts ∙ sym same ∙ sym (hold_totals opened.0 holdable)) (began rest ready))

        pub argue_there : Argued bytes t s rs fr before e i r u us
        argue_there = record {
          opens =
              passes_passable r opened.1
              (passes empty_context s rs (some_rest (totals_sum (read s rs))) _ (rest_counts (totals_sum (read s rs))) (passes_self (some_rest (totals_sum (read s rs))) opened.0).by);
          by = λ c z zs rest total counts p.
              passes c z zs rest total counts (subst (λ (b : Result Tally Halt). Passing bytes t z zs fr rest total b s rs) is p.by);
        }

  pub argue_halt : {stop : Halt} → before ≡ Err stop → Argued bytes t s rs fr before e i (Err stop) s rs
  argue_halt is = record {
    opens = record { by = tt };
    by = λ c z zs rest total counts p.
        let x = subst (λ (b : Result Tally Halt). Passing bytes t z zs fr rest total b s rs) is p.by in
        record { by = sym (next_halt (ask_needed (module_of bytes t) (frame_over fr c) e (get_subpart (part z (get_or zs returned 0)) (variable i))) (sym x)) };
  }

-- the arguments
module _ {bytes t s rs : List ℕ} {fr : Frame} {row : Kinded} {visits : ℕ} where
  pub arguments_none : {sum : ℕ} → Calling bytes t s rs fr row sum → AskedArguments bytes t s rs fr row visits 0 (Ok (record { visits = visits; sum = sum })) s rs
  unfolding ask_arguments tab
  arguments_none a = record { opens = record { by = (a.ready, a.args) }; by = λ c rest counts. passes_self rest a.ready }

  pub arguments_next : {k j e : ℕ} {before r : Result Tally Halt} {z zs u us : List ℕ} → AskedArguments bytes t s rs fr row visits k before z zs
      → j ≡ suc k → e ≡ operand_at bytes row (2 + k) → Argued bytes t z zs fr before e k r u us → AskedArguments bytes t s rs fr row visits j r u us
  arguments_next {k} {j} {e} {before} {r} {z} {zs} {u} {us} a one is x = subst (λ (i : ℕ). AskedArguments bytes t s rs fr row visits i r u us) (sym one) (record {
    opens = x.opens;
    by = λ c rest counts.
        subst (λ (y : Out (Unit {0})). Passes bytes t s rs fr rest y r u us)
        (ap (λ (d : ℕ). ask_arguments (module_of bytes t) (frame_over fr c) (arguments_of bytes row k) 0 (part s (get_or rs returned 0)) (state_of t fr.function.0 fr.at (read s rs) rest visits) >> ask_needed (module_of bytes t) (frame_over fr c) d (get_subpart (part s (get_or rs returned 0)) (variable k))) is
        ∙ sym (tab-more (module_of bytes t) (frame_over fr c) (part s (get_or rs returned 0)) k (λ j. operand_at bytes row (2 + j)) (state_of t fr.function.0 fr.at (read s rs) rest visits)))
        (x.by c s rs rest _ counts (a.by c rest counts));
  })

  -- a refusal is that of all
  pub arguments_stop : (d : ℕ) {k n : ℕ} {stop : Halt} {u us : List ℕ} → AskedArguments bytes t s rs fr row visits k (Err stop) u us → n ≡ k + d → AskedArguments bytes t s rs fr row visits n (Err stop) u us
  arguments_stop zero {stop = stop} {u} {us} a e = subst (λ (i : ℕ). AskedArguments bytes t s rs fr row visits i (Err stop) u us) (omega (arith, e)) a
  arguments_stop (suc d) a e = arguments_stop d (arguments_next a refl refl (argue_halt _ _ refl)) (omega (arith, e))

  pub arguments_whole : {k : ℕ} {r : Result Tally Halt} {u us : List ℕ} → AskedArguments bytes t s rs fr row visits k r u us → k ≡ operand_at bytes row 1
      → AskedArguments bytes t s rs fr row visits (operand_at bytes row 1) r u us
  arguments_whole {k} {r} {u} {us} a e = subst (λ (i : ℕ). AskedArguments bytes t s rs fr row visits i r u us) e a
