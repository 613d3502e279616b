-- A store: the target, what is needed of it, and taking it out, one after the other, are the definition's.
use Prim.Native.Nat.{ℕ, ◌<◌}
use native.Mathlib.Omega.{arith}
use mathlib.Core.Path.{◌≡◌, refl, sym, ap, subst, ◌∙◌}
use mathlib.Core.Bool.{true, false}
use mathlib.Core.List.{List}
use Rattle.std.specs.Prelude.{Option, Some, None, Result, Ok, Err}
use Rattle.part.specs.PartReq.{PartReq, exist, Subpart, gone, there}
use Rattle.part.specs.Store.{top, part}
use Rattle.part.specs.Found.{Got}
use Rattle.module.specs.Module.{Module, ExpressionHandle}
use Rattle.module.specs.Tables.{module_of}
use Rattle.context.specs.RequiredContext.{VarRef, remove_var}
use Rattle.context.specs.Contexts.{variable_of}
use Rattle.sound.proofs.Walks.{module_sound}
use Rattle.walk.specs.State.{State, Out, went, Walk, ◌>>◌}
use Rattle.walk.specs.Resolve.{function_at, store_required}
use Rattle.walk.specs.Statement.{Frame, ask, target, taken_out, add_store, store}
use Rattle.walk.proofs.Bind.{then_went, next_halt}
use Rattle.memory.specs.Memory.{read, context_at}
use Rattle.memory.proofs.Slots.{kept_read}
use Rattle.state.specs.State.{state_of}
use Rattle.state.specs.Frame.{frame_of}
use Rattle.state.specs.declared.answer.Halt.{Halt}
use Rattle.state.specs.declared.frame.Frame as declared
use Rattle.state.proofs.Others.{others_same, others_apart, apart_trans}
use Rattle.target.specs.declared.resolve.Target as resolve
use Rattle.target.proofs.Checking.{need_fine}
use Rattle.statement.specs.Aim.{Aiming, Aimed, AimIs, Aims}
use Rattle.statement.specs.Stores.{Taking, TakeIs, Takes, Stores}
use Rattle.statement.specs.declared.aim.Aim.{Aim}
use Rattle.statement.proofs.Aiming.{kept_ready}

-- the definition, once the target is known
module _ (m : Module) (fr : Frame) (e : ExpressionHandle) (accessors : Walk (Unit {0})) (value : ExpressionHandle) {var : VarRef} {part : PartReq} {need : Subpart} {st : State} (is : went st (record { var = var; part = part; needed = need }) ≡ target m fr e st) where
  known : store m fr e accessors value st ≡ add_store m fr e accessors value var part need st
  known = then_went (λ found t. add_store m fr e accessors value t.var t.part t.needed found) (sym is)

  store_nothing : need ≡ gone → went st false ≡ store m fr e accessors value st
  unfolding add_store
  store_nothing h = sym (known ∙ rw h)

  store-part : {p : PartReq} → need ≡ there p
      → (taken_out fr (remove_var m (function_at m fr.function) st.context var part) st >> ask m fr e exist >> accessors >> ask m fr value p >> λ left. went left true) ≡ store m fr e accessors value st
  unfolding add_store
  store-part h = sym (known ∙ rw h)

module _ {bytes t s rs : List ℕ} {fr : declared.Frame} {e : ℕ} (q : Aiming bytes t s rs fr e) {a : Result Aim Halt} {u : List ℕ} (x : Aims bytes t s rs fr e a u) where
  module _ {y : resolve.Target} {found : Option ℕ} (h : a ≡ Ok (record { target = y; needed = found })) where
    pub aimed : Aimed (module_of bytes t) (frame_of s rs fr) e (context_at (read s rs) fr.at) u y found
    aimed = subst (AimIs (module_of bytes t) (frame_of s rs fr) e (context_at (read s rs) fr.at) u) h x.by

    same : read u rs ≡ read s rs
    same = kept_read rs x.kept q.begun.ready.memory.below

    pub store_none : found ≡ None → Stores bytes t s rs fr e (Ok false) u rs
    store_none z =
        let none_needed = subst (Got u (store_required (context_at (read s rs) fr.at) (variable_of y.var) (part u y.part))) z aimed.needs in
        record {
          by = (
            λ sum ready. (kept_ready ready x.kept, others_apart (others_same refl same)),
            λ accessors value rest v.
                ap (λ (st : State). went st false) (ap (λ (ps : List PartReq). state_of t fr.function.0 fr.at ps rest v) same)
                ∙ store_nothing (module_of bytes t) (frame_of s rs fr) e accessors value (aimed.is (state_of t fr.function.0 fr.at (read s rs) rest v) refl) none_needed,
          );
        }

    module _ {n : ℕ} (z : found ≡ Some n) where
      needed : (n < top u) × (store_required (context_at (read s rs) fr.at) (variable_of y.var) (part u y.part) ≡ there (part u n))
      needed = subst (Got u (store_required (context_at (read s rs) fr.at) (variable_of y.var) (part u y.part))) z aimed.needs

      pub store_takes : Taking bytes t u rs fr y n
      store_takes =
          let fine =
          need_fine (module_of bytes t) (module_sound bytes (module_of bytes t) q.begun.ready.was_read.module_is) fr.function.0 (context_at (read s rs) fr.at) (variable_of y.var) (part u y.part) u n q.begun.fine needed in
          record {
            sum = q.sum;
            ready = kept_ready q.begun.ready x.kept;
            has = aimed.has;
            short = aimed.few;
            piece = needed.0;
            fine = fine.fine.within;
            small = omega (arith, fine.few, q.begun.few);
            few = rw same q.begun.few;
            roomy = omega (arith, q.begun.roomy, x.cost, x.kept.long);
          }

      module _ {r : Result (Unit {0}) Halt} {v vs : List ℕ} (d : Takes bytes t u rs fr y n r v vs) where
        pub store_stops : {stop : Halt} → r ≡ Err stop → Stores bytes t s rs fr e (Err stop) v vs
        store_stops g =
            let f = subst (λ (r : Result (Unit {0}) Halt). TakeIs bytes t u rs fr y n r v vs) g d.by in
            record {
              by = λ accessors value rest i.
                  let st = state_of t fr.function.0 fr.at (read s rs) rest i in
                  sym (next_halt _ (next_halt _ (next_halt _ (next_halt (ask (module_of bytes t) (frame_of s rs fr) e exist) (sym (rw same at (f st)))))))
                  ∙ store-part (module_of bytes t) (frame_of s rs fr) e accessors value (aimed.is st refl) needed.1;
            }

        pub store_goes : {done : Unit {0}} → r ≡ Ok done → Stores bytes t s rs fr e (Ok true) v vs
        store_goes g =
            let f = subst (λ (r : Result (Unit {0}) Halt). TakeIs bytes t u rs fr y n r v vs) g d.by in
            record {
              by = (
                λ sum ready.
                    let l = f.left sum (kept_ready ready x.kept) in
                    record {
                      ready = l.ready;
                      apart = apart_trans (others_apart (others_same refl same)) l.apart;
                      totals = rw same at l.totals;
                      asks = refl;
                    },
                λ accessors value rest i.
                    let st = state_of t fr.function.0 fr.at (read s rs) rest i in
                    let l = f.left q.sum (kept_ready q.begun.ready x.kept) in
                    rw l.asks
                    (ap (λ (o : Out (Unit {0})). o >> ask (module_of bytes t) (frame_of s rs fr) e exist >> accessors >> ask (module_of bytes t) (frame_of s rs fr) value (part u n) >> λ left. went left true) (rw same at (f.is rest i))
                    ∙ store-part (module_of bytes t) (frame_of s rs fr) e accessors value (aimed.is st refl) needed.1),
              );
            }
