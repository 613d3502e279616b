-- The end of a call: the result is asked after the arguments, in the memory that these have left, or not at all.
use Prim.Native.Nat.{ℕ, ◌+◌, ◌≤◌}
use mathlib.Core.Path.{◌≡◌, refl, sym, ◌∙◌}
use mathlib.Core.Bool.{Bool, true, false}
use mathlib.Core.List.{List}
use mathlib.Core.Option.{Option, some, none as nothing}
use lib.ListN.{get_or}
use Rattle.std.specs.Prelude.{Result, Ok, Err}
use Rattle.part.specs.PartReq.{PartReq, gone, there}
use Rattle.part.specs.Store.{part}
use Rattle.module.specs.Module.{Module}
use Rattle.module.specs.Decode.{option_of}
use Rattle.module.specs.Tables.{module_of}
use Rattle.access.specs.Access.{operand_at}
use Rattle.access.specs.declared.kinded.Kinded.{Kinded}
use Rattle.context.specs.RequiredContext.{RequiredContext}
use Rattle.walk.specs.State.{State, Out, went, halt, Walk, ◌>>◌, total_pieces}
use Rattle.walk.specs.Resolve.{is_there}
use Rattle.walk.specs.StatementReq.{StatementReq}
use Rattle.walk.specs.Statement.{ask_needed, ask_arguments, ask_result, end_call}
use Rattle.walk.specs.Statement as walk
use Rattle.walk.proofs.Bind.{next_went, next_halt}
use Rattle.memory.specs.Layout.{result, returned, stack_slot}
use Rattle.memory.specs.Memory.{read, Memory}
use Rattle.state.specs.State.{Rest, state_of, totals_sum}
use Rattle.state.specs.Frame.{ArmEnds}
use Rattle.state.specs.declared.frame.Frame.{Frame}
use Rattle.state.specs.declared.answer.Halt.{Halt}
use Rattle.state.specs.declared.answer.Tally.{Tally}
use Rattle.state.specs.declared.answer.Answer.{Answer}
use Rattle.state.proofs.Others.{ready_fits, apart_totals}
use Rattle.statement.specs.Asks.{Asked, maybe_ask, answer_of}
use Rattle.statement.proofs.Asking.{began}
use Rattle.call.specs.Calls.{frame_over, arguments_of, Calling, Passes, AskedArguments, EndsCall}
use Rattle.call.proofs.Passing.{beside_self, goes_passes}

-- the definition
result_none : (m : Module) (fr : walk.Frame) (o : Option ℕ) (st : State) → ask_result m fr o gone st ≡ went st tt
unfolding ask_result ask_needed
result_none m fr nothing st = refl
result_none m fr (some e) st = refl

result_some : (m : Module) (fr : walk.Frame) (o : Option ℕ) (p : PartReq) (st : State) → maybe_ask m fr.function fr.held o p st ≡ ask_result m fr o (there p) st
unfolding ask_result ask_needed maybe_ask
result_some m fr nothing p st = refl
result_some m fr (some e) p st = refl

next_skip : {B : Type 0} (x : Out (Unit {0})) (w : Walk (Unit {0})) (k : Walk B) → ((st : State) → w st ≡ went st tt) → (x >> k) ≡ (x >> w >> k)
next_skip (went st a) w k h = rw (h st)
next_skip (halt n at) w k h = refl

next_same : {B : Type 0} (x : Out (Unit {0})) (v w : Walk (Unit {0})) (k : Walk B) → ((st : State) → v st ≡ w st) → (x >> v >> k) ≡ (x >> w >> k)
next_same (went st a) v w k h = rw (h st)
next_same (halt n at) v w k h = refl

module _ {bytes t : List ℕ} {fr : Frame} where
  -- one ask more
  passes_next : {s rs z zs u us : List ℕ} {rest : Rest} {total : Out (Unit {0})} {r : Result Tally Halt} (walk : PartReq → Walk (Unit {0})) (before : Result Tally Halt)
      → stack_slot ≤ fr.at → Memory s rs → total_pieces rest.functions ≡ totals_sum (read s rs)
      → Passes bytes t s rs fr rest total before z zs → Asked bytes t z zs fr before walk result r u us
      → Passes bytes t s rs fr rest (total >> walk (part s (get_or rs result 0))) r u us
  passes_next {s} {rs} {z} {zs} {u} {us} {rest} {total} {r} walk (Ok tally) low m counts p a =
      let x = p.by in
      goes_passes r low x.ready.memory x.beside
      (rw x.beside.result_same (sym (next_went (walk (part s (get_or rs result 0))) (sym x.is))))
      (a.by z zs rest (went (state_of t fr.function.0 fr.at (read z zs) rest tally.visits) tt) x.ready.memory
      (counts ∙ sym (apart_totals (ready_fits x.ready) low x.beside.apart)) (began rest x.ready))
  passes_next {s} {rs} {z} {zs} {u} {us} {rest} {total} {r} walk (Err stop) low m counts p a =
      goes_passes r low m beside_self refl (a.by s rs rest total m counts (record { by = p.by }))

  -- with the answer b
  passes_ends : {A : Type 0} {s rs u us : List ℕ} {rest : Rest} {total : Out (Unit {0})} {whole : Out A} (answer : Bool → A) (b : Bool) (r : Result Tally Halt)
      → (total >> λ left. went left (answer b)) ≡ whole → Passes bytes t s rs fr rest total r u us → ArmEnds bytes t s rs fr rest whole answer (answer_of r b) u us
  passes_ends answer b (Ok tally) e p = record {
    by = record { is = sym (next_went (λ left. went left (answer b)) (sym p.by.is)) ∙ e; ready = p.by.ready; apart = p.by.beside.apart };
  }
  passes_ends answer b (Err stop) e p = record { by = sym (next_halt (λ left. went left (answer b)) (sym p.by)) ∙ e }

module _ {bytes t s rs : List ℕ} {fr : Frame} {row : Kinded} {sum visits : ℕ} (a : Calling bytes t s rs fr row sum) {passed : Result Tally Halt} {z zs : List ℕ} (x : AskedArguments bytes t s rs fr row visits (operand_at bytes row 1) passed z zs) where
  -- the expression of the result, and the walk of the arguments
  abbrev asked : Option ℕ
  asked = option_of (operand_at bytes row (2 + operand_at bytes row 1))

  abbrev arguments : RequiredContext → Rest → Out (Unit {0})
  arguments c rest =
      ask_arguments (module_of bytes t) (frame_over fr c) (arguments_of bytes row (operand_at bytes row 1)) 0 (part s (get_or rs returned 0)) (state_of t fr.function.0 fr.at (read s rs) rest visits)

  pub end_unasked : {req : Bool} {r : Result Answer Halt} → req ≡ false → r ≡ answer_of passed true → EndsCall bytes t s rs fr row req visits r z zs
  unfolding end_call
  end_unasked h e =
      rw (h, e)
      (record {
        by = λ c rest counts.
            passes_ends (λ b. StatementReq.Call b (is_there gone)) true passed
            (next_skip (arguments c rest) (ask_result (module_of bytes t) (frame_over fr c) asked gone) (λ left. went left (StatementReq.Call true (is_there gone)))
            (result_none (module_of bytes t) (frame_over fr c) asked))
            (x.by c rest counts);
      })

  pub end_asked : {req : Bool} {d : Option ℕ} {b : Result Answer Halt} {r : Result Tally Halt} {u us : List ℕ} → req ≡ true → d ≡ asked
      → Asked bytes t z zs fr passed (maybe_ask (module_of bytes t) fr.function.0 fr.held d) result r u us
      → b ≡ answer_of r true → EndsCall bytes t s rs fr row req visits b u us
  unfolding end_call
  end_asked {req} {d} {b} {r} {u} {us} h is y e =
      let p = part s (get_or rs result 0) in
      rw (h, e)
      (record {
        by = λ c rest counts.
            passes_ends (λ b. StatementReq.Call b (is_there (there p))) true r
            (next_same (arguments c rest) (maybe_ask (module_of bytes t) fr.function.0 fr.held d p) (ask_result (module_of bytes t) (frame_over fr c) asked (there p)) (λ left. went left (StatementReq.Call true (is_there (there p))))
            (λ st. rw is (result_some (module_of bytes t) (frame_over fr c) asked p st)))
            (passes_next (maybe_ask (module_of bytes t) fr.function.0 fr.held d) passed a.ready.low a.ready.memory counts (x.by c rest counts) y);
      })
