-- Taking a target out of the context: what that asks of the memory, and that what is left is the definition's.
use Prim.Native.Nat.{ℕ, ◌+◌, ◌*◌, ◌≤◌}
use native.Mathlib.Omega.{arith}
use mathlib.Core.Path.{◌≡◌, refl, sym, ap, subst, ◌∙◌}
use mathlib.Core.Bool.{Bool, true, false}
use mathlib.Core.List.{List}
use lib.ListN.{length, set}
use Rattle.std.specs.Prelude.{Ok, Err}
use Rattle.field.specs.declared.refusal.Refusal.TheVariants.{Panic as Panics, PartLimit}
use Rattle.part.specs.PartReq.{entries}
use Rattle.part.specs.Store.{part}
use Rattle.module.specs.Tables.{module_of}
use Rattle.context.specs.Types.{split_most}
use Rattle.context.specs.RequiredContext.{RequiredContext, RemovedContext, left_context, panic_context, pieces, over_context, remove_var, variable_type}
use Rattle.context.specs.Contexts.{context_of, HasContext, variable_of, removed, HasRemoved, TookContext, take_room}
use Rattle.context.specs.declared.required_context.RequiredContext.{RequiredContext as Pieces}
use Rattle.std.specs.Prelude.{Option, Some, None}
use Rattle.context.proofs.Contexts.{pieces-removed}
use Rattle.type_table.proofs.AllSized.{all_sized}
use Rattle.sound.proofs.Walks.{module_valid}
use Rattle.walk.specs.State.{State, went, halt, with_context, limited_context}
use Rattle.walk.specs.Resolve.{function_at}
use Rattle.walk.specs.Statement.{Frame, here, taken_out}
use Rattle.memory.specs.Layout.{ask}
use Rattle.memory.specs.Memory.{read, context_at}
use Rattle.memory.specs.Stretches.{four_set}
use Rattle.memory.proofs.Slots.{kept_read, kept_memory}
use Rattle.memory.proofs.Runs.{four_read, four_memory, four_long}
use Rattle.state.specs.State.{state_of}
use Rattle.state.specs.Ready.{Ready}
use Rattle.state.specs.Frame.{frame_of}
use Rattle.state.specs.declared.answer.Place.TheVariants as place
use Rattle.state.specs.declared.frame.Frame as declared
use Rattle.state.proofs.Others.{others_totals, ready_fits, others_apart, apart_trans}
use Rattle.target.specs.declared.resolve.Target.{Target}
use Rattle.memory.specs.Stretches.{pieces_at}
use Rattle.statement.specs.Stores.{Taking, Takes}
use Rattle.statement.proofs.Placed.{Placed, placed_state, placed_ready, placed_others}
use Rattle.statement.proofs.Holding.{Holdable, hold_ready, hold_state, hold_totals, hold_apart, hold_part}
use Rattle.statement.proofs.Aiming.{pieces_are}

-- the definition
module _ (fr : Frame) (st : State) where
  taken_13 : halt 13 (here fr) ≡ taken_out fr panic_context st
  unfolding taken_out
  taken_13 = refl

  taken_15 : (c : RequiredContext) → over_context c ≡ true → halt 15 (here fr) ≡ taken_out fr (left_context c) st
  unfolding taken_out limited_context
  taken_15 c o = rw o

  taken_left : (c : RequiredContext) → over_context c ≡ false → went (with_context c st) tt ≡ taken_out fr (left_context c) st
  unfolding taken_out limited_context
  taken_left c o = rw o

module _ {bytes t s rs : List ℕ} {fr : declared.Frame} {x : Target} {n : ℕ} (q : Taking bytes t s rs fr x n) where
  abbrev before : RequiredContext
  before = context_at (read s rs) fr.at

  abbrev taking : RemovedContext
  taking = remove_var (module_of bytes t) (function_at (module_of bytes t) fr.function.0) before (variable_of x.var) (part s x.part)

  pub take_slots : fr.at + 4 ≤ length rs
  take_slots = q.ready.high

  module _ {c : Pieces} (loaded : c ≡ pieces_at rs fr.at) where
    context_is : context_of s c ≡ before
    context_is = rw loaded (pieces_are q.ready.memory fr.at take_slots)

    module _ {u : List ℕ} {r : Option Pieces} (d : TookContext s u (remove_var (module_of bytes t) (function_at (module_of bytes t) fr.function.0) (context_of s c) (variable_of x.var) (part s x.part)) (take_room (context_of s c) (part s x.part)) r) where
      is : removed u r ≡ taking
      is = rw context_is at d.is

      pub take_panics : {us : List ℕ} → r ≡ None → Takes bytes t s rs fr x n (Err (record { refusal = Panics; place = place.Statement fr.function fr.statement })) u us
      take_panics h =
          let e : panic_context ≡ taking = rw h at is in
          record { by = λ st. taken_13 (frame_of s rs fr) st ∙ ap (λ (y : RemovedContext). taken_out (frame_of s rs fr) y st) e }

      module _ {y : Pieces} (h : r ≡ Some y) where
        pub take_has : HasContext u y
        take_has = subst (HasRemoved u) h d.has

        left_is : left_context (context_of u y) ≡ taking
        left_is = rw h at is

        pub take_long : {o : Bool} {us : List ℕ} → o ≡ over_context (context_of u y) → o ≡ true → Takes bytes t s rs fr x n (Err (record { refusal = PartLimit; place = place.Statement fr.function fr.statement })) u us
        take_long i z =
            record { by = λ st. taken_15 (frame_of s rs fr) st (context_of u y) (sym i ∙ z) ∙ ap (λ (w : RemovedContext). taken_out (frame_of s rs fr) w st) left_is }

        grown : pieces (context_of u y) ≤ pieces before + split_most * (1 + entries (part s x.part))
        unfolding remove_var
        grown =
            pieces-removed (module_of bytes t).types (all_sized (module_of bytes t) (module_valid bytes (module_of bytes t) q.ready.was_read.module_is)) before (context_of u y)
            (variable_type (module_of bytes t) (function_at (module_of bytes t) fr.function.0) (variable_of x.var)) (part s x.part) (variable_of x.var) (sym left_is)

        module _ {vs : List ℕ} (saved : vs ≡ four_set rs fr.at y.globals y.locals y.args y.retval) where
          placed : Placed s rs fr.at (context_of u y) u vs
          placed =
              rw saved
              (record {
                memory = four_memory fr.at _ _ _ _ (kept_memory q.ready.memory d.kept) (omega (arith, q.ready.low)) take_slots (take_has.globals, (take_has.locals, (take_has.args, take_has.retval)));
                reads = four_read u rs fr.at _ _ _ _ ∙ rw (kept_read rs d.kept q.ready.memory.below);
                long = four_long rs fr.at _ _ _ _;
              })

          open_after : (sum : ℕ) → Ready bytes t s rs fr.function.0 fr.at fr.held sum → Ready bytes t u vs fr.function.0 fr.at fr.held sum
          open_after sum ready =
              placed_ready ready placed (omega (arith, grown, q.few, q.short, q.ready.sums, ready.sums))

          part_is : part u n ≡ part s n
          part_is = d.kept.same n q.piece

          holdable : Holdable u ask n
          holdable = record {
            low = omega arith;
            high = omega arith;
            piece = omega (arith, q.piece, d.kept.tops);
            few = rw part_is (omega (arith, q.small));
            fine = rw part_is q.fine;
          }

          pub take_done : {o : Bool} → o ≡ over_context (context_of u y) → o ≡ false → Takes bytes t s rs fr x n (Ok tt) u (set vs ask n)
          take_done i z = record {
            by = record {
              left = λ sum ready.
                  let after = open_after sum ready in
                  record {
                    ready = hold_ready after holdable;
                    apart = apart_trans (others_apart (placed_others ready placed)) (hold_apart after holdable);
                    totals = hold_totals after holdable ∙ others_totals (ready_fits ready) ready.low (placed_others ready placed);
                    asks = hold_part after holdable ∙ part_is;
                  };
              is = λ rest v.
                  ap (λ (st : State). went st tt) (hold_state (open_after q.sum q.ready) holdable rest v ∙ placed_state q.ready placed rest v)
                  ∙ taken_left (frame_of s rs fr) (state_of t fr.function.0 fr.at (read s rs) rest v) (context_of u y) (sym i ∙ z)
                  ∙ ap (λ (w : RemovedContext). taken_out (frame_of s rs fr) w (state_of t fr.function.0 fr.at (read s rs) rest v)) left_is;
            };
          }
