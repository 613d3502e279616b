-- The target of a store: what the search asks of the memory, and that its answer is the definition's.
use Prim.Native.Nat.{ℕ, ◌+◌, ◌≤◌}
use native.Mathlib.Omega.{arith}
use mathlib.Core.Path.{◌≡◌, sym, ap, subst, ◌∙◌}
use mathlib.Core.Bool.{Bool, true, false}
use mathlib.Core.List.{List, []}
use lib.ListN.{length}
use Rattle.std.specs.Prelude.{Option, Some, None, Ok, Err}
use Rattle.field.specs.declared.refusal.Refusal.TheVariants.{Panic, PartLimit}
use Rattle.part.specs.PartReq.{PartReq, over}
use Rattle.part.specs.Store.{part, Kept}
use Rattle.part.specs.Found.{Got}
use Rattle.module.specs.Tables.{module_of}
use Rattle.context.specs.RequiredContext.{RequiredContext}
use Rattle.context.specs.Contexts.{context_of, variable_of}
use Rattle.context.specs.declared.required_context.RequiredContext.{RequiredContext as Pieces}
use Rattle.sound.proofs.Walks.{module_sound}
use Rattle.walk.specs.State.{State, went, halt}
use Rattle.walk.specs.Resolve.{resolved, unresolved, resolve_var, store_required}
use Rattle.walk.specs.Statement.{here, target, target_of}
use Rattle.walk.specs.Statement as walk
use Rattle.walk.proofs.Bind.{limited_over, limited-under}
use Rattle.memory.specs.Memory.{read, context_at, Memory}
use Rattle.memory.proofs.Slots.{read_at, kept_read, kept_memory}
use Rattle.state.specs.Ready.{Ready}
use Rattle.state.specs.Frame.{frame_of}
use Rattle.state.specs.declared.answer.Place.TheVariants as place
use Rattle.state.specs.declared.frame.Frame.{Frame}
use Rattle.target.specs.Target.{HasTarget, HasResolved, var_ref_part, Resolves}
use Rattle.target.specs.declared.resolve.Target.{Target}
use Rattle.memory.specs.Stretches.{pieces_at}
use Rattle.statement.specs.Aim.{Aiming, Aims}
use Rattle.statement.proofs.Paths.{path_few}

-- a store that has grown
pub kept_ready : {bytes t s rs u : List ℕ} {f at held sum : ℕ} → Ready bytes t s rs f at held sum → Kept s u → Ready bytes t u rs f at held sum
kept_ready {bytes} {t} {s} {rs} {u} {f} {at} {held} {sum} r x =
    let same : read u rs ≡ read s rs = kept_read rs x r.memory.below in
    record {
      was_read = r.was_read;
      function = r.function;
      memory = kept_memory r.memory x;
      low = r.low;
      high = r.high;
      sums = rw same r.sums;
      owned = rw same r.owned;
      small = rw same r.small;
    }

-- the context by its pieces
module _ {s rs : List ℕ} (m : Memory s rs) (at : ℕ) (high : at + 4 ≤ length rs) where
  pub pieces_are : context_of s (pieces_at rs at) ≡ context_at (read s rs) at
  pieces_are =
      sym
      (rw (
        read_at s rs at (omega arith),
        read_at s rs (at + 1) (omega arith),
        read_at s rs (at + 2) (omega arith),
        read_at s rs (at + 3) (omega arith),
      ))

-- and in a store that has grown
module _ {s rs u : List ℕ} (m : Memory s rs) (x : Kept s u) (at : ℕ) (high : at + 4 ≤ length rs) where
  pub later_are : context_of u (pieces_at rs at) ≡ context_at (read s rs) at
  later_are = pieces_are (kept_memory m x) at high ∙ ap (λ (ps : List PartReq). context_at ps at) (kept_read rs x m.below)

-- the definition
module _ (m : _) (fr : walk.Frame) (e : ℕ) where
  target-13 : resolve_var m fr.function e [] ≡ unresolved → (st : State) → halt 13 (here fr) ≡ target m fr e st
  unfolding target_of
  target-13 h st = rw h

  target-15 : {var : _} {p : PartReq} → resolve_var m fr.function e [] ≡ resolved var p → over p ≡ true → (st : State) → halt 15 (here fr) ≡ target m fr e st
  unfolding target_of
  target-15 {var} {p} h o st = rw (h, limited_over (here fr) p st o)

  target_at : {var : _} {p : PartReq} (c : RequiredContext) → resolve_var m fr.function e [] ≡ resolved var p → over p ≡ false → (st : State) → st.context ≡ c
      → went st (record { var = var; part = p; needed = store_required c var p }) ≡ target m fr e st
  unfolding target_of
  target_at {var} {p} c h o st g = rw (h, limited-under (here fr) p st o, ← g)

module _ {bytes t s rs : List ℕ} {fr : Frame} {e : ℕ} (q : Aiming bytes t s rs fr e) where
  pub aim_slots : fr.at + 4 ≤ length rs
  aim_slots = q.begun.ready.high

  module _ {u : List ℕ} {r : Option Target} (x : Resolves (module_of bytes t) fr.function.0 e s u r) where
    pub aim_unresolved : r ≡ None → Aims bytes t s rs fr e (Err (record { refusal = Panic; place = place.Statement fr.function fr.statement })) u
    aim_unresolved h =
        let is : var_ref_part u None ≡ resolve_var (module_of bytes t) fr.function.0 e [] = rw h at x.is in
        record { kept = x.kept; cost = x.cost; by = λ st g. target-13 (module_of bytes t) (frame_of s rs fr) e (sym is) st }

    module _ {a : Target} (h : r ≡ Some a) where
      has : HasTarget (module_of bytes t) fr.function.0 u a
      has = subst (HasResolved (module_of bytes t) fr.function.0 u) h x.has

      is : resolve_var (module_of bytes t) fr.function.0 e [] ≡ resolved (variable_of a.var) (part u a.part)
      is = sym (subst (λ (y : Option Target). var_ref_part u y ≡ resolve_var (module_of bytes t) fr.function.0 e []) h x.is)

      pub aim_long : {o : Bool} → o ≡ over (part u a.part) → o ≡ true → Aims bytes t s rs fr e (Err (record { refusal = PartLimit; place = place.Statement fr.function fr.statement })) u
      aim_long i z =
          record { kept = x.kept; cost = x.cost; by = λ st g. target-15 (module_of bytes t) (frame_of s rs fr) e is (sym i ∙ z) st }

      module _ {c : Pieces} (loaded : c ≡ pieces_at rs fr.at) where
        pub aim_at : {o : Bool} {found : Option ℕ} → o ≡ over (part u a.part) → o ≡ false
            → Got u (store_required (context_of u c) (variable_of a.var) (part u a.part)) found → Aims bytes t s rs fr e (Ok (record { target = a; needed = found })) u
        aim_at i z g =
            let same : context_of u c ≡ context_at (read s rs) fr.at = rw loaded (later_are q.begun.ready.memory x.kept fr.at aim_slots) in
            record {
              kept = x.kept;
              cost = x.cost;
              by = record {
                has = has;
                needs = rw same at g;
                few = path_few (module_of bytes t) (module_sound bytes (module_of bytes t) q.begun.ready.was_read.module_is) fr.function.0 e (variable_of a.var) (part u a.part) is (sym i ∙ z);
                is = target_at (module_of bytes t) (frame_of s rs fr) e (context_at (read s rs) fr.at) is (sym i ∙ z);
              };
            }
