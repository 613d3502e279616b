-- The two contexts at the top of the stack joined: the state of the definition's `merged`, where no limit is passed (`Joined` says whether one is). It stands, since a join counts
-- for no more than both contexts did.
use Prim.Native.Nat.{ℕ, ◌+◌, ◌*◌, ◌≤◌}
use native.Mathlib.Omega.{arith}
use mathlib.Core.Path.{◌≡◌, sym, ◌∙◌}
use mathlib.Core.Bool.{Bool, false}
use mathlib.Core.List.{List}
use Rattle.field.specs.Limits.{max_pieces}
use Rattle.part.specs.Store.{Room}
use Rattle.module.specs.Tables.{module_of}
use Rattle.context.specs.RequiredContext.{RequiredContext, merge_context, over_context, pieces}
use Rattle.walk.specs.State.{with_context}
use Rattle.walk.specs.Proper.{FineContext}
use Rattle.walk.proofs.Proper.{proper, fine_context, context_fine}
use Rattle.walk.proofs.Room.{pieces-merge}
use Rattle.sound.proofs.Walks.{module_sound}
use Rattle.memory.specs.Layout.{stack_slot, room}
use Rattle.memory.specs.Memory.{read, context_at}
use Rattle.marks.specs.declared.places.MarkPlaces.{MarkPlaces}
use Rattle.marks.specs.declared.totals.MarkTotals.{MarkTotals}
use Rattle.access.specs.Laid.{WasRead}
use Rattle.block.specs.Standing.{state_in, Standing}
use Rattle.block.specs.Saved.{Joined}
use Rattle.block.specs.Blocks.{context_in, Beside}
use Rattle.block.proofs.Tops.{popped_state, popped_standing}
use Rattle.block.proofs.Steps.{beside_popped}

-- a join within the limits
pub fine_merged : {bytes t : List ℕ} {f : ℕ} (c d : RequiredContext) → WasRead bytes t → FineContext (module_of bytes t) f c → FineContext (module_of bytes t) f d → over_context (merge_context c d) ≡ false
    → FineContext (module_of bytes t) f (merge_context c d)
fine_merged {bytes} {t} {f} c d w hc hd o =
    let m = module_of bytes t in
    let sound = module_sound bytes m w.module_is in
    context_fine m sound 0 f (merge_context c d)
    ((proper m sound 0).context_merged f c d (fine_context m sound 0 f c hc) (fine_context m sound 0 f d hd) o)

-- what one visit leaves suffices for a join of contexts that two blocks may leave
pub join-room : (s rs : List ℕ) (k : ℕ) → Room s room → context_in s rs k ≤ 2 * max_pieces → context_in s rs (k + 4) ≤ 2 * max_pieces → Room s (context_in s rs k + context_in s rs (k + 4))
join-room s rs k r a b = omega arith

-- k is the lower of the two
module _ {bytes t types : List ℕ} {places : MarkPlaces} {s rs open_marks : List ℕ} {totals : MarkTotals} {f k outer sum visits : ℕ} (S : Standing bytes t types places s rs open_marks totals f (k + 4) outer sum visits)
    (low : stack_slot ≤ k) {r : Bool} {u us : List ℕ} (J : Joined s rs k r u us) where
  abbrev lower : RequiredContext
  lower = context_at (read s rs) k

  abbrev upper : RequiredContext
  upper = context_at (read s rs) (k + 4)

  pub join_state : state_in bytes t u us open_marks totals f k visits ≡ with_context (merge_context lower upper) (state_in bytes t s rs open_marks totals f (k + 4) visits)
  join_state = popped_state S J.popped low

  pub join_standing : (held : ℕ) → outer ≡ held + pieces lower → FineContext (module_of bytes t) f lower → r ≡ false
      → Standing bytes t types places u us open_marks totals f k held sum visits
  join_standing held is fine e =
      popped_standing S J.popped low held is (fine_merged lower upper S.ready.was_read fine S.proper.context (sym J.over ∙ e))
      (omega (arith, S.ready.small, pieces-merge lower upper))

  pub join_beside : Beside bytes t f k s rs open_marks u us open_marks
  join_beside = beside_popped S J.popped low
