-- A block above the current context has ended: its context takes the place of the current one.
use Prim.Native.Nat.{ℕ, ◌+◌}
use native.Mathlib.Omega.{arith}
use mathlib.Core.Path.{◌≡◌, sym, ap, ◌∙◌}
use mathlib.Core.Bool.{Bool}
use mathlib.Core.List.{List}
use Rattle.context.specs.RequiredContext.{RequiredContext, pieces}
use Rattle.walk.specs.State.{State, Out, went}
use Rattle.memory.specs.Memory.{read, context_at}
use Rattle.marks.specs.declared.places.MarkPlaces.{MarkPlaces}
use Rattle.marks.specs.declared.totals.MarkTotals.{MarkTotals}
use Rattle.block.specs.Standing.{state_in, Standing}
use Rattle.block.specs.Saved.{Lowered}
use Rattle.block.specs.Blocks.{context_in, Beside, BlockEnded}
use Rattle.block.proofs.Tops.{popped_state, popped_standing}
use Rattle.block.proofs.Steps.{beside_context, beside_popped}

module _ {bytes t types : List ℕ} {places : MarkPlaces} {s rs open_marks : List ℕ} {totals : MarkTotals} {f at held sum visits : ℕ} (S : Standing bytes t types places s rs open_marks totals f at held sum visits)
    {total : Out Bool} {v m : ℕ} {b : Bool} {u us open_after : List ℕ} {totals-after : MarkTotals}
    (E : BlockEnded bytes t types places s rs open_marks totals f at (at + 4) (held + context_in s rs at) (held + context_in s rs at) sum total v m b u us open_after totals-after) where
  below : context_at (read u us) at ≡ context_at (read s rs) at
  below = beside_context E.beside at S.ready.low (omega arith)

  outside : held + context_in s rs at ≡ held + pieces (context_at (read u us) at)
  outside = ap (λ (c : RequiredContext). held + pieces c) (sym below)

  -- the block's context is the current one
  module _ {vs : List ℕ} (L : Lowered us at vs) where
    pub lowered_is : went (state_in bytes t u vs open_after totals-after f at v) b ≡ total
    lowered_is =
        ap (λ (st : State). went st b) (popped_state E.standing (L.is u E.standing.ready.memory S.ready.low) S.ready.low) ∙ E.is

    pub lowered_standing : Standing bytes t types places u vs open_after totals-after f at held m v
    lowered_standing =
        popped_standing E.standing (L.is u E.standing.ready.memory S.ready.low) S.ready.low held outside E.standing.proper.context
        (omega (arith, E.standing.ready.small))

    pub lowered_beside : Beside bytes t f at s rs open_marks u vs open_after
    lowered_beside =
        let d = beside_popped E.standing (L.is u E.standing.ready.memory S.ready.low) S.ready.low in
        record {
          long = d.long ∙ E.beside.long;
          stack = λ k x y. d.stack k x y ∙ E.beside.stack k x (omega arith);
          records = λ k x y n. d.records k x y n ∙ E.beside.records k x y n;
          marks_long = E.beside.marks_long;
          marks = E.beside.marks;
        }
