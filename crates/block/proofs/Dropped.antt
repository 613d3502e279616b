-- The two contexts that a statement's blocks have left above its own are forgotten: its context is as it was before them.
use Prim.Native.Nat.{ℕ, ◌+◌, ◌≤◌}
use native.Mathlib.Nat.{le_refl}
use native.Mathlib.Omega.{arith}
use mathlib.Core.Path.{◌≡◌, refl, sym, ap, ◌∙◌}
use mathlib.Core.Bool.{Bool, false}
use mathlib.Core.List.{List}
use Rattle.module.specs.Module.{FunctionHandle}
use Rattle.context.specs.RequiredContext.{RequiredContext, pieces}
use Rattle.walk.specs.State.{State, went, with_context}
use Rattle.memory.specs.Layout.{stack_slot}
use Rattle.memory.specs.Memory.{read, context_at}
use Rattle.marks.specs.declared.places.MarkPlaces.{MarkPlaces}
use Rattle.marks.specs.declared.totals.MarkTotals.{MarkTotals}
use Rattle.state.specs.declared.frame.Frame.{Frame}
use Rattle.block.specs.Standing.{state_in, Standing}
use Rattle.block.specs.Saved.{Popped}
use Rattle.block.specs.Branches.{BothDropped}
use Rattle.block.specs.Blocks.{context_in, Beside, StatementEnded}
use Rattle.block.specs.Pairing.{Branched}
use Rattle.block.proofs.Tops.{popped_state, popped_standing}
use Rattle.block.proofs.Steps.{beside_then, beside_context, beside_popped}

-- what is the same up to a context is so up to a lower one
pub beside_down : {bytes t : List ℕ} {f : FunctionHandle} {at to : ℕ} {s rs open_marks u us open_after : List ℕ} → at ≤ to → Beside bytes t f to s rs open_marks u us open_after
    → Beside bytes t f at s rs open_marks u us open_after
beside_down l b = record { long = b.long; stack = λ k x y. b.stack k x (omega arith); records = b.records; marks_long = b.marks_long; marks = b.marks }

module _ {bytes t types : List ℕ} {places : MarkPlaces} {s rs open_marks : List ℕ} {totals : MarkTotals} {fr : Frame} {sum visits : ℕ} (B : Branched bytes t types places s rs open_marks totals fr sum visits)
    {us : List ℕ} (D : BothDropped rs fr.at us) where
  abbrev at : ℕ
  at = fr.at

  low : stack_slot ≤ at + 4
  low = omega (arith, B.low)

  upper : Popped s rs (at + 4) (context_at (read s rs) (at + 4)) s D.between
  upper = D.upper.is s B.standing.ready.memory low

  down : Standing bytes t types places s D.between open_marks totals fr.function.0 (at + 4) (fr.held + context_in s rs at) sum visits
  down = popped_standing B.standing upper low (fr.held + context_in s rs at) refl B.first_fine (omega (arith, B.standing.ready.small))

  down_beside : Beside bytes t fr.function.0 (at + 4) s rs open_marks s D.between open_marks
  down_beside = beside_popped B.standing upper low

  lower : Popped s D.between at (context_at (read s D.between) at) s us
  lower = D.lower.is s down.ready.memory B.low

  outer : context_at (read s D.between) at ≡ context_at (read s rs) at
  outer = beside_context down_beside at B.low (omega arith)

  back : state_in bytes t s us open_marks totals fr.function.0 at visits
      ≡ with_context (context_at (read s rs) at) (state_in bytes t s rs open_marks totals fr.function.0 (at + 4 + 4) visits)
  back =
      popped_state down lower B.low
      ∙ ap (λ (c : RequiredContext). with_context c (state_in bytes t s D.between open_marks totals fr.function.0 (at + 4) visits)) outer
      ∙ ap (λ (st : State). with_context (context_at (read s rs) at) st) (popped_state B.standing upper low)

  pub dropped : {A : Type 0} (answer : Bool → A)
      → StatementEnded bytes t types places s rs open_marks totals fr
      (went (with_context (context_at (read s rs) at) (state_in bytes t s rs open_marks totals fr.function.0 (at + 4 + 4) visits)) (answer false))
      answer visits sum false s us open_marks totals
  dropped answer = record {
    is = ap (λ (st : State). went st (answer false)) back;
    standing =
        popped_standing down lower B.low fr.held (ap (λ (c : RequiredContext). fr.held + pieces c) (sym outer)) (rw outer B.outer_fine)
        (omega (arith, down.ready.small, ap pieces outer));
    beside = beside_then at (beside_down (omega arith) down_beside) (beside_popped down lower B.low) (le_refl at);
  }
