-- A statement's block begins from its context, above it. What 16 has counted as the statement's visit began bounds what it may hold.
use Prim.Native.Nat.{ℕ, ◌+◌, ◌<◌}
use native.Mathlib.Nat.{le_refl}
use native.Mathlib.Omega.{arith}
use mathlib.Core.List.{List}
use Rattle.module.specs.Module.{BlockHandle}
use Rattle.marks.specs.declared.places.MarkPlaces.{MarkPlaces}
use Rattle.marks.specs.declared.totals.MarkTotals.{MarkTotals}
use Rattle.marks.specs.Ray.{StatementIn}
use Rattle.state.specs.declared.frame.Frame.{Frame}
use Rattle.block.specs.Blocks.{context_in, Entered, Begins}
use Rattle.block.proofs.Depth.{held_before}
use Rattle.block.proofs.Steps.{enters}

module _ {bytes t types : List ℕ} {places : MarkPlaces} {s rs open_marks : List ℕ} {totals : MarkTotals} {fr : Frame} {b : BlockHandle} {sum visits : ℕ} (G : Begins bytes t types places s rs open_marks totals fr b sum visits)
    (w : StatementIn bytes t fr.function.0 b fr.statement) (n : BlockHandle) (lower : n < b) where
  pub first_enters : Entered bytes t types places s rs open_marks totals fr.function.0 n fr.at (fr.at + 4) (fr.held + context_in s rs fr.at) (fr.held + context_in s rs fr.at) sum visits
  first_enters =
      enters G.standing n fr.at (omega (arith, G.block)) G.standing.ready.low (le_refl fr.at) G.standing.proper.context
      (omega (arith, G.begun.few))
      (omega (arith, G.begun.few))
      (omega (arith, G.deep, held_before w n lower))
      G.begun.roomy
