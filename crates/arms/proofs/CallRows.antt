-- The function that a call names is below the caller, and its body ends before any block of the caller that has a statement.
use Prim.Native.Nat.{ℕ, ◌+◌, ◌<◌, ◌≤◌}
use native.Mathlib.Omega.{arith}
use mathlib.Core.Path.{◌≡◌}
use mathlib.Core.List.{List}
use lib.ListN.{length}
use Rattle.module.specs.Module.{BlockHandle, Module}
use Rattle.module.specs.Tables.{module_of}
use Rattle.access.specs.Access.{operand_at}
use Rattle.access.specs.declared.kinded.Kinded.{Kinded}
use Rattle.walk.specs.Marks.{block_at, body_of}
use Rattle.sound.specs.Sizes.{record_number}
use Rattle.sound.proofs.Walks.{module_valid}
use Rattle.sound.proofs.Numbers.{callee}
use Rattle.sound.proofs.Blocks.{callee_number}
use Rattle.marks.specs.declared.places.MarkPlaces.{MarkPlaces}
use Rattle.marks.specs.declared.totals.MarkTotals.{MarkTotals}
use Rattle.state.specs.declared.frame.Frame.{Frame}
use Rattle.call.proofs.Rows.{CallRow, call_is}
use Rattle.block.specs.Visiting.{Arms}

module _ {bytes t : List ℕ} {f s : ℕ} {row : Kinded} (R : CallRow bytes t f s row) where
  abbrev m : Module
  m = module_of bytes t

  abbrev o : ℕ → ℕ
  o = operand_at bytes row

  pub callee_lower : o 0 < f
  callee_lower = (callee m (module_valid bytes m R.was_read.module_is) f s (o 0) _ _ (call_is R)).0

  pub callee_there : o 0 < length m.functions
  callee_there = omega (arith, callee_lower, R.function)

  pub body_lower : (b : BlockHandle) → 0 < (block_at m f b).count → record_number m (o 0) (body_of m (o 0)) + 2 ≤ record_number m f b
  body_lower b l = callee_number m (module_valid bytes m R.was_read.module_is) f (o 0) b callee_lower callee_there l

-- the row that an arm has
pub arm_row : {bytes t types : List ℕ} {places : MarkPlaces} {s rs open_marks : List ℕ} {totals : MarkTotals} {fr : Frame} {b : BlockHandle} {row : Kinded} {sum visits : ℕ}
    → Arms bytes t types places s rs open_marks totals fr b row sum visits → row.kind ≡ 14 → CallRow bytes t fr.function.0 fr.statement row
arm_row A kind = record {
  was_read = A.begins.standing.ready.was_read;
  function = A.begins.standing.ready.function;
  statement = A.begins.begun.statement;
  is = A.is;
  kind = kind;
}
