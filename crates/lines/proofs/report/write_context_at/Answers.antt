-- `lines::report::write_context_at` meets its contract.
use Prim.Native.Nat.{◌+◌}
use mathlib.Core.Path.{sym, ap}
use Rattle.lines.specs.Text.{context_text}
use Rattle.lines.proofs.Writing.{fits_as, writes_as}
use Rattle.lines.proofs.ReportText.{context_there}
use native.Mathlib.Omega.{arith}
use Rattle.lines.proofs.report.write_context_at.Goals as goal

pub write_context-requires : goal.write_context-requires
write_context-requires c =
    rw c.load_context-c.ensures
    (record { good = c.requires.0.good; globals_bound = (c.requires.0.below c.args.k (omega (arith, c.requires.1)), c.requires.0.below (c.args.k + 1) (omega (arith, c.requires.1)), c.requires.0.below (c.args.k + 2) (omega (arith, c.requires.1)), c.requires.0.below (c.args.k + 3) (omega (arith, c.requires.1)), fits_as (ap context_text (context_there c.args.cells.now c.args.slots.now c.args.k c.requires.1)) c.requires.2) })

pub returns : goal.returns
returns c =
    writes_as (sym (ap context_text (context_there c.args.cells.now c.args.slots.now c.args.k c.requires.1))) (rw c.load_context-c.ensures at c.write_context.ensures)
