-- `pruner::total::read_total` meets its contract: one law for each flag.
use Rattle.marks.specs.Report.{totals_of}
use Rattle.pruner.proofs.Flagged.{total_ends, total_other, total_none, kept_room, total_kept}
use mathlib.Core.Path.{refl}
use Rattle.pruner.proofs.total.read_total.Goals as goal

pub returns-in_err-flag : goal.returns-in_err-flag
returns-in_err-flag c =
    rw c.from_residual.ensures (total_ends c.args.file.now.bytes c.args.file.now.t c.args.cells.now c.args.slots.now (totals_of c.args.flags.now c.args.kept.now) c.args.pruner.now c.args.f.0 c.args.sum c.requires.has_totals.0.memory c.in_err-flag.ensures)

pub returns-then-flag-eq0 : goal.returns-then-flag-eq0
returns-then-flag-eq0 c =
    total_none c.args.file.now.bytes c.args.file.now.t c.args.cells.now c.args.slots.now (totals_of c.args.flags.now c.args.kept.now) c.args.pruner.now c.args.f.0 c.args.sum c.in_ok-flag.ensures refl c.requires.has_totals.0.memory c.requires.has_totals.2 c.requires.room.1 c.if-flag-eq0.true

pub returns-then-flag-ne1 : goal.returns-then-flag-ne1
returns-then-flag-ne1 c =
    total_other c.args.file.now.bytes c.args.file.now.t c.args.cells.now c.args.slots.now (totals_of c.args.flags.now c.args.kept.now) c.args.pruner.now c.args.f.0 c.args.sum c.in_ok-flag.ensures c.requires.has_totals.0.memory c.if-flag-eq0.false c.if-flag-ne1.true

pub read_kept-requires : goal.read_kept-requires
read_kept-requires c =
    record { has_totals = (c.requires.has_totals.0, c.requires.has_totals.1); room = (kept_room c.args.file.now.bytes c.args.file.now.t c.args.cells.now c.args.slots.now (totals_of c.args.flags.now c.args.kept.now) c.args.pruner.now c.args.f.0 c.args.sum c.in_ok-flag.ensures c.requires.room.0, c.requires.room.1) }

pub returns : goal.returns
returns c =
    total_kept c.args.file.now.bytes c.args.file.now.t c.args.cells.now c.args.slots.now (totals_of c.args.flags.now c.args.kept.now) c.args.pruner.now c.args.f.0 c.args.sum c.in_ok-flag.ensures c.if-flag-ne1.false c.read_kept.ensures
