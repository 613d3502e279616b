-- `pruner::total::read_kept` meets its contract: the marks, the context and the records, one law for each way.
use Rattle.pruner.proofs.Whole.{flag_there, starts_there}
use Rattle.pruner.proofs.Keeping.{limits, context_inside, own_inside, kept_no_marks, lists-room, kept_no_context, context_memory, context_few, records_room, base_inside, kept_read}
use mathlib.Core.Path.{refl}
use native.Mathlib.Omega.{arith}
use Rattle.pruner.proofs.total.read_kept.Goals as goal

pub range-own-requires : goal.range-own-requires
range-own-requires c = starts_there c.requires.has_totals.0 c.args.f.0 c.requires.has_totals.1

pub bounds-flags-i : goal.bounds-flags-i
bounds-flags-i c = flag_there c.requires.has_totals.0 c.args.f.0 c.requires.has_totals.1

pub slice_bounds-read_marks-count : goal.slice_bounds-read_marks-count
slice_bounds-read_marks-count c = (own_inside c.requires.has_totals.0 c.args.f.0 c.requires.has_totals.1 c.range-own.ensures.start c.range-own.ensures.end).0

pub slice_bounds-read_marks-start : goal.slice_bounds-read_marks-start
slice_bounds-read_marks-start c = (own_inside c.requires.has_totals.0 c.args.f.0 c.requires.has_totals.1 c.range-own.ensures.start c.range-own.ensures.end).0

pub slice_bounds-read_marks-end : goal.slice_bounds-read_marks-end
slice_bounds-read_marks-end c =
    omega (arith, own_inside c.requires.has_totals.0 c.args.f.0 c.requires.has_totals.1 c.range-own.ensures.start c.range-own.ensures.end)

pub returns-in_err-lists : goal.returns-in_err-lists
returns-in_err-lists c =
    rw c.from_residual.ensures (kept_no_marks c.requires.has_totals.0 c.args.f.0 c.requires.has_totals.1 c.range-own.ensures.start c.range-own.ensures.end c.args.sum c.read_marks.ensures c.read_marks.auto.marks c.requires.has_totals.0.memory c.in_err-lists.was)

pub read_context-requires : goal.read_context-requires
read_context-requires c =
    record { memory = (c.requires.has_totals.0.memory, (context_inside c.requires.has_totals.0 c.args.f.0 c.requires.has_totals.1).0, (context_inside c.requires.has_totals.0 c.args.f.0 c.requires.has_totals.1).1); room = (lists-room c.requires.has_totals.0 c.args.f.0 c.requires.has_totals.1 c.range-own.ensures.start c.range-own.ensures.end c.args.sum c.read_marks.ensures c.read_marks.auto.marks c.in_ok-lists.was c.requires.room.0, c.requires.room.1); limits = limits c.requires.has_totals.0 c.args.f.0 c.requires.has_totals.1 c.globals-g.ensures c.arguments-a.ensures c.locals-l.ensures }

pub returns-in_err-left : goal.returns-in_err-left
returns-in_err-left c =
    rw c.from_residual-in_err-left.ensures (kept_no_context c.requires.has_totals.0 c.args.f.0 c.requires.has_totals.1 c.range-own.ensures.start c.range-own.ensures.end c.args.sum c.read_marks.ensures c.read_marks.auto.marks c.in_ok-lists.was c.globals-g.ensures c.arguments-a.ensures c.locals-l.ensures c.read_context.ensures c.in_err-left.was)

pub overflow_add-base : goal.overflow_add-base
overflow_add-base c =
    omega (arith, base_inside c.requires.has_totals.0 c.args.f.0 c.requires.has_totals.1 c.range-own.ensures.start c.range-own.ensures.end c.args.sum c.read_marks.ensures c.read_marks.auto.marks c.in_ok-lists.was c.globals-g.ensures c.arguments-a.ensures c.locals-l.ensures c.read_context.ensures c.in_ok-left.was c.records_of-records.ensures)

pub read_records-requires : goal.read_records-requires
read_records-requires c =
    let r = records_room c.requires.has_totals.0 c.args.f.0 c.requires.has_totals.1 c.range-own.ensures.start c.range-own.ensures.end c.args.sum c.read_marks.ensures c.read_marks.auto.marks c.in_ok-lists.was c.globals-g.ensures c.arguments-a.ensures c.locals-l.ensures c.read_context.ensures c.in_ok-left.was c.requires.room.0 in
    record { memory = (context_memory c.requires.has_totals.0 c.args.f.0 c.requires.has_totals.1 c.range-own.ensures.start c.range-own.ensures.end c.args.sum c.read_marks.ensures c.read_marks.auto.marks c.in_ok-lists.was c.globals-g.ensures c.arguments-a.ensures c.locals-l.ensures c.read_context.ensures c.in_ok-left.was, omega arith, base_inside c.requires.has_totals.0 c.args.f.0 c.requires.has_totals.1 c.range-own.ensures.start c.range-own.ensures.end c.args.sum c.read_marks.ensures c.read_marks.auto.marks c.in_ok-lists.was c.globals-g.ensures c.arguments-a.ensures c.locals-l.ensures c.read_context.ensures c.in_ok-left.was c.records_of-records.ensures); room = (omega (arith, r, c.records_of-records.ensures.n), context_few c.requires.has_totals.0 c.args.f.0 c.requires.has_totals.1 c.range-own.ensures.start c.range-own.ensures.end c.args.sum c.read_marks.ensures c.read_marks.auto.marks c.in_ok-lists.was c.globals-g.ensures c.arguments-a.ensures c.locals-l.ensures c.read_context.ensures c.in_ok-left.was) }

pub returns : goal.returns
returns c =
    kept_read c.requires.has_totals.0 c.args.f.0 c.requires.has_totals.1 c.range-own.ensures.start c.range-own.ensures.end c.args.sum c.read_marks.ensures c.read_marks.auto.marks c.in_ok-lists.was c.globals-g.ensures c.arguments-a.ensures c.locals-l.ensures c.read_context.ensures c.in_ok-left.was c.records_of-records.ensures _ _ _ refl refl c.read_records.ensures
