-- `forms::trim::trim_part` meets its contract. The measure is the requirement's number.
use Rattle.forms.proofs.Trimming.{trimmed_void, trimmed_all, trimmed_low, child_call, rest_call, keep_asks, trimmed_entry}
use Rattle.forms.specs.ShapeBy.{shape_by}
use native.Mathlib.Omega.{arith}
use Rattle.forms.proofs.trim.+trim_part.Goals as goal

pub returns-then-is_void : goal.returns-then-is_void
returns-then-is_void t c =
    trimmed_void (c.requires.good, c.requires.p_bound) _ c.if-p-eq-ALL_PIECE.true (c.is_void.ensures _) c.if-is_void.true

pub returns-then-p-eq-ALL_PIECE : goal.returns-then-p-eq-ALL_PIECE
returns-then-p-eq-ALL_PIECE t c =
    trimmed_all (c.requires.good, c.requires.p_bound) _ c.if-p-eq-ALL_PIECE.true (c.is_void.ensures _) c.if-is_void.false

pub returns-then-p-le-EMPTY_PIECE : goal.returns-then-p-le-EMPTY_PIECE
returns-then-p-le-EMPTY_PIECE t c =
    trimmed_low (c.requires.good, c.requires.p_bound) _ c.if-p-eq-ALL_PIECE.false (omega (arith, c.if-p-le-EMPTY_PIECE.true))

pub look-x-requires : goal.look-x-requires
look-x-requires t c = record { good = c.requires.good; lt_n = (omega (arith, c.if-p-le-EMPTY_PIECE.false), c.requires.p_bound.0) }

pub trim_part-c-requires : goal.trim_part-c-requires
trim_part-c-requires t c =
    child_call (c.requires.good, c.requires.p_bound) (shape_by c.args.types.now.rows.now c.args.form) c.look-x.ensures c.decreases

pub trim_part-r-requires : goal.trim_part-r-requires
trim_part-r-requires t c =
    rest_call (c.requires.good, c.requires.p_bound) _ c.look-x.ensures _ c.member-m.ensures c.trim_part-c.ensures c.decreases

pub keep-requires : goal.keep-requires
keep-requires t c =
    let q9 = keep_asks (c.requires.good, c.requires.p_bound) _ c.look-x.ensures _ c.member-m.ensures c.trim_part-c.ensures c.trim_part-r.ensures in
    record { good = q9.0; room = q9.1.0; child_bound = q9.1.1 }

pub returns : goal.returns
returns t c =
    trimmed_entry (c.requires.good, c.requires.p_bound) _ c.look-x.ensures _ c.member-m.ensures c.trim_part-c.ensures c.trim_part-r.ensures c.keep.ensures
