-- `forms::trim::trim_map` meets its contract. The measure is the map's number.
use Rattle.forms.proofs.Trimming.{globals_all, trimmed_low, child_asks, rest_call, keep_asks, trimmed_entry}
use Rattle.forms.specs.Frames.{globals_shape}
use native.Mathlib.Omega.{arith}
use Rattle.forms.proofs.trim.+trim_map.Goals as goal

pub returns-then-p-eq-ALL_PIECE : goal.returns-then-p-eq-ALL_PIECE
returns-then-p-eq-ALL_PIECE t c =
    globals_all _ _ _ (c.requires.good, c.requires.p_bound) c.if-p-eq-ALL_PIECE.true

pub returns-then-p-le-EMPTY_PIECE : goal.returns-then-p-le-EMPTY_PIECE
returns-then-p-le-EMPTY_PIECE t c =
    trimmed_low (c.requires.good, c.requires.p_bound) _ c.if-p-eq-ALL_PIECE.false (omega (arith, c.if-p-le-EMPTY_PIECE.true))

pub look-x-requires : goal.look-x-requires
look-x-requires t c = record { good = c.requires.good; lt_n = (omega (arith, c.if-p-le-EMPTY_PIECE.false), c.requires.p_bound.0) }

pub trim_part-c-requires : goal.trim_part-c-requires
trim_part-c-requires t c =
    let q9 = child_asks (c.requires.good, c.requires.p_bound) (globals_shape c.args.file.now.bytes c.args.file.now.t c.args.types.now.rows.now) c.look-x.ensures in
    record { good = q9.0; p_bound = q9.1 }

pub trim_map-r-requires : goal.trim_map-r-requires
trim_map-r-requires t c =
    rest_call (c.requires.good, c.requires.p_bound) _ c.look-x.ensures _ (c.global_form-m.ensures c.args.types.now.rows.now) c.trim_part-c.ensures c.decreases

pub keep-requires : goal.keep-requires
keep-requires t c =
    let q9 = keep_asks (c.requires.good, c.requires.p_bound) _ c.look-x.ensures _ (c.global_form-m.ensures c.args.types.now.rows.now) c.trim_part-c.ensures c.trim_map-r.ensures in
    record { good = q9.0; room = q9.1.0; child_bound = q9.1.1 }

pub returns : goal.returns
returns t c =
    trimmed_entry (c.requires.good, c.requires.p_bound) _ c.look-x.ensures _ (c.global_form-m.ensures c.args.types.now.rows.now) c.trim_part-c.ensures c.trim_map-r.ensures c.keep.ensures
