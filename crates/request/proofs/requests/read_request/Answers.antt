-- `request::requests::read_request` meets its contract: one law for each way.
use mathlib.Core.Path.{sym}
use native.Mathlib.Omega.{arith}
use Rattle.std.proofs.lemmas.List.{take_rest, length-drop}
use Rattle.request.proofs.Entries.{kept_same}
use Rattle.request.proofs.Judged.{not_request, request_inside, request_empty, request_absent, request_no_return, request_finish, request_malformed, request_on}
use Rattle.request.proofs.Ways.{there, missing, refuses}
use Rattle.request.proofs.requests.read_request.Goals as goal

pub returns-then-not-is_request : goal.returns-then-not-is_request
returns-then-not-is_request c =
    request_malformed (kept_same c.requires.good) (not_request _ _ _ _ c.is_request.ensures c.if-not-is_request.true)

pub slice_bounds-field-count : goal.slice_bounds-field-count
slice_bounds-field-count c = request_inside 0 0 0 c.args.bytes.now c.is_request.ensures c.if-not-is_request.false

pub slice_bounds-field-start : goal.slice_bounds-field-start
slice_bounds-field-start c = request_inside 0 0 0 c.args.bytes.now c.is_request.ensures c.if-not-is_request.false

pub returns-in_err-f : goal.returns-in_err-f
returns-in_err-f c =
    rw (refuses _ c.from_residual.ensures.1 c.ok_or.ensures.value c.in_err-f.was)
    (request_malformed (kept_same c.requires.good) (request_empty _ _ _ _ c.is_request.ensures c.if-not-is_request.false (rw (missing c.ok_or.ensures.ok_part c.in_err-f.was, take_rest c.args.bytes.now 4) at c.field.ensures)))

pub returns-then-f-ge-ABSENT : goal.returns-then-f-ge-ABSENT
returns-then-f-ge-ABSENT c =
    request_malformed (kept_same c.requires.good) (request_absent _ _ _ _ c.is_request.ensures c.if-not-is_request.false (rw (there c.ok_or.ensures.ok_part c.in_ok-f.was, take_rest c.args.bytes.now 4) at c.field.ensures) c.if-f-ge-ABSENT.true)

pub returns-in_err-p : goal.returns-in_err-p
returns-in_err-p c =
    let was = rw (missing c.ok_or-2.ensures.ok_part c.in_err-p.was) at c.read_return.ensures in
    rw (refuses _ c.from_residual-in_err-p.ensures.1 c.ok_or-2.ensures.value c.in_err-p.was)
    (request_malformed was.kept (request_no_return _ _ _ _ c.is_request.ensures c.if-not-is_request.false (rw (there c.ok_or.ensures.ok_part c.in_ok-f.was, take_rest c.args.bytes.now 4) at c.field.ensures) c.if-f-ge-ABSENT.false (sym was.is)))

pub returns : goal.returns
returns c =
    let was = rw (there c.ok_or-2.ensures.ok_part c.in_ok-p.was) at c.read_return.ensures in
    let first = rw (there c.ok_or.ensures.ok_part c.in_ok-f.was, take_rest c.args.bytes.now 4) at c.field.ensures in
    request_on was.kept (request_finish _ _ _ _ c.is_request.ensures c.if-not-is_request.false first c.if-f-ge-ABSENT.false (sym was.is)) (omega (arith, first.left, length-drop 4 c.args.bytes.now)) was.placed.1 c.read_globals.ensures

pub read_return-requires-clause-room : goal.read_return-requires-clause-room
read_return-requires-clause-room c =
    let first = rw (there c.ok_or.ensures.ok_part c.in_ok-f.was, take_rest c.args.bytes.now 4) at c.field.ensures in
    omega (arith, c.requires.globals_le_absent.1, first.left, length-drop 4 c.args.bytes.now)
