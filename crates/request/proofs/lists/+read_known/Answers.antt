-- The proof of `request::lists::read_known`, which calls itself: fewer entries are left at each call. One law for each way.
use native.Mathlib.Omega.{arith}
use Rattle.request.proofs.Entries.{pred_of, kept_same}
use Rattle.request.proofs.Steps.{index_read, index_refused}
use Rattle.request.proofs.Variables.{known_skimmed, known_empty, known_none, known_no_part, known_no_rest, known_nothing, known_made}
use Rattle.request.proofs.lists.+read_known.Goals as goal

pub returns-then-n-eq0 : goal.returns-then-n-eq0
returns-then-n-eq0 t c = known_empty c.requires.good c.args.bytes _ _ _ c.if-n-eq0.true

pub returns-in_err-i : goal.returns-in_err-i
returns-in_err-i t c =
    rw c.from_residual.ensures (known_none _ (kept_same c.requires.good) (index_refused (omega arith) c.in_err-i.ensures _ _))

pub returns-then-limit-i : goal.returns-then-limit-i
returns-then-limit-i t c = known_skimmed _ (index_read {n = c.args.n} (pred_of _ c.if-n-eq0.false) c.in_ok-i.ensures) c.if-limit-i.true c.skim.ensures

pub read_part-requires-clause-room : goal.read_part-requires-clause-room
read_part-requires-clause-room t c = omega (arith, c.requires.room, c.in_ok-i.ensures.placed)

pub returns-in_err-p : goal.returns-in_err-p
returns-in_err-p t c = rw c.from_residual-in_err-p.ensures (known_no_part _ (index_read {n = c.args.n} (pred_of _ c.if-n-eq0.false) c.in_ok-i.ensures) c.if-limit-i.false c.in_err-p.ensures)

pub returns-in_err-o : goal.returns-in_err-o
returns-in_err-o t c =
    rw c.from_residual-in_err-o.ensures (known_no_rest _ (index_read {n = c.args.n} (pred_of _ c.if-n-eq0.false) c.in_ok-i.ensures) c.if-limit-i.false c.in_ok-p.ensures c.in_err-o.ensures)

pub returns-in_default : goal.returns-in_default
returns-in_default t c = known_nothing _ (index_read {n = c.args.n} (pred_of _ c.if-n-eq0.false) c.in_ok-i.ensures) c.if-limit-i.false c.in_ok-p.ensures c.in_ok-o.ensures c.in_default.is

pub returns : goal.returns
returns t c = known_made _ (index_read {n = c.args.n} (pred_of _ c.if-n-eq0.false) c.in_ok-i.ensures) c.if-limit-i.false c.in_ok-p.ensures c.in_ok-o.ensures c.in-Some.is c.make.ensures
