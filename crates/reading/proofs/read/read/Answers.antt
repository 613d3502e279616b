-- `reading::read::read` meets its contract: by the length of the bytes, and what comes of the records.
use Rattle.std.proofs.lemmas.Result.{err_from_is_err_and}
use Rattle.reading.proofs.Finishing.{read_too_long, read_refused, passed_on, read_finished}
use Rattle.reading.proofs.read.read.Goals as goal

pub returns-then-bytes-gt-MAX_BYTES : goal.returns-then-bytes-gt-MAX_BYTES
returns-then-bytes-gt-MAX_BYTES c = read_too_long _ _ c.if-bytes-gt-MAX_BYTES.true

pub returns-in_err-c : goal.returns-in_err-c
returns-in_err-c c =
    let p = err_from_is_err_and c.from_residual.result c.from_residual.ensures.1 in
    rw (p.1, p.2) (read_refused _ _ _ c.in_err-c.ensures)

pub finish-requires : goal.finish-requires
finish-requires c = passed_on _ _ _ c.in_ok-c.ensures

pub returns : goal.returns
returns c = read_finished _ _ _ c.in_ok-c.ensures _ _ c.finish.ensures
