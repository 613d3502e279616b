-- `pruner::frame::record_length` meets its contract: one law for each test.
use native.Mathlib.Omega.{arith}
use Rattle.pruner.proofs.Header.{record_short, record_wide, record_other, record_there}
use Rattle.pruner.proofs.frame.record_length.Goals as goal

pub returns-then-bytes-lt6 : goal.returns-then-bytes-lt6
returns-then-bytes-lt6 c = record_short _ (omega (arith, c.if-bytes-lt6.true))

pub returns-then-long : goal.returns-then-long
returns-then-long c = record_wide _ c.read_word-long.ensures (omega (arith, c.if-long.true))

pub returns-then-bytes-end : goal.returns-then-bytes-end
returns-then-bytes-end c = record_short _ (omega (arith, c.if-bytes-end.true, c.read_word-long.ensures))

pub returns-then-is_record : goal.returns-then-is_record
returns-then-is_record c =
    record_there _ c.read_word-long.ensures c.is_record.ensures c.if-is_record.true (omega (arith, c.if-long.false)) c.if-bytes-end.false

pub returns : goal.returns
returns c = record_other _ c.read_word-long.ensures c.is_record.ensures c.if-is_record.false
