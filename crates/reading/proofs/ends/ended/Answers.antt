-- `reading::ends::ended` meets its contract: by whether a function is open, and whether its blocks are right.
use Rattle.reading.proofs.Ending.{none_open, refused, taken}
use Rattle.reading.proofs.ends.ended.Goals as goal

pub returns-then-c-lt-IN_ARGUMENTS : goal.returns-then-c-lt-IN_ARGUMENTS
returns-then-c-lt-IN_ARGUMENTS c =
    let q9 = none_open _ _ _ c.if-c-lt-IN_ARGUMENTS.true in
    record { value = q9.0; t_after = q9.1 }

pub returns-then-block_rule : goal.returns-then-block_rule
returns-then-block_rule c =
    let q9 = taken _ _ _ _ c.if-c-lt-IN_ARGUMENTS.false c.block_rule.ensures _ c.if-block_rule.true c.set_row.ensures in
    record { value = q9.0; t_after = q9.1 }

pub returns : goal.returns
returns c =
    let q9 = refused _ _ _ _ c.if-c-lt-IN_ARGUMENTS.false c.block_rule.ensures c.if-block_rule.false in
    record { value = q9.0; t_after = q9.1 }
