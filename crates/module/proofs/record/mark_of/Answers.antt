-- `module::record::mark_of` meets its contract, arm by arm.
use borrow.Author.Rules.{rules}
use borrow.Author.Tests.{ne_eqb}
use Rattle.module.specs.Record.{known, mark_of}
use Rattle.module.proofs.record.mark_of.Goals as goal

pub returns-in-22868 : goal.returns-in-22868
unfolding known mark_of
returns-in-22868 c = rw c.in-22868.is

pub returns-in-22087 : goal.returns-in-22087
unfolding known mark_of
returns-in-22087 c = rw c.in-22087.is

pub returns-in-20038 : goal.returns-in-20038
unfolding known mark_of
returns-in-20038 c = rw c.in-20038.is

pub returns-in-21057 : goal.returns-in-21057
unfolding known mark_of
returns-in-21057 c = rw c.in-21057.is

pub returns-in-22092 : goal.returns-in-22092
unfolding known mark_of
returns-in-22092 c = rw c.in-22092.is

pub returns-in-22597 : goal.returns-in-22597
unfolding known mark_of
returns-in-22597 c = rw c.in-22597.is

pub returns-in-19266 : goal.returns-in-19266
unfolding known mark_of
returns-in-19266 c = rw c.in-19266.is

pub returns-in-21587 : goal.returns-in-21587
unfolding known mark_of
returns-in-21587 c = rw c.in-21587.is

pub returns-in_default : goal.returns-in_default
unfolding known mark_of
returns-in_default c =
    rw (ne_eqb c.args.letters 22868 (search rules), ne_eqb c.args.letters 22087 (search rules), ne_eqb c.args.letters 20038 (search rules), ne_eqb c.args.letters 21057 (search rules), ne_eqb c.args.letters 22092 (search rules), ne_eqb c.args.letters 22597 (search rules), ne_eqb c.args.letters 19266 (search rules), ne_eqb c.args.letters 21587 (search rules))
