-- `module::operands::passes` meets its contract, test by test.
use borrow.Author.Tests.{eq-eqb, ne_eqb, lt-leb, le-leb}
use Rattle.module.specs.Scan.{pass_of}
use Rattle.module.proofs.Tab.{get_d_tab, tab-past}
use Rattle.module.proofs.operands.passes.Goals as goal

pub returns-then-x-eq-ABSENT : goal.returns-then-x-eq-ABSENT
unfolding pass_of
returns-then-x-eq-ABSENT c = rw (c.in-BelowOrAbsent.is, eq-eqb _ 65535 c.if-x-eq-ABSENT.true)

pub returns-then-x-lt2 : goal.returns-then-x-lt2
unfolding pass_of
returns-then-x-lt2 c = rw (c.in-Size.is, lt-leb 2 _ c.if-x-lt2.true)

pub returns-then-wide-n : goal.returns-then-wide-n
unfolding pass_of
returns-then-wide-n c =
    rw (c.body.ensures, c.row_at-r.ensures, c.in-Callable.is, get_d_tab _ _ _ _ c.if-wide-n.true)

pub returns-in-Below : goal.returns-in-Below
unfolding pass_of
returns-in-Below c = rw c.in-Below.is

pub returns-else-x-eq-ABSENT : goal.returns-else-x-eq-ABSENT
unfolding pass_of
returns-else-x-eq-ABSENT c = rw (c.in-BelowOrAbsent.is, ne_eqb _ 65535 c.if-x-eq-ABSENT.false)

pub returns-else-x-lt2 : goal.returns-else-x-lt2
unfolding pass_of
returns-else-x-lt2 c = rw (c.in-Size.is, le-leb 2 _ c.if-x-lt2.false)

pub returns-in-Any : goal.returns-in-Any
unfolding pass_of
returns-in-Any c = rw c.in-Any.is

pub returns-else-wide-n : goal.returns-else-wide-n
unfolding pass_of
returns-else-wide-n c = rw (c.in-Callable.is, tab-past _ _ _ _ c.if-wide-n.false)

pub returns-in-Never : goal.returns-in-Never
unfolding pass_of
returns-in-Never c = rw c.in-Never.is
