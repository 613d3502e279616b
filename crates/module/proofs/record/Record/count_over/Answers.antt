-- `module::record::Record::count_over` meets its contract.
use borrow.Author.Tests.{eq-eqb, ne_eqb}
use Rattle.module.proofs.record.Record.count_over.Goals as goal

pub returns-then-field-kind : goal.returns-then-field-kind
returns-then-field-kind c = rw (c.field-then-field-kind.ensures, ← c.field.ensures, eq-eqb _ _ c.if-field-kind.true)

pub returns-else-field-kind : goal.returns-else-field-kind
returns-else-field-kind c = rw (← c.field.ensures, ne_eqb _ _ c.if-field-kind.false)
