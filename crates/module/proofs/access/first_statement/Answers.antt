-- `module::access::first_statement` meets its contract.
use Rattle.module.proofs.Tab.{get_d_tab, tab-past}
use Rattle.module.proofs.access.first_statement.Goals as goal

pub returns-then-b-row : goal.returns-then-b-row
returns-then-b-row c = rw (get_d_tab _ _ _ _ c.if-b-row.true) c.word.ensures

pub returns : goal.returns
returns c = rw (tab-past _ _ _ _ c.if-b-row.false)
