-- `quiet::plain::quiet_plain` meets its contract: an emit, a store, or what leaves.
use Rattle.quiet.proofs.Leaves.{last-there, stored_pointer, quiet_emit, quiet_store, quiet_break, quiet_continue, quiet_return, quiet_other}
use borrow.Author.Rules.{rules}
use Rattle.quiet.proofs.plain.quiet_plain.Goals as goal

pub quiet_emits-requires-clause-last_in_bounds : goal.quiet_emits-requires-clause-last_in_bounds
quiet_emits-requires-clause-last_in_bounds c = last-there c.requires.needing.world c.requires.s_in_bounds c.requires.row_value (search rules) c.expression_operand-last.ensures

pub returns-in-Ok-Emit : goal.returns-in-Ok-Emit
returns-in-Ok-Emit c = quiet_emit c.requires.needing.world c.requires.s_in_bounds c.requires.row_value _ _ (search rules) c.expression_operand-first.ensures c.expression_operand-last.ensures c.quiet_emits.ensures

pub invariant_of-pointer : goal.invariant_of-pointer
invariant_of-pointer c =
    record { pointer = stored_pointer c.requires.needing.world c.requires.s_in_bounds c.requires.row_value (search rules) c.expression_operand.ensures }

pub returns-in-Ok-Store : goal.returns-in-Ok-Store
returns-in-Ok-Store c = quiet_store c.requires.needing.world c.requires.s_in_bounds c.requires.row_value _ _ (search rules) c.expression_operand.ensures c.store_idle.ensures

pub returns-in-Ok-Continue : goal.returns-in-Ok-Continue
returns-in-Ok-Continue c = quiet_continue c.requires.needing.world c.requires.s_in_bounds c.requires.row_value _ _ _ (search rules)

pub returns-in-Ok-Return : goal.returns-in-Ok-Return
returns-in-Ok-Return c = quiet_return c.requires.needing.world c.requires.s_in_bounds c.requires.row_value _ _ _ (search rules)

pub returns-in-Ok : goal.returns-in-Ok
returns-in-Ok c = quiet_other c.requires.needing.world c.requires.s_in_bounds c.requires.row_value _ _ _ (search rules) (search rules) (search rules)

pub returns-in-Ok-Break : goal.returns-in-Ok-Break
returns-in-Ok-Break c = quiet_break c.requires.needing.world c.requires.s_in_bounds c.requires.row_value _ _ _ (λ l. search (rules, l))

pub returns-in-Ok-Break-2 : goal.returns-in-Ok-Break-2
returns-in-Ok-Break-2 c = quiet_break c.requires.needing.world c.requires.s_in_bounds c.requires.row_value _ _ _ (λ l. search (rules, l))
