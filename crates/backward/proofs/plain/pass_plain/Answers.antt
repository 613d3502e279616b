-- `backward::plain::pass_plain` meets its contract: an emit, a store, or what leaves (ByKind).
use Rattle.strays.proofs.Found.{in_function}
use Rattle.quiet.proofs.Leaves.{last-there}
use Rattle.backward.proofs.ByKind.{begin_there, begin_is, act_given, leave_given, store_given, passes_emit, passes_store, passes_leaving}
use borrow.Author.Rules.{rules}
use Rattle.backward.proofs.plain.pass_plain.Goals as goal

pub bounds-marked-s : goal.bounds-marked-s
bounds-marked-s c = begin_there c.requires.course c.args.statement.now.row_in

pub pass_emits-requires : goal.pass_emits-requires
pass_emits-requires c =
    record { pass_given = act_given c.requires.course c.args.statement.now.row_in c.requires.n_in_bounds; begin_value = begin_is c.requires.course c.args.statement.now.row_in; last_in_bounds = last-there c.requires.course.world (in_function c.args.statement.now.row_in.statement) c.args.statement.now.row_in.is (search rules) c.expression_operand-last.ensures }

pub returns-in-Ok-Emit : goal.returns-in-Ok-Emit
returns-in-Ok-Emit c =
    passes_emit c.requires.course c.args.statement.now.row_in _ (search rules) c.expression_operand-first.ensures c.expression_operand-last.ensures c.pass_emits.ensures

pub pass_store-requires : goal.pass_store-requires
pass_store-requires c =
    record { pass_given = act_given c.requires.course c.args.statement.now.row_in c.requires.n_in_bounds; store_of = store_given c.requires.course c.args.statement.now.row_in (search rules) c.expression_operand-pointer.ensures c.expression_operand-value.ensures }

pub returns-in-Ok-Store : goal.returns-in-Ok-Store
returns-in-Ok-Store c =
    passes_store c.requires.course c.args.statement.now.row_in _ (search rules) c.expression_operand-pointer.ensures c.expression_operand-value.ensures c.mark_at-is_marked.ensures c.pass_store.ensures

pub pass_leaving-requires : goal.pass_leaving-requires
pass_leaving-requires c =
    record { leave_given = leave_given c.requires.course c.args.statement.now.row_in c.requires.n_in_bounds; lt_kind = (c.requires.lt_kind (search rules), search rules) }

pub returns-in_default : goal.returns-in_default
returns-in_default c = passes_leaving c.requires.course c.args.statement.now.row_in _ c.pass_leaving.ensures
