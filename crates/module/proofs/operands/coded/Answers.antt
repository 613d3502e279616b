-- `module::operands::coded` meets its contract.
use mathlib.Core.Path.{◌≡◌, sym, ◌∙◌}
use borrow.Author.Rules.{rules}
use lib.ListN.{get_or}
use Rattle.module.specs.Operands.{code_after}
use Rattle.module.specs.Scan.{pass_of}
use Rattle.std.proofs.lemmas.Bool.{ltb-true, ltb-false}
use Rattle.module.proofs.Counted.{counted_none, counted-by, code_high, code_is}
use Rattle.module.proofs.operands.coded.Goals as goal

pub returns-in_err-code-clause-took : goal.returns-in_err-code-clause-took
returns-in_err-code-clause-took c = rw c.from_residual.ensures (counted_none _ c.in_err-code.ensures.split)

pub returns-in_err-count-clause-took : goal.returns-in_err-count-clause-took
returns-in_err-count-clause-took c = rw c.from_residual-in_err-count.ensures (counted-by (code_after c.args.scope.now.counts.row.expressions c.args.handles.now) c.in_ok-code.ensures.split (sym (code_high _ _ _ _ (ltb-false _ _ (sym c.in_err-count.ensures.lookup.0)))))

pub returns-clause-took : goal.returns-clause-took
unfolding pass_of
returns-clause-took c =
    let count : c.in_ok-count.field-0.now ≡ get_or c.args.handles.now c.in_ok-code.code 0 = search rules in
    counted-by (code_after c.args.scope.now.counts.row.expressions c.args.handles.now) c.in_ok-code.ensures.split ((rw count at c.many.ensures.took) ∙ sym (code_is _ _ _ _ (ltb-true _ _ (sym c.in_ok-count.ensures.lookup.0))))

pub returns-clause-ends : goal.returns-clause-ends
returns-clause-ends c = rw c.in_ok-code.ensures.ends at c.many.ensures.ends
