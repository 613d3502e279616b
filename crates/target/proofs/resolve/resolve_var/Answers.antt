-- `resolve_var` meets its contract. The invariant: what is left of the way gives the whole. The measure is the expression's number.
use borrow.Author.Rules.{rules}
use Rattle.valid.proofs.Accepted.{valid}
use Rattle.target.proofs.Resolving.{resolving_start, index, value, falls, again_index, again_all, found_global, found_local, found_none}
use Rattle.target.proofs.resolve.resolve_var.Goals as goal
use Rattle.target.proofs.resolve.resolve_var.Goals.{in-Ok-AccessIndex, in-Ok-Access}

pub loop-cells-init : goal.loop-cells-init
loop-cells-init c =
    resolving_start (valid _ _ c.requires.bytes_value) _ _ c.requires.e_in_bounds c.requires.good

pub returns-in-Ok-GlobalVariable : goal.returns-in-Ok-GlobalVariable
returns-in-Ok-GlobalVariable c =
    found_global _ _ c.requires.bytes_value c.loop-cells.invariant c.expression-row.ensures _ (search rules) c.global_operand.ensures

pub returns-in-Ok-LocalVariable : goal.returns-in-Ok-LocalVariable
returns-in-Ok-LocalVariable c =
    found_local _ _ c.requires.bytes_value c.loop-cells.invariant c.expression-row.ensures _ (search rules) c.local_operand.ensures

pub returns-in_default : goal.returns-in_default
returns-in_default c =
    found_none _ _ c.requires.bytes_value c.loop-cells.invariant c.expression-row.ensures (record { index = search rules; value = search rules; global = search rules; local = search rules })

pub returns-in_default-2 : goal.returns-in_default-2
returns-in_default-2 c =
    found_none _ _ c.requires.bytes_value c.loop-cells.invariant c.expression-row.ensures (record { index = search rules; value = search rules; global = search rules; local = search rules })

pub loop-cells-smaller : goal.loop-cells-smaller
loop-cells-smaller c =
    elim c.match-try_from-2.branch [
      | in-Ok-AccessIndex w ↦ falls _ _ c.requires.bytes_value c.loop-cells.invariant c.expression-row.ensures (index (search rules)) c.expression_operand-x.ensures
      | in-Ok-Access w ↦ falls _ _ c.requires.bytes_value c.loop-cells.invariant c.expression-row.ensures (value (search rules)) c.expression_operand-x.ensures
    ]

pub loop-cells-preserved : goal.loop-cells-preserved
loop-cells-preserved c =
    elim c.match-try_from-2.branch [
      | in-Ok-AccessIndex w ↦ rw (w.cells-is, w.p-is) (again_index _ _ c.requires.bytes_value c.loop-cells.invariant c.expression-row.ensures (search rules) c.expression_operand-x.ensures w.operand.ensures w.make-p.ensures)
      | in-Ok-Access w ↦ rw (w.cells-is, w.p-is) (again_all _ _ c.requires.bytes_value c.loop-cells.invariant c.expression-row.ensures (search rules) c.expression_operand-x.ensures)
    ]
