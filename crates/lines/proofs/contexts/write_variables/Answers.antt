-- `lines::contexts::write_variables` meets its contract. The entries that the iterator still gives are left to write.
use native.Mathlib.Omega.{arith}
use Rattle.part.specs.Store.{part}
use Rattle.part.proofs.Listing.{entry_seen, entry_child, entry_on}
use Rattle.lines.specs.Text.{variables_text}
use Rattle.lines.proofs.Along.{Along, along_fits, along_more, along_done}
use Rattle.lines.proofs.Rows.{no_variables, variable_line}
use Rattle.lines.proofs.contexts.write_variables.Goals as goal

pub write_line-requires : goal.write_line-requires
write_line-requires c =
    let seen = entry_seen c.loop-x.invariant.0 c.in-Some.ensures.steps in
    record { good = c.requires.good; p_bound = (entry_child c.loop-x.invariant.0 c.in-Some.ensures.steps, along_fits c.requires.map_bound.1 c.loop-x.invariant.1 (variable_line c.args.word.now seen c.variable_of-k.ensures)) }

pub loop-x-preserved : goal.loop-x-preserved
loop-x-preserved c =
    entry_on c.loop-x.invariant.0 c.in-Some.ensures.steps (λ n. Along c.args.text.now c.write_line.new.text (variables_text c.args.word.now (part c.args.cells.now c.args.map)) (variables_text c.args.word.now (part c.args.cells.now n))) (along_more c.loop-x.invariant.1 (variable_line c.args.word.now (entry_seen c.loop-x.invariant.0 c.in-Some.ensures.steps) c.variable_of-k.ensures) c.write_line.ensures)

pub returns : goal.returns
returns c = along_done c.loop-x.invariant.1 (no_variables _ _ c.args.word.now (omega (arith, c.in-None.ensures.steps.0)))
