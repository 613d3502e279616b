-- `acts::marks::mark_at` meets its contract: by the definition.
use borrow.Author.Rules.{rules}
use Rattle.clearance.specs.Tree.{mark_at}
use Rattle.acts.proofs.marks.mark_at.Goals as goal

pub returns : goal.returns
unfolding mark_at
returns c = search rules
