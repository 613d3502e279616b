-- `Subject::same_index` meets its contract: by the kind of index.
use borrow.Author.Rules.{rules}
use Rattle.judge.proofs.IndexRows.{index_dynamic, index_constant}
use Rattle.judge.proofs.subject.Subject.same_index.Goals as goal

pub returns-in-Ok-Access : goal.returns-in-Ok-Access
returns-in-Ok-Access c = λ S p. index_dynamic S _ _ _ _ (search rules) (c.same_element.ensures S p)

pub returns-in_default : goal.returns-in_default
returns-in_default c = λ S p. index_constant S _ _ _ _ (search rules) (c.same_part.ensures S p)
