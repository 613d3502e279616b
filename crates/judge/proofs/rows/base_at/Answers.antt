-- `judge::rows::base_at` meets its contract: a member's type, or the one base.
use borrow.Author.Rules.{rules}
use Rattle.judge.proofs.TypeRows.{base_member, base_first}
use Rattle.judge.proofs.rows.base_at.Goals as goal

pub returns-in-Struct : goal.returns-in-Struct
returns-in-Struct c =
    base_member _ _ _ c.kind_at.ensures (search rules) c.requires c.word.ensures

pub returns-in_default : goal.returns-in_default
returns-in_default c =
    base_first _ _ _ c.kind_at.ensures (search rules) c.requires c.first_word.ensures
