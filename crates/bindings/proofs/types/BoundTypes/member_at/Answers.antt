-- `BoundTypes::member_at` meets its contract: the member's two words.
use Rattle.bindings.proofs.Rows.{member_is}
use Rattle.bindings.proofs.types.BoundTypes.member_at.Goals as goal

pub returns : goal.returns
returns c =
    member_is _ _ _ c.args.self.now.all_bound c.requires c.word.ensures c.word-2.ensures c.unless_absent-binding.ensures
