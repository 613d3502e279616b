-- `SizedTypes::split` meets its contract: by whether the type is known, then by whether p is all.
use Rattle.context.proofs.Taking.{split-unknown, split-known, split-all}
use native.Mathlib.Omega.{arith}
use borrow.Author.Rules.{rules}
use Rattle.context.proofs.remove.SizedTypes.split.Goals as goal

pub returns-in_default : goal.returns-in_default
returns-in_default c = split-unknown _ _ c.in_default.is c.requires.good c.requires.room.1

pub returns-then-p-ne-ALL_PIECE : goal.returns-then-p-ne-ALL_PIECE
returns-then-p-ne-ALL_PIECE c = split-known _ c.args.t _ (omega (arith, c.if-p-ne-ALL_PIECE.true)) c.requires.good c.requires.room.1

pub returns : goal.returns
returns c = split-all _ _ c.in-Some.is (search rules) c.type_to_parts.ensures
