-- `judge::shapes::pointee` meets its contract: by whether the type is a pointer's.
use borrow.Author.Rules.{rules}
use Rattle.judge.proofs.ShapeRows.{pointee_base, pointee_self}
use Rattle.judge.proofs.shapes.pointee.Goals as goal

pub returns-in-Pointer : goal.returns-in-Pointer
returns-in-Pointer c =
    pointee_base _ _ c.kind_at.ensures c.requires (search rules) c.first_word.ensures

pub returns-in_default : goal.returns-in_default
returns-in_default c = pointee_self _ _ c.kind_at.ensures (search rules)
