-- `judge::shapes::same_part` meets its contract: a part that is there is a member, or what a dynamic index gives.
use borrow.Author.Rules.{rules}
use Rattle.judge.proofs.ShapeRows.{part_none, part_struct, part-other, member_there}
use Rattle.judge.proofs.shapes.same_part.Goals as goal

pub returns-then-part_count-i : goal.returns-then-part_count-i
returns-then-part_count-i c = λ S p. part_none _ S p _ _ _ c.part_count.ensures c.if-part_count-i.true

pub base_at-requires : goal.base_at-requires
base_at-requires c =
    member_there _ _ c.kind_at.ensures (search rules) c.part_count.ensures c.if-part_count-i.false

pub returns-in-Struct : goal.returns-in-Struct
returns-in-Struct c =
    λ S p. part_struct _ S p _ c.kind_at.ensures _ _ c.part_count.ensures c.if-part_count-i.false c.requires.shapes c.requires.a_in_bounds c.requires.b_in_bounds (search rules) c.base_at.ensures c.is_alike.ensures

pub same_element-requires : goal.same_element-requires
same_element-requires c =
    record { shapes = c.requires.shapes; a_in_bounds = c.requires.a_in_bounds; b_in_bounds = c.requires.b_in_bounds }

pub returns-in_default : goal.returns-in_default
returns-in_default c =
    λ S p. part-other _ S p _ c.kind_at.ensures _ _ c.part_count.ensures c.if-part_count-i.false (search rules) (c.same_element.ensures S p)
