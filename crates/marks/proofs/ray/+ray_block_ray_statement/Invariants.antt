-- `marks::ray::+ray_block_ray_statement` meets its contract. Assumes nothing.
use mathlib.Core.Path.{◌≡◌}
use mathlib.Core.Option.{none as nothing}
use Rattle.module.specs.Knot.{below}
use Rattle.module.specs.Tables.{module_of}
use Rattle.access.specs.Access.{operand_at}
use Rattle.walk.specs.Marks.{ray_from, first_ray}
use Rattle.marks.specs.Ray.{held_count, held_number}
use Rattle.marks.proofs.Rays.{ray_down}
use Prim.Native.Nat.{◌+◌, ◌-◌, ◌*◌}
use Rattle.marks.proofs.ray.+ray_block_ray_statement.Given as goal

abbrev pub invariant-ray_block-loop-k : goal.invariant-ray_block-loop-k
invariant-ray_block-loop-k l = ray_from (module_of l.file.bytes l.file.t) l.f.0 (below (first_ray (module_of l.file.bytes l.file.t) l.f.0) nothing l.b.0) (l.first + l.k) (l.count - l.k) ≡ first_ray (module_of l.file.bytes l.file.t) l.f.0 l.b.0

abbrev pub invariant-ray_statement-loop-j : goal.invariant-ray_statement-loop-j
invariant-ray_statement-loop-j l = ray_down (first_ray (module_of l.file.bytes l.file.t) l.f.0) (held_number l.row.kind (operand_at l.file.bytes l.row)) l.j ≡ ray_down (first_ray (module_of l.file.bytes l.file.t) l.f.0) (held_number l.row.kind (operand_at l.file.bytes l.row)) (held_count l.row.kind (operand_at l.file.bytes l.row))

abbrev pub decreases-ray_block : goal.decreases-ray_block
decreases-ray_block l = 2 * l.b.0 + 1

abbrev pub decreases-ray_statement : goal.decreases-ray_statement
decreases-ray_statement l = 2 * l.b.0
