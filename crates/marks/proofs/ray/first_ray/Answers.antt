-- `marks::ray::first_ray` meets its contract. Assumes nothing.
use mathlib.Core.Path.{◌∙◌}
use native.Mathlib.Omega.{arith}
use Rattle.marks.proofs.Rays.{body_is, body_at}
use Rattle.marks.proofs.ray.first_ray.Goals as goal

pub ray_block-requires : goal.ray_block-requires
ray_block-requires c =
    body_is _ _ _ c.requires.0 c.requires.1 _ (omega (arith, c.body_block-b.ensures))

pub returns : goal.returns
returns c =
    c.ray_block.ensures ∙ body_at _ _ _ c.requires.0 c.requires.1 _ c.body_block-b.ensures
