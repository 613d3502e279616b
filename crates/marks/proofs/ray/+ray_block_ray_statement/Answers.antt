-- `marks::ray::+ray_block_ray_statement` meets its contract. Assumes nothing.
use mathlib.Core.Path.{refl, sym, ap, ◌∙◌}
use Rattle.std.proofs.Common.{rules}
use native.Mathlib.Omega.{arith}
use Rattle.walk.specs.Marks.{ray_of, first_ray}
use Rattle.marks.proofs.Rays.{ray_down, found_is, nothing_is, down_found, down_next, down_end, from_found, from_next, from_end, ray_begins, statement_in, statement_small, decoded, held_block, statement_ray, ray_kind}
use Prim.Native.Nat.{◌-◌}
use Rattle.marks.proofs.ray.+ray_block_ray_statement.Goals as goal

pub ray_block-loop-k-init : goal.ray_block-loop-k-init
ray_block-loop-k-init t c = ray_begins _ _ _ _ c.requires _ _ c.block-range.ensures

pub ray_block-overflow_add-first : goal.ray_block-overflow_add-first
ray_block-overflow_add-first t c =
    let h = statement_small _ _ _ _ _ (statement_in _ _ _ _ c.requires _ _ _ c.block-range.ensures c.loop-k-test.true) _ refl in omega arith

pub ray_block-ray_statement-requires : goal.ray_block-ray_statement-requires
ray_block-ray_statement-requires t c =
    (omega (arith, c.decreases), statement_in _ _ _ _ c.requires _ _ _ c.block-range.ensures c.loop-k-test.true)

pub ray_block-returns-in-Some : goal.ray_block-returns-in-Some
ray_block-returns-in-Some t c =
    from_found _ _ _ _ _ _ _ c.loop-k-test.true c.loop-k.invariant _ (found_is c.in-Some.is c.ray_statement.ensures)

pub ray_block-loop-k-preserved : goal.ray_block-loop-k-preserved
ray_block-loop-k-preserved t c =
    from_next _ _ _ _ _ _ _ c.loop-k-test.true c.loop-k.invariant (nothing_is c.in_default.is c.ray_statement.ensures)

pub ray_block-returns : goal.ray_block-returns
ray_block-returns t c =
    from_end _ _ _ _ c.loop-k.k c.block-range.result.count _ (omega arith) c.loop-k.invariant

pub ray_statement-returns-in-Ok-RayQuery : goal.ray_statement-returns-in-Ok-RayQuery
ray_statement-returns-in-Ok-RayQuery t c =
    ray_kind _ _ _ _ (search rules) (search rules) ∙ ap (ray_of _ _) (sym (decoded _ _ _ _ _ c.requires _ c.statement-row.ensures))

pub ray_statement-loop-j-init : goal.ray_statement-loop-j-init
ray_statement-loop-j-init t c =
    ap (ray_down _ _) c.held_count-n.ensures.0

pub ray_statement-ray_block-requires : goal.ray_statement-ray_block-requires
ray_statement-ray_block-requires t c =
    let e = c.held_number.ensures in
    let h = held_block _ _ _ _ _ c.requires _ c.statement-row.ensures (c.loop-j.j - 1) (omega arith) in
    (omega (arith, c.decreases, h.0), rw e h.1)

pub ray_statement-returns-in-Some : goal.ray_statement-returns-in-Some
ray_statement-returns-in-Some t c =
    down_found _ _ c.loop-j.j (c.loop-j.j - 1) _ (omega arith) c.loop-j.invariant _
    (found_is c.in-Some.is (c.ray_block.ensures ∙ ap (first_ray _ _) c.held_number.ensures))
    ∙ statement_ray _ _ _ _ _ c.requires _ c.statement-row.ensures (λ h. search rules)

pub ray_statement-loop-j-preserved : goal.ray_statement-loop-j-preserved
ray_statement-loop-j-preserved t c =
    down_next _ _ c.loop-j.j (c.loop-j.j - 1) _ (omega arith) c.loop-j.invariant
    (nothing_is c.in_default-ray_block.is (c.ray_block.ensures ∙ ap (first_ray _ _) c.held_number.ensures))

pub ray_statement-returns : goal.ray_statement-returns
ray_statement-returns t c =
    down_end _ _ c.loop-j.j _ (omega arith) c.loop-j.invariant ∙ statement_ray _ _ _ _ _ c.requires _ c.statement-row.ensures (λ h. search rules)
