-- `statement::rays::add_ray` meets its contract. Assumes nothing.
use Rattle.state.proofs.Ends.{passed}
use Rattle.statement.proofs.RayArms.{ray_aims, ray_refuses, ray_unneeded, ray_begins, ray_below, ray_asks}
use native.Mathlib.Omega.{arith}
use Rattle.statement.proofs.rays.add_ray.Goals as goal

pub target_of-requires : goal.target_of-requires
target_of-requires c = ray_aims c.requires.arm c.requires.ray_kind 0 c.ray_fields-x.ensures

pub then_maybe-a-requires : goal.then_maybe-a-requires
then_maybe-a-requires c =
    record { fact = ray_begins c.requires.arm c.requires.ray_kind _ c.ray_fields-x.ensures c.target_of.ensures c.in_ok-aim.was; maybe_below = ((ray_below c.requires.arm c.requires.ray_kind 0 c.ray_fields-x.ensures).first, omega arith) }

pub then_maybe-b-requires-clause-maybe_below : goal.then_maybe-b-requires-clause-maybe_below
then_maybe-b-requires-clause-maybe_below c =
    ((ray_below c.requires.arm c.requires.ray_kind 0 c.ray_fields-x.ensures).second, omega arith)

pub returns-in_err-aim : goal.returns-in_err-aim
returns-in_err-aim c =
    rw (passed c.from_residual.ensures.1)
    (ray_refuses c.requires.arm c.requires.ray_kind _ c.ray_fields-x.ensures c.target_of.ensures c.in_err-aim.was)

pub returns-in-None : goal.returns-in-None
returns-in-None c =
    rw c.answer.ensures
    (ray_unneeded c.requires.arm c.requires.ray_kind _ c.ray_fields-x.ensures c.target_of.ensures c.in_ok-aim.was c.in-None.is)

pub returns-in-Some : goal.returns-in-Some
returns-in-Some c =
    ray_asks c.requires.arm c.requires.ray_kind _ c.ray_fields-x.ensures c.target_of.ensures c.in_ok-aim.was c.in-Some.is c.then_maybe-a.ensures c.then_maybe-b.ensures c.answer-in-Some.ensures
