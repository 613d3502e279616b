-- `rounds::settle::round` meets its contract (Passed).
use Rattle.rounds.proofs.Passed.{round_course, round_block, round_room, rounded}
use native.Mathlib.Omega.{arith}
use Rattle.rounds.proofs.settle.round.Goals as goal

pub pass_around-requires : goal.pass_around-requires
pass_around-requires c =
    record { course = round_course c.requires; b_in_bounds = round_room c.requires (omega (arith, c.body_block-b.ensures)); block_of = round_block c.requires (omega (arith, c.body_block-b.ensures)) }

pub returns : goal.returns
returns c =
    rounded c.args.marked.now.marks.now (omega (arith, c.body_block-b.ensures)) c.pass_around.ensures
