-- `strays::blocks::strays` meets its contract: the body is the last block.
use Rattle.strays.proofs.Found.{body_there}
use Rattle.strays.proofs.Steps.{body_strays}
use native.Mathlib.Omega.{arith}
use Rattle.strays.proofs.blocks.strays.Goals as goal

pub stray_block-requires : goal.stray_block-requires
stray_block-requires c = body_there c.requires (omega (arith, c.body_block-b.ensures))

pub returns : goal.returns
returns c =
    body_strays _ _ _ _ (omega (arith, c.body_block-b.ensures)) c.at_top.ensures c.stray_block.ensures
