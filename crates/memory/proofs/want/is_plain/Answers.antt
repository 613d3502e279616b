-- `memory::want::is_plain` meets its contract. Assumes nothing.
use Rattle.memory.proofs.Asks.{plain_wrapped, plain_core}
use Rattle.memory.proofs.want.is_plain.Goals as goal

pub returns-then-w-gt0 : goal.returns-then-w-gt0
returns-then-w-gt0 c = plain_wrapped _ _ c.requires.memory.1 c.args.p c.if-w-gt0.true

pub returns : goal.returns
returns c = plain_core _ _ c.requires.memory.1 _ _ c.args.p c.if-w-gt0.false c.reach-n.ensures.1 c.requires.p_lt2
