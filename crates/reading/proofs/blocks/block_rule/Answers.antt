-- `reading::blocks::block_rule` meets its contract: by whether there is a block.
use mathlib.Core.Path.{refl, ◌∙◌}
use native.Mathlib.Omega.{arith}
use Rattle.reading.proofs.Rule.{no_body, rule_is}
use Rattle.reading.proofs.Counting.{filled_front, held_long, ones_front}
use Rattle.reading.proofs.blocks.block_rule.Goals as goal

pub returns-then-row-eq0 : goal.returns-then-row-eq0
returns-then-row-eq0 c = no_body _ _ _ c.if-row-eq0.true

pub returns : goal.returns
returns c =
    let front = filled_front c.args.seen.now c.fill.new.self c.args.row.blocks c.requires (c.fill.ensures.after (λ y e. e)) in
    rule_is _ _ _ _ _ _ _ _ _ (omega (arith, c.if-row-eq0.false)) c.requires front c.hold_all-below.ensures (c.each_once-once.ensures ∙ ones_front _ _ (omega (arith, c.requires, held_long _ _ _ front c.hold_all-below.ensures.1))) refl
