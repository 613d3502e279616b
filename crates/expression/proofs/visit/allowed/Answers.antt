-- `expression::visit::allowed` meets its contract. Assumes nothing.
use Rattle.expression.proofs.Visits.{allowed_weigh, allowed_small, allowed_not, allowed_tidy, allowed_so}
use native.Mathlib.Omega.{arith}
use Rattle.expression.proofs.visit.allowed.Goals as goal

pub weigh-pieces-requires : goal.weigh-pieces-requires
weigh-pieces-requires c =
    let q9 = allowed_weigh c.requires in
    record { memory = q9.0; n_in_bounds = q9.1 }

pub overflow_add-pieces : goal.overflow_add-pieces
overflow_add-pieces c = let h = allowed_small c.requires c.weigh-pieces.ensures in omega (arith, h.0)

pub overflow_add-held : goal.overflow_add-held
overflow_add-held c = let h = allowed_small c.requires c.weigh-pieces.ensures in omega (arith, h.1)

pub returns-then-held-pieces-gt-MAX_PIECES : goal.returns-then-held-pieces-gt-MAX_PIECES
returns-then-held-pieces-gt-MAX_PIECES c = allowed_not c.requires c.weigh-pieces.ensures c.if-held-pieces-gt-MAX_PIECES.true

pub tidy-requires : goal.tidy-requires
tidy-requires c =
    let q9 = allowed_tidy c.requires c.weigh-pieces.ensures c.if-held-pieces-gt-MAX_PIECES.false in
    record { memory = q9.0; slots_bound = q9.1 }

pub returns : goal.returns
returns c =
    allowed_so c.requires c.weigh-pieces.ensures c.if-held-pieces-gt-MAX_PIECES.false c.tidy.ensures
