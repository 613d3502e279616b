-- `marks::places::place_marks` meets its contract. Assumes nothing.
use mathlib.Core.Path.{◌≡◌, refl}
use native.Mathlib.Omega.{arith}
use Rattle.marks.specs.Places.{start_of}
use Rattle.marks.proofs.Placed.{starts_to, firsts_to, starts_more, firsts_more, places-made}
use Rattle.marks.proofs.places.place_marks.Goals as goal

pub loop-f-init : goal.loop-f-init
unfolding start_of starts_to firsts_to
loop-f-init c = (refl, refl, refl)

pub loop-f-preserved : goal.loop-f-preserved
loop-f-preserved c =
    let i = c.loop-f.invariant in
    (starts_more _ _ c.requires.was_read _ _ _ _ _ i.0 i.2 c.put.ensures, firsts_more _ _ c.requires.was_read _ _ _ _ i.1 c.place_statements-at.ensures.0, c.place_statements-at.ensures.1)

pub returns : goal.returns
returns c =
    let e : c.loop-f.f ≡ c.functions-n.result = omega arith in
    let i = rw e at c.loop-f.invariant in
    places-made _ _ c.requires.was_read _ _ _ _ _ _ _ c.functions-n.ensures c.requires.long.0 c.requires.long.1 i.0 i.2 c.put-2.ensures i.1
