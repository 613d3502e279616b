-- `bindings::outputs::from_type` meets its contract: the entries of the members from the last to the first.
use Rattle.bindings.proofs.Rows.{count_small}
use Rattle.bindings.proofs.Members.{making_none, making_asks, making_skip, making_more, making_all}
use Rattle.bindings.proofs.outputs.from_type.Goals as goal

pub loop-i-init : goal.loop-i-init
loop-i-init c = making_none _ _ _ _ _ c.requires.good c.member_count-i.ensures

pub make-r-requires : goal.make-r-requires
make-r-requires c =
    let q9 = making_asks _ _ _ _ _ c.loop-i-test.true c.loop-i.invariant c.member_at-m.ensures c.in-Some.ensures (count_small _ _ c.args.types.now.all_sized) c.requires.held.1 c.requires.good.base c.requires.held.0 in
    record { good = q9.0; room = q9.1.0; child_bound = q9.1.1 }

pub loop-i-preserved-in-Some : goal.loop-i-preserved-in-Some
loop-i-preserved-in-Some c =
    making_more _ _ _ _ _ c.loop-i-test.true c.loop-i.invariant c.member_at-m.ensures c.in-Some.ensures c.requires.good.base c.requires.held.0 c.make-r.ensures

pub loop-i-preserved : goal.loop-i-preserved
loop-i-preserved c =
    making_skip _ _ _ _ _ c.loop-i-test.true c.loop-i.invariant c.member_at-m.ensures c.in_default.ensures

pub returns : goal.returns
returns c =
    making_all _ _ _ _ _ c.loop-i-test.false (count_small _ _ c.args.types.now.all_sized) c.loop-i.invariant
