use Rattle.std.proofs.Common.{◌∙◌}
use Rattle.ejson_value.proofs.PutAll.{one_planned}
use Rattle.ejson_value.proofs.put_all.plan_of.Goals as goal

pub loop-change-preserved : goal.loop-change-preserved
loop-change-preserved c = λ k.
    one_planned c.as_slice-change-items.result.now c.loop-change.change-index c.change-item.result c.loop-change.plan.entries c.plan_change.new.plan.entries c.change-item.is c.loop-change-test.true c.in_ok-plan_change.ensures k
    ∙ c.loop-change.invariant k
