use Rattle.std.proofs.Common.{◌+◌, ◌*◌, List, length, take, sym, subst, arith}
use Rattle.live_observer.specs.Answering.{ToldOf, AreToldBy}
use Rattle.live_observer.proofs.Plans.{next_told, more_steps}
use Rattle.live_observer.proofs.observer.Observer.told.Goals as goal

pub loop-one-preserved : goal.loop-one-preserved
loop-one-preserved g c =
    let i = c.loop-one.one-index in
    let w = c.one-item.result in
    let items = c.deref-one-items.result.now in (
      subst (λ (all : List ToldOf). AreToldBy (take (i + 1) items) c.args.changes.now all) (sym c.in_ok-push.ensures.items) (next_told items c.args.changes.now c.loop-one.told.items i w c.in_ok-tells.tells c.loop-one-test.true c.one-item.is c.loop-one.invariant.0 c.in_ok-tells.ensures.told),
      omega (arith, c.loop-one.invariant.1, c.in_ok-tells.ensures.grows),
      more_steps c.args.steps.now c.loop-one.steps c.told.new.steps i (2 * length c.args.changes.now) c.loop-one.invariant.2 c.in_ok-tells.ensures.ticks,
    )
