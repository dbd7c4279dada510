use Rattle.std.specs.Prelude.{IfErr, Result}
use Rattle.std.specs.Arc.{arc_value}
use Rattle.std.proofs.Common.{sym, subst}
use Rattle.server_connection.specs.declared.ended.Ended.{Ended}
use Rattle.server_connection.specs.Looks.{StopsEvent}
use Rattle.server_connection.proofs.Counts.{prefix_same}
use Rattle.server_connection.proofs.Events.{feed_sees, feed_ends}
use Rattle.server_connection.proofs.Works.{works_learnt}
use Rattle.server_connection.proofs.bringing.bring_lent.Goals as goal

pub feed-requires-clause-kept : goal.feed-requires-clause-kept
feed-requires-clause-kept g c = record { served = c.requires.served.of_app; stands = c.requires.served.stands }

pub returns-clause-works : goal.returns-clause-works
returns-clause-works g c =
    let p = c.args.pass.now in
    works_learnt g.N.StoreName.app c.args.caller.now p p c.feed.new.pass c.args.session.now c.feed.new.session c.requires.served (prefix_same p) c.feed.ensures.same
    (feed_sees c.args.sub c.args.from c.args.count (arc_value c.args.lent.span.told) p c.args.session.now c.feed.new.session c.feed.result c.feed.ensures.feeds)

pub returns-clause-cause : goal.returns-clause-cause
returns-clause-cause g c =
    subst (λ (r : Result (Unit {0}) Ended). IfErr r (StopsEvent c.feed.new.session.session)) (sym c.done.ensures)
    (feed_ends c.args.sub c.args.from c.args.count (arc_value c.args.lent.span.told) c.args.pass.now c.args.session.now c.feed.new.session c.feed.result c.feed.ensures.feeds)
