use Rattle.world_news_laws.specs.Sources.{IsSub}
use Rattle.shared_multiplexer.proofs.Lends.{sub_is}
use Rattle.shared_multiplexer.proofs.feeding.may_ask.Goals as goal

pub returns-in-Some : goal.returns-in-Some
returns-in-Some g c = λ yes.
    let h = c.args.session.now in
    let sub = c.in-Some.live.now in
    let both = c.may_share.ensures c.if-may_share.true in
    let is : IsSub c.args.sub sub h.session = sub_is c.args.sub c.subs.result.now sub h.session c.subs.ensures.live c.subs.ensures.observers c.in-Some.ensures.live c.in-Some.ensures.observer in
    record { sub = sub; is = is; placed = both.0; unlimited = both.1 }
