use Rattle.session_state.specs.declared.subs.Sub.{Sub}
use Rattle.world_news_laws.specs.Sources.{IsSub}
use Rattle.shared_multiplexer.proofs.Lends.{sub_is, held_source, knows}
use Rattle.shared_multiplexer.proofs.feeding.known.Goals as goal

pub known-requires : goal.known-requires
known-requires g c =
    let app = g.N.StoreName.app in
    let h = c.args.session.now in
    let sub = c.in-Some.live.now in
    let is : IsSub c.args.sub sub h.session = sub_is c.args.sub c.subs.result.now sub h.session c.subs.ensures.live c.subs.ensures.observers c.in-Some.ensures.live c.in-Some.ensures.observer in
    held_source app h c.args.sub sub c.requires is (c.may_share.ensures c.if-may_share.true).1

pub returns-in-Some-clause-lent : goal.returns-in-Some-clause-lent
returns-in-Some-clause-lent g c =
    let app = g.N.StoreName.app in
    let h = c.args.session.now in
    let sub = c.in-Some.live.now in
    let both = c.may_share.ensures c.if-may_share.true in
    let is : IsSub c.args.sub sub h.session = sub_is c.args.sub c.subs.result.now sub h.session c.subs.ensures.live c.subs.ensures.observers c.in-Some.ensures.live c.in-Some.ensures.observer in
    knows app c.known.new.pass h c.args.sub c.args.from c.args.until sub is both.0 both.1 c.known.result c.known.ensures.lent
