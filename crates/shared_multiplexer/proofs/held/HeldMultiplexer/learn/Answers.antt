use Rattle.std.specs.Arc.{arc_value}
use Rattle.std.proofs.Common.{subst}
use Rattle.world_news_laws.specs.multiplexer.Others.{OthersStay}
use Rattle.world_news_laws.specs.Sources.{cursors_at_of}
use Rattle.shared_store.specs.Store.{over}
use Rattle.shared_multiplexer.specs.Told.{AHeldNews}
use Rattle.shared_multiplexer.proofs.Lists.{theirs_longer, lent_in}
use Rattle.shared_multiplexer.proofs.held.HeldMultiplexer.learn.Goals as goal

pub invariant_of-self : goal.invariant_of-self
invariant_of-self g c =
    let app = g.N.StoreName.app in
    let list = c.meet.new.self in
    let was = c.requires in
    c.learn.ensures.told (cursors_at_of app) (over app list) was.sub was.from was.until (theirs_longer app c.self.inside.pass list c.meet.ensures.own c.self.inside.multiplexer c.self.invariant) was.source
    (lent_in app c.args.note list c.meet.ensures.note was.sub was.from was.until c.args.lent was.is)

pub returns-clause-others : goal.returns-clause-others
returns-clause-others g c =
    let lent = c.args.lent in
    subst (λ (h : AHeldNews). OthersStay lent.name (arc_value lent.params) h.news.sources c.learn.new.self.sources) c.self.view_is c.learn.ensures.others
