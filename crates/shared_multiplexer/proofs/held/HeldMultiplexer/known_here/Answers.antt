use Rattle.std.specs.Prelude.{IfOk, IfSome}
use Rattle.std.proofs.Common.{◌≤◌, sym, subst}
use Rattle.world_news_laws.specs.multiplexer.Looks.{known_in}
use Rattle.world_news_laws.specs.multiplexer.Others.{OthersStay}
use Rattle.world_news_laws.specs.multiplexer.Spans.{IsLent}
use Rattle.world_news_laws.specs.Sources.{cursors_at_of}
use Rattle.shared_store.specs.Store.{over}
use Rattle.shared_multiplexer.specs.Told.{AHeldNews}
use Rattle.shared_multiplexer.proofs.held.HeldMultiplexer.known_here.Goals as goal

pub invariant_of-self : goal.invariant_of-self
invariant_of-self g c =
    let app = g.N.StoreName.app in
    c.known.ensures.keeps (cursors_at_of app) (over app c.self.inside.pass) c.self.invariant c.requires

pub returns-clause-lent : goal.returns-clause-lent
returns-clause-lent g c =
    let app = g.N.StoreName.app in
    subst (λ (h : AHeldNews). IfOk c.known.result (λ answer. IfSome answer (IsLent (over app h.list) c.args.sub.now c.args.from c.args.until))) c.self.view_is
    (c.known.ensures.lent (cursors_at_of app) (over app c.self.inside.pass) c.self.invariant c.requires)

pub returns-clause-known : goal.returns-clause-known
returns-clause-known g c = λ some all.
    let sub = c.args.sub.now in
    c.known.ensures.known some (subst (λ (h : AHeldNews). c.args.until ≤ known_in h.news.sources sub.name sub.params c.args.from c.args.until) (sym c.self.view_is) all)

pub returns-clause-others : goal.returns-clause-others
returns-clause-others g c =
    let sub = c.args.sub.now in
    subst (λ (h : AHeldNews). OthersStay sub.name sub.params h.news.sources c.known.new.self.sources) c.self.view_is c.known.ensures.others
