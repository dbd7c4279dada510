use Rattle.std.proofs.Common.{◌+◌, ◌≤◌, length, sym, subst}
use Rattle.std.specs.Prelude.{IfOk, IfSome}
use Rattle.world_news_laws.specs.multiplexer.Looks.{looks, known_in}
use Rattle.world_news_laws.specs.multiplexer.Others.{LeavesOthers}
use Rattle.world_news_laws.specs.multiplexer.Spans.{IsLent}
use Rattle.world_news_laws.specs.Sources.{cursors_at_of}
use Rattle.shared_multiplexer.specs.Copied.{AreCopiedOf}
use Rattle.shared_store.specs.Store.{over}
use Rattle.shared_multiplexer.specs.Told.{AHeldNews}
use Rattle.shared_multiplexer.proofs.held.HeldMultiplexer.told.Goals as goal

pub invariant_of-self : goal.invariant_of-self
invariant_of-self g c =
    let app = g.N.StoreName.app in
    let are = subst (λ (h : AHeldNews). AreCopiedOf c.args.entries.now (over app h.list)) (sym c.self.view_is) c.requires.entries in
    c.span.ensures.keeps (cursors_at_of app) (over app c.self.inside.pass) are c.self.invariant c.requires.source

pub returns-clause-lent : goal.returns-clause-lent
returns-clause-lent g c =
    let app = g.N.StoreName.app in
    let are = subst (λ (h : AHeldNews). AreCopiedOf c.args.entries.now (over app h.list)) (sym c.self.view_is) c.requires.entries in
    subst (λ (h : AHeldNews). IfOk c.span.result (λ answer. IfSome answer (IsLent (over app h.list) c.args.sub.now c.args.from (c.args.from + c.args.count)))) c.self.view_is
    (c.span.ensures.lent (cursors_at_of app) (over app c.self.inside.pass) are c.self.invariant c.requires.source)

pub returns-clause-ticks : goal.returns-clause-ticks
returns-clause-ticks g c =
    let app = g.N.StoreName.app in
    let are = subst (λ (h : AHeldNews). AreCopiedOf c.args.entries.now (over app h.list)) (sym c.self.view_is) c.requires.entries in
    let until = c.args.from + c.args.count in
    let sub = c.args.sub.now in
    subst (λ (h : AHeldNews). c.span.new.steps ≤ c.args.steps.now + looks (length sub.cursors) (over app h.list) (known_in h.news.sources sub.name sub.params c.args.from until) until) c.self.view_is
    (c.span.ensures.ticks (cursors_at_of app) (over app c.self.inside.pass) are c.requires.source)

pub returns-clause-known : goal.returns-clause-known
returns-clause-known g c = λ known.
    let app = g.N.StoreName.app in
    let are = subst (λ (h : AHeldNews). AreCopiedOf c.args.entries.now (over app h.list)) (sym c.self.view_is) c.requires.entries in
    let until = c.args.from + c.args.count in
    let sub = c.args.sub.now in
    c.span.ensures.known (over app c.self.inside.pass) are (subst (λ (h : AHeldNews). until ≤ known_in h.news.sources sub.name sub.params c.args.from until) (sym c.self.view_is) known)

pub returns-clause-others : goal.returns-clause-others
returns-clause-others g c =
    let sub = c.args.sub.now in
    subst (λ (h : AHeldNews). LeavesOthers sub.name sub.params h.news.sources c.span.new.self.sources) c.self.view_is c.span.ensures.others
