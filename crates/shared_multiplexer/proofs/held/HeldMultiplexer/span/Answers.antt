use Rattle.std.proofs.Common.{◌+◌, ◌≤◌, List, length, sym, subst, arith, ap}
use mathlib.Core.List.{IsPrefix}
use Rattle.history_model.specs.declared.entry.Entry.{Entry}
use Rattle.store_machine.specs.State.{programs}
use Rattle.world_news_laws.specs.multiplexer.Looks.{looks, known_in}
use Rattle.world_news_laws.specs.multiplexer.Others.{LeavesOthers}
use Rattle.world_news_laws.specs.multiplexer.Telling.{ANews}
use Rattle.shared_store.specs.Store.{over}
use Rattle.shared_multiplexer.proofs.Lists.{copied_longer, within_of, lent_back, looks_longer}
use Rattle.shared_multiplexer.proofs.held.HeldMultiplexer.span.Goals as goal

pub told-requires-clause-entries : goal.told-requires-clause-entries
told-requires-clause-entries g c = copied_longer g.N.StoreName.app c.args.note c.meet.new.self.list c.meet.ensures.theirs c.args.entries.now c.requires.entries

pub returns-clause-lent : goal.returns-clause-lent
returns-clause-lent g c =
    let app = g.N.StoreName.app in
    let until = c.args.from + c.args.count in
    let fits : until ≤ length c.args.note = omega (arith, c.requires.next, within_of (programs app) c.args.note c.args.entries.now.first c.args.entries.now.changes c.requires.entries) in
    lent_back app c.args.note c.meet.new.self.list c.meet.ensures.theirs c.args.sub.now c.args.from until c.told.result fits c.told.ensures.lent

pub returns-clause-ticks : goal.returns-clause-ticks
returns-clause-ticks g c =
    let app = g.N.StoreName.app in
    let until = c.args.from + c.args.count in
    let sub = c.args.sub.now in
    let fits : until ≤ length c.args.note = omega (arith, c.requires.next, within_of (programs app) c.args.note c.args.entries.now.first c.args.entries.now.changes c.requires.entries) in
    let place = known_in c.args.self.now.news.sources sub.name sub.params c.args.from until in
    let mid = subst (λ (news : ANews). c.told.new.steps ≤ c.args.steps.now + looks (length sub.cursors) (over app c.meet.new.self.list) (known_in news.sources sub.name sub.params c.args.from until) until) c.meet.ensures.same c.told.ensures.ticks in
    subst (λ n. c.told.new.steps ≤ c.args.steps.now + n) (sym (looks_longer app c.args.note c.meet.new.self.list c.meet.ensures.theirs (length sub.cursors) place until fits)) mid

pub returns-clause-others : goal.returns-clause-others
returns-clause-others g c =
    let sub = c.args.sub.now in
    subst (λ (news : ANews). LeavesOthers sub.name sub.params news.sources c.told.new.self.news.sources) c.meet.ensures.same c.told.ensures.others

pub returns-clause-own : goal.returns-clause-own
returns-clause-own g c = subst (λ (es : List Entry). IsPrefix c.args.self.now.list es) (sym c.told.ensures.list) c.meet.ensures.own

pub returns-clause-theirs : goal.returns-clause-theirs
returns-clause-theirs g c = subst (λ (es : List Entry). IsPrefix c.args.note es) (sym c.told.ensures.list) c.meet.ensures.theirs
