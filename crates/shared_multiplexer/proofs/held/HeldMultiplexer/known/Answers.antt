use Rattle.std.proofs.Common.{◌≤◌, List, ap, sym, subst, ◌∙◌}
use mathlib.Core.List.{IsPrefix}
use Rattle.history_model.specs.declared.entry.Entry.{Entry}
use Rattle.world_news_laws.specs.multiplexer.Looks.{known_in}
use Rattle.world_news_laws.specs.multiplexer.Others.{OthersStay}
use Rattle.world_news_laws.specs.multiplexer.Telling.{ANews}
use Rattle.shared_multiplexer.specs.Told.{AHeldNews}
use Rattle.shared_multiplexer.proofs.Lists.{lent_on}
use Rattle.shared_multiplexer.proofs.held.HeldMultiplexer.known.Goals as goal

pub returns-clause-lent : goal.returns-clause-lent
returns-clause-lent g c =
    let app = g.N.StoreName.app in
    let list = c.note-2.new.self.list in
    let all = c.meet-2.new.self in
    let seen : IsPrefix list all = subst (λ (es : List Entry). IsPrefix es all) (c.note-2.ensures.note ∙ ap (λ (h : AHeldNews). h.list) (sym c.note-2.ensures.same)) c.meet-2.ensures.note in
    lent_on app list all seen c.args.sub.now c.args.from c.args.until c.known_here.result c.known_here.ensures.lent

pub returns-clause-known : goal.returns-clause-known
returns-clause-known g c = λ some all.
    let sub = c.args.sub.now in
    let same = c.meet.ensures.same in
    c.known_here.ensures.known some (subst (λ (news : ANews). c.args.until ≤ known_in news.sources sub.name sub.params c.args.from c.args.until) (sym (ap (λ (h : AHeldNews). h.news) c.note-2.ensures.same ∙ same)) all)

pub returns-clause-others : goal.returns-clause-others
returns-clause-others g c =
    let sub = c.args.sub.now in
    subst (λ (news : ANews). OthersStay sub.name sub.params news.sources c.known_here.new.self.news.sources) (ap (λ (h : AHeldNews). h.news) c.note-2.ensures.same ∙ c.meet.ensures.same)
    c.known_here.ensures.others

pub returns-clause-own : goal.returns-clause-own
returns-clause-own g c =
    subst (λ (es : List Entry). IsPrefix c.args.self.now.list es) (sym (c.known_here.ensures.list ∙ ap (λ (h : AHeldNews). h.list) c.note-2.ensures.same)) c.meet.ensures.own

pub returns-clause-theirs : goal.returns-clause-theirs
returns-clause-theirs g c =
    subst (λ (es : List Entry). IsPrefix c.args.pass.now es) (sym (c.known_here.ensures.list ∙ ap (λ (h : AHeldNews). h.list) c.note-2.ensures.same))
    (subst (λ (es : List Entry). IsPrefix es c.meet.new.self.list) c.note.ensures.note c.meet.ensures.theirs)

pub returns-clause-grows : goal.returns-clause-grows
returns-clause-grows g c = subst (λ (es : List Entry). IsPrefix es c.meet-2.new.self) c.note.ensures.same c.meet-2.ensures.own
