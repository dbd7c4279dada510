use Rattle.std.specs.Prelude.{Option, IfOk, IfSome}
use Rattle.std.proofs.Common.{List, sym, subst, ◌∙◌}
use mathlib.Core.List.{IsPrefix}
use Rattle.history_model.specs.declared.entry.Entry.{Entry}
use Rattle.shared_session.specs.Events.{Meets}
use Rattle.world_news_laws.specs.multiplexer.declared.news.Lent.{Lent}
use Rattle.shared_multiplexer.specs.Lending.{IsLentTo}
use Rattle.shared_multiplexer.proofs.Lends.{lends_known}
use Rattle.shared_multiplexer.proofs.feeding.lend_known.Goals as goal

pub returns-clause-grows : goal.returns-clause-grows
returns-clause-grows g c = subst (λ (es : List Entry). IsPrefix c.args.pass.now es) (sym c.note.ensures.same) c.known-lent.ensures.grows

pub returns-clause-meets : goal.returns-clause-meets
returns-clause-meets g c = subst (λ (es : List Entry). Meets es c.args.session.now c.meet.new.self) (c.note.ensures.note ∙ sym c.note.ensures.same) c.meet.ensures.meets

pub returns-clause-lent : goal.returns-clause-lent
returns-clause-lent g c =
    let app = g.N.StoreName.app in
    let new = c.meet.new.self in
    let seen = subst (λ (es : List Entry). IsPrefix es new.list) c.note.ensures.note c.meet.ensures.meets.theirs in
    subst (λ (es : List Entry). IfOk c.known-lent.result (λ (answer : Option Lent). IfSome answer (IsLentTo app es new c.args.sub c.args.from c.args.until))) (sym c.note.ensures.same)
    (lends_known app c.known-lent.new.pass c.args.session.now new c.args.sub c.args.from c.args.until c.meet.ensures.same seen c.known-lent.result c.known-lent.ensures.lent)
