use Rattle.std.specs.Prelude.{◌+◌, Option, Result, IfOk, IfSome}
use Rattle.std.proofs.Common.{List, sym, subst, ◌∙◌}
use mathlib.Core.List.{IsPrefix}
use Rattle.ejson_value.specs.declared.memory.Mem.{Mem}
use Rattle.history_model.specs.declared.entry.Entry.{Entry}
use Rattle.session_state.specs.declared.subs.Sub.{Sub}
use Rattle.shared_session.specs.Events.{Meets}
use Rattle.world_news_laws.specs.multiplexer.declared.news.Lent.{Lent}
use Rattle.world_news_laws.specs.multiplexer.Spans.{IsLent}
use Rattle.world_news_laws.specs.Sources.{IsSub}
use Rattle.shared_store.specs.Store.{over}
use Rattle.shared_multiplexer.specs.Copied.{AreCopiedOf}
use Rattle.shared_multiplexer.proofs.Lends.{sub_is, held_source, lends, kept_on}
use Rattle.shared_multiplexer.proofs.feeding.lend.Goals as goal

pub span-requires-clause-entries : goal.span-requires-clause-entries
span-requires-clause-entries g c = subst (λ (es : List Entry). AreCopiedOf c.args.entries.now (over g.N.StoreName.app es)) (sym (c.note-in-Some.ensures.note ∙ c.note.ensures.same)) c.requires.entries

pub span-requires-clause-source : goal.span-requires-clause-source
span-requires-clause-source g c =
    let app = g.N.StoreName.app in
    let h = c.meet.new.self in
    let sub = c.in-Some.live.now in
    let is : IsSub c.args.sub sub h.session = sub_is c.args.sub c.subs.result.now sub h.session c.subs.ensures.live c.subs.ensures.observers c.in-Some.ensures.live c.in-Some.ensures.observer in
    held_source app h c.args.sub sub (kept_on app c.args.session.now h c.meet.ensures.same c.meet.ensures.keeps c.requires.kept) is (c.may_share.ensures c.if-may_share.true).1

pub returns-in-Some-clause-lent : goal.returns-in-Some-clause-lent
returns-in-Some-clause-lent g c =
    let app = g.N.StoreName.app in
    let h = c.meet.new.self in
    let sub = c.in-Some.live.now in
    let until = c.args.from + c.args.count in
    let both = c.may_share.ensures c.if-may_share.true in
    let is : IsSub c.args.sub sub h.session = sub_is c.args.sub c.subs.result.now sub h.session c.subs.ensures.live c.subs.ensures.observers c.in-Some.ensures.live c.in-Some.ensures.observer in
    lends app c.args.pass.now h c.args.sub c.args.from until sub is both.0 both.1 (subst (λ (es : List Entry). IsPrefix es h.list) c.note.ensures.note c.meet.ensures.meets.theirs) c.span.result
    (subst (λ (es : List Entry). IfOk c.span.result (λ (answer : Option Lent). IfSome answer (IsLent (over app es) sub c.args.from until))) (c.note-in-Some.ensures.note ∙ c.note.ensures.same) c.span.ensures.lent)

pub returns-in-Some-clause-meets : goal.returns-in-Some-clause-meets
returns-in-Some-clause-meets g c = subst (λ (es : List Entry). Meets es c.args.session.now c.meet.new.self) c.note.ensures.note c.meet.ensures.meets

pub returns-in_default-clause-meets : goal.returns-in_default-clause-meets
returns-in_default-clause-meets g c = subst (λ (es : List Entry). Meets es c.args.session.now c.meet.new.self) c.note.ensures.note c.meet.ensures.meets
