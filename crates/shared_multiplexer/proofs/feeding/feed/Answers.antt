use Rattle.std.specs.Arc.{arc_value}
use Rattle.std.proofs.Common.{List, sym, subst}
use Rattle.ejson_value.specs.declared.change.Publish.{Publish}
use Rattle.history_model.specs.declared.entry.Entry.{Entry}
use Rattle.session_laws.specs.Events.{cursors_at}
use Rattle.world_news_laws.specs.multiplexer_for_proofs.Lending.{with_texts}
use Rattle.shared_session.specs.Standing.{WereTold}
use Rattle.shared_multiplexer.specs.Told.{WasLent}
use Rattle.shared_multiplexer.proofs.Lends.{fed_of, lent_told, lent_right, lent_learnt}
use Rattle.shared_multiplexer.proofs.feeding.feed.Goals as goal

pub feed-requires-clause-told : goal.feed-requires-clause-told
feed-requires-clause-told g c =
    let app = g.N.StoreName.app in
    let cs = cursors_at c.args.sub c.args.session.now.session in
    subst (λ (es : List Entry). WereTold app es cs c.args.from c.args.count c.deref.result.now) (sym c.note.ensures.note)
    (subst (λ (ps : List Publish). WereTold app c.args.pass.now cs c.args.from c.args.count ps) (sym c.deref.ensures)
    (lent_told app c.args.pass.now c.args.session.now c.args.sub c.args.from c.args.count c.args.lent c.requires.kept c.requires.lent))

pub feed-requires-clause-right : goal.feed-requires-clause-right
feed-requires-clause-right g c =
    lent_right g.N.StoreName.app c.args.pass.now c.args.session.now c.args.sub c.args.from c.args.count c.args.lent c.requires.kept c.requires.lent c.deref.result.now c.deref.ensures

pub put_back-requires : goal.put_back-requires
put_back-requires g c =
    let app = g.N.StoreName.app in
    subst (λ (es : List Entry). WasLent app es (with_texts c.args.lent c.feed.new.known)) (sym c.note.ensures.same)
    (lent_learnt app c.args.pass.now c.args.session.now c.args.sub c.args.from c.args.count c.args.lent c.requires.kept c.requires.lent c.deref.result.now c.feed.new.known c.deref.ensures c.feed.ensures.learnt)

pub returns-in-Ok-clause-feeds : goal.returns-in-Ok-clause-feeds
returns-in-Ok-clause-feeds g c =
    fed_of c.args.sub c.args.from c.args.count c.deref.result.now (arc_value c.args.lent.span.told) c.note.result c.args.pass.now c.args.session.now c.feed.new.self _
    c.deref.ensures c.note.ensures.note c.in-Ok.ensures.feeds

pub returns-in-Err-clause-feeds : goal.returns-in-Err-clause-feeds
returns-in-Err-clause-feeds g c =
    fed_of c.args.sub c.args.from c.args.count c.deref.result.now (arc_value c.args.lent.span.told) c.note.result c.args.pass.now c.args.session.now c.feed.new.self _
    c.deref.ensures c.note.ensures.note c.in-Err.ensures.feeds
