use Rattle.std.proofs.Common.{◌+◌, List, Option, IfSome, sym, subst}
use Rattle.std.specs.Arc.{arc_value}
use Rattle.ejson_value.specs.declared.change.Publish.{Publish}
use Rattle.connection.specs.session_laws.Events.{IsFeed}
use Rattle.connection.specs.world_model.Store.{moments}
use Rattle.world_news_laws.specs.multiplexer.declared.news.Lent.{Lent}
use Rattle.world_news_laws.specs.Sources.{cursors_at_of}
use Rattle.world_core.specs.Lending.{IsLentTo}
use Rattle.world_core.proofs.TellingLemmas.{lent_source, right, learns}
use Rattle.world_core.proofs.showing.advance_within.Goals as goal

pub feed-requires : goal.feed-requires
feed-requires c =
    let m = c.args.machine.now in
    let x = c.args.connection.now in
    let until = c.args.from + c.args.count in
    let is = subst (λ (o : Option Lent). IfSome o (IsLentTo m x c.args.sub c.args.from until)) c.in-Some.is c.in_ok-lent.ensures.lent in
    record { right = right m x c.requires.connection c.args.sub c.args.from until c.in-Some.lent is c.deref.result.now c.deref.ensures }

pub returns-in_ok-answer-in-Some-clause-keeps : goal.returns-in_ok-answer-in-Some-clause-keeps
returns-in_ok-answer-in-Some-clause-keeps c =
    let m = c.args.machine.now in
    let x = c.args.connection.now in
    let until = c.args.from + c.args.count in
    let is = subst (λ (o : Option Lent). IfSome o (IsLentTo m x c.args.sub c.args.from until)) c.in-Some.is c.in_ok-lent.ensures.lent in
    let lent = learns m x c.requires.connection c.args.sub c.args.from until c.in-Some.lent is c.deref.result.now c.feed.new.known c.deref.ensures c.feed.ensures.learnt in
    c.learn.ensures.told (cursors_at_of m.app) m is.sub c.args.from until c.told.ensures.keeps (lent_source m x c.requires.connection c.args.sub c.args.from until c.in-Some.lent is) lent

pub returns-in_ok-answer-in-Some-clause-advances : goal.returns-in_ok-answer-in-Some-clause-advances
returns-in_ok-answer-in-Some-clause-advances c = λ name p.
    let m = c.args.machine.now in
    let x = c.args.connection.now in
    let C = moments m.app x.session.carried.number m.history in
    let told = subst (λ (o : Option Lent). IfSome o (λ lent. IsFeed C c.args.sub c.args.count (arc_value lent.span.told) x.session)) c.in-Some.is c.in_ok-lent.ensures.feeds in
    let feed = subst (λ (ps : List Publish). IsFeed C c.args.sub c.args.count ps x.session) (sym c.deref.ensures) told in
    c.in_ok-answer-in-Some.ensures.feeds m.app name m.history feed c.requires.few p
