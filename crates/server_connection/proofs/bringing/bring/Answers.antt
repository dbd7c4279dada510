use Rattle.std.specs.Prelude.{◌≡◌, ◌+◌, ◌-◌, Option, Result, Ok}
use Rattle.std.proofs.Common.{ap, ◌∙◌, sym, subst, List}
use Rattle.ejson_value.specs.declared.memory.Mem.{Mem}
use Rattle.history_model.specs.declared.entry.Entry.{Entry}
use Rattle.world_news_laws.specs.multiplexer.declared.news.Lent.{Lent}
use Rattle.shared_multiplexer.specs.Lending.{IsLentTo}
use Rattle.server_connection.proofs.Copies.{answered}
use Rattle.server_connection.proofs.Counts.{prefix_same}
use Rattle.server_connection.proofs.Events.{meets_sees}
use Rattle.server_connection.proofs.Works.{works_learnt, works_then}
use Rattle.server_connection.proofs.bringing.bring.Goals as goal

pub lend-requires-clause-kept : goal.lend-requires-clause-kept
lend-requires-clause-kept g c = record { served = c.requires.served.of_app; stands = c.requires.served.stands }

pub bring_lent-requires-clause-lent : goal.bring_lent-requires-clause-lent
bring_lent-requires-clause-lent g c =
    let until = c.first-from.result + (c.next.result - c.first-from.result) in
    subst (λ (es : List Entry). IsLentTo g.N.StoreName.app es c.lend.new.session c.args.sub c.first-from.result until c.in-Ok-Some.lent) (sym c.lend.ensures.same)
    (answered (IsLentTo g.N.StoreName.app c.args.pass.now c.lend.new.session c.args.sub c.first-from.result until) c.lend.result c.in-Ok-Some.lent c.lend.ensures.lent
    (c.in-Ok-Some.is ∙ ap (λ (o : Option Lent). let r : Result (Option Lent) Mem = Ok o in r) c.in-Ok-Some.field-0-is))

pub bring_lent-requires-clause-served : goal.bring_lent-requires-clause-served
bring_lent-requires-clause-served g c =
    let p = c.args.pass.now in
    let h = c.args.session.now in
    (works_learnt g.N.StoreName.app c.args.caller.now p p c.lend.new.pass h c.lend.new.session c.requires.served (prefix_same p) c.lend.ensures.same
    (meets_sees p h c.lend.new.session c.lend.ensures.meets c.lend.ensures.session c.lend.ensures.keeps)).served

pub returns-in-Ok-Some-clause-works : goal.returns-in-Ok-Some-clause-works
returns-in-Ok-Some-clause-works g c =
    let app = g.N.StoreName.app in
    let x = c.args.caller.now in
    let p = c.args.pass.now in
    let h = c.args.session.now in
    works_then app x x x p c.lend.new.pass c.bring_lent.new.pass h c.lend.new.session c.bring_lent.new.session
    (works_learnt app x p p c.lend.new.pass h c.lend.new.session c.requires.served (prefix_same p) c.lend.ensures.same
    (meets_sees p h c.lend.new.session c.lend.ensures.meets c.lend.ensures.session c.lend.ensures.keeps)) c.bring_lent.ensures.works

pub returns-in-Ok-None-clause-works : goal.returns-in-Ok-None-clause-works
returns-in-Ok-None-clause-works g c =
    let p = c.args.pass.now in
    let h = c.args.session.now in
    works_learnt g.N.StoreName.app c.args.caller.now p p c.lend.new.pass h c.lend.new.session c.requires.served (prefix_same p) c.lend.ensures.same
    (meets_sees p h c.lend.new.session c.lend.ensures.meets c.lend.ensures.session c.lend.ensures.keeps)

pub returns-in-Err-clause-works : goal.returns-in-Err-clause-works
returns-in-Err-clause-works g c =
    let p = c.args.pass.now in
    let h = c.args.session.now in
    works_learnt g.N.StoreName.app c.args.caller.now p p c.lend.new.pass h c.lend.new.session c.requires.served (prefix_same p) c.lend.ensures.same
    (meets_sees p h c.lend.new.session c.lend.ensures.meets c.lend.ensures.session c.lend.ensures.keeps)
