use Rattle.std.specs.Prelude.{◌≡◌, ◌+◌, ◌-◌, Option, Result, Ok}
use Rattle.std.proofs.Common.{ap, ◌∙◌, sym, subst, refl, arith}
use Rattle.ejson_value.specs.declared.memory.Mem.{Mem}
use Rattle.world_news_laws.specs.multiplexer.declared.news.Lent.{Lent}
use Rattle.shared_multiplexer.specs.Lending.{IsLentTo}
use Rattle.server_connection.proofs.Copies.{answered}
use Rattle.server_connection.proofs.Events.{meets_sees}
use Rattle.server_connection.proofs.Works.{works_learnt, works_then}
use Rattle.server_connection.proofs.bringing.bring_known.Goals as goal

pub lend_known-requires : goal.lend_known-requires
lend_known-requires g c = record { served = c.requires.served.of_app; stands = c.requires.served.stands }

pub bring_lent-requires-clause-lent : goal.bring_lent-requires-clause-lent
bring_lent-requires-clause-lent g c =
    let app = g.N.StoreName.app in
    let pass = c.lend_known.new.pass in
    let new = c.lend_known.new.session in
    let all : c.args.from + (c.args.until - c.args.from) ≡ c.args.until = omega (arith, c.requires.order) in
    subst (λ n. IsLentTo app pass new c.args.sub c.args.from n c.in-Ok-Some.lent) (sym all)
    (answered (IsLentTo app pass new c.args.sub c.args.from c.args.until) c.lend_known.result c.in-Ok-Some.lent c.lend_known.ensures.lent
    (c.in-Ok-Some.is ∙ ap (λ (o : Option Lent). let r : Result (Option Lent) Mem = Ok o in r) c.in-Ok-Some.field-0-is))

pub bring_lent-requires-clause-served : goal.bring_lent-requires-clause-served
bring_lent-requires-clause-served g c =
    let p = c.lend_known.new.pass in
    let h = c.args.session.now in
    (works_learnt g.N.StoreName.app c.args.caller.now c.args.pass.now p p h c.lend_known.new.session c.requires.served c.lend_known.ensures.grows refl
    (meets_sees p h c.lend_known.new.session c.lend_known.ensures.meets c.lend_known.ensures.session c.lend_known.ensures.keeps)).served

pub returns-in-Ok-clause-works : goal.returns-in-Ok-clause-works
returns-in-Ok-clause-works g c =
    let app = g.N.StoreName.app in
    let x = c.args.caller.now in
    let p = c.lend_known.new.pass in
    let h = c.args.session.now in
    works_then app x x x c.args.pass.now p c.bring_lent.new.pass h c.lend_known.new.session c.bring_lent.new.session
    (works_learnt app x c.args.pass.now p p h c.lend_known.new.session c.requires.served c.lend_known.ensures.grows refl
    (meets_sees p h c.lend_known.new.session c.lend_known.ensures.meets c.lend_known.ensures.session c.lend_known.ensures.keeps)) c.bring_lent.ensures.works

pub returns-in-Err-bring_lent-clause-works : goal.returns-in-Err-bring_lent-clause-works
returns-in-Err-bring_lent-clause-works g c =
    let app = g.N.StoreName.app in
    let x = c.args.caller.now in
    let p = c.lend_known.new.pass in
    let h = c.args.session.now in
    works_then app x x x c.args.pass.now p c.bring_lent.new.pass h c.lend_known.new.session c.bring_lent.new.session
    (works_learnt app x c.args.pass.now p p h c.lend_known.new.session c.requires.served c.lend_known.ensures.grows refl
    (meets_sees p h c.lend_known.new.session c.lend_known.ensures.meets c.lend_known.ensures.session c.lend_known.ensures.keeps)) c.bring_lent.ensures.works

pub returns-in-Ok-None-clause-works : goal.returns-in-Ok-None-clause-works
returns-in-Ok-None-clause-works g c =
    let p = c.lend_known.new.pass in
    let h = c.args.session.now in
    works_learnt g.N.StoreName.app c.args.caller.now c.args.pass.now p p h c.lend_known.new.session c.requires.served c.lend_known.ensures.grows refl
    (meets_sees p h c.lend_known.new.session c.lend_known.ensures.meets c.lend_known.ensures.session c.lend_known.ensures.keeps)

pub returns-in-Err-clause-works : goal.returns-in-Err-clause-works
returns-in-Err-clause-works g c =
    let p = c.lend_known.new.pass in
    let h = c.args.session.now in
    works_learnt g.N.StoreName.app c.args.caller.now c.args.pass.now p p h c.lend_known.new.session c.requires.served c.lend_known.ensures.grows refl
    (meets_sees p h c.lend_known.new.session c.lend_known.ensures.meets c.lend_known.ensures.session c.lend_known.ensures.keeps)
