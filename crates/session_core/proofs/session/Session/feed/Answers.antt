use Rattle.std.specs.Prelude.{Bool, Ok, is_some}
use Rattle.std.proofs.Common.{ap, sym, subst, ◌∙◌}
use Rattle.session_core.specs.session_laws.Session.{ASession, HadRoom}
use Rattle.session_core.specs.Known.{AreRight}
use Rattle.session_core.specs.Kept.{seen}
use Rattle.session_core.proofs.Outcomes.{tested_is, feeds}
use Rattle.ejson_value.specs.Changes.{news_of}
use Rattle.session_core.proofs.Known.{nothing_learnt}
use Rattle.session_core.proofs.session.Session.feed.Goals as goal

pub returns-in_ok-go_on_known-in-Some-clause-feeds : goal.returns-in_ok-go_on_known-in-Some-clause-feeds
returns-in_ok-go_on_known-in-Some-clause-feeds c =
    let s = seen c.self.inside.inner in
    let room = subst (λ (b : Bool). HadRoom b s) (c.is_some.ensures ∙ ap is_some c.place_after-place.ensures) (tested_is c.is_some.result s (Ok tt) c.in_ok-test.ensures) in
    rw (← c.self.view_is)
    (feeds c.args.sub c.args.count c.args.news.now s (seen c.go_on_known.new.inner) room c.know_observer.ensures c.in_ok-go_on_known-in-Some.ensures.gone)

-- nothing is learnt where the event is refused
pub returns-in_err-test-clause-learnt : goal.returns-in_err-test-clause-learnt
returns-in_err-test-clause-learnt c =
    rw (← c.self.view_is)
    (nothing_learnt c.args.sub (seen c.self.inside.inner).carried.box (news_of c.args.news.now) c.args.known.now (subst (λ (s : ASession). AreRight c.args.sub s.carried.box (news_of c.args.news.now) c.args.known.now) (sym c.self.view_is) c.requires.right))

pub returns-in-None-clause-learnt : goal.returns-in-None-clause-learnt
returns-in-None-clause-learnt c =
    rw (← c.self.view_is)
    (nothing_learnt c.args.sub (seen c.self.inside.inner).carried.box (news_of c.args.news.now) c.args.known.now (subst (λ (s : ASession). AreRight c.args.sub s.carried.box (news_of c.args.news.now) c.args.known.now) (sym c.self.view_is) c.requires.right))

pub go_on_known-requires-clause-right : goal.go_on_known-requires-clause-right
go_on_known-requires-clause-right c = subst (λ (s : ASession). AreRight c.args.sub s.carried.box (news_of c.args.news.now) c.args.known.now) (sym c.self.view_is) c.requires.right
