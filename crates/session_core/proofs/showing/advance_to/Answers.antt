use Rattle.std.proofs.Common.{refl}
use Rattle.session_core.specs.declared.inner.Inner.{Inner}
use Rattle.session_core.specs.Kept.{seen}
use Rattle.session_core.proofs.Keeping.{HasMoved, HasStayed, kept_moved}
use Rattle.session_core.proofs.Shown.{has_advanced, plan_is}
use Rattle.session_core.proofs.showing.advance_to.Goals as goal

pub commit-requires : goal.commit-requires
commit-requires g c =
    let mid = c.go_on.new.inner in
    plan_is c.args.sub c.args.batch.now.count c.args.batch.now.changes c.in_ok-news.news (seen c.args.inner.now) mid mid c.in_ok-go_on.ensures.gone c.in_ok-news.plan c.in_ok-news.ensures.observed

pub returns-clause-advanced : goal.returns-clause-advanced
returns-clause-advanced g c =
    let mid = c.go_on.new.inner in
    let new : Inner = record mid { parts = record mid.parts { own = c.commit.new.own } } in
    let m : HasMoved mid new = record { app = refl; number = refl; journal = refl; outbox = refl; own = c.commit.ensures.same; fences = refl; shown = refl; dropped = refl } in
    let s : HasStayed mid new = record { taken = refl; limit = refl; waiting = refl; places = refl } in
    has_advanced c.args.sub c.args.batch.now.count c.args.batch.now.changes c.in_ok-news.news (seen c.args.inner.now) mid new c.in_ok-go_on.ensures.gone c.in_ok-news.plan m s c.in_ok-news.ensures.observed c.commit.ensures.observers

pub returns-clause-kept : goal.returns-clause-kept
returns-clause-kept g c =
    let mid = c.go_on.new.inner in
    let new : Inner = record mid { parts = record mid.parts { own = c.commit.new.own } } in
    let m : HasMoved mid new = record { app = refl; number = refl; journal = refl; outbox = refl; own = c.commit.ensures.same; fences = refl; shown = refl; dropped = refl } in
    kept_moved mid new c.go_on.ensures.kept m refl c.go_on.ensures.kept.taken c.go_on.ensures.kept.places refl
