use Rattle.std.proofs.Common.{None, refl}
use Rattle.std.proofs.lemmas.Result.{on_ok_weaker}
use Rattle.session_core.specs.session_journal_laws.declared.stored.Stored.TheVariants.{Advance}
use Rattle.session_core.specs.session_state.declared.own.Step.TheVariants.{Show}
use Rattle.session_core.specs.declared.adding.Addition.{Addition}
use Rattle.session_core.proofs.Keeping.{HasMoved, HasStayed}
use Rattle.session_core.proofs.Shown.{has_gone}
use Rattle.session_core.proofs.showing.go_on_known.Goals as goal

pub returns-clause-gone : goal.returns-clause-gone
returns-clause-gone c =
    let old = c.args.inner.now in
    let mid = c.add_known.new.inner in
    let a : Addition = record { item = Advance c.args.sub c.args.count; id = None; step = Show c.args.sub c.args.at; words = c.new.result } in
    let m : HasMoved mid mid = record { app = refl; number = refl; journal = refl; outbox = refl; own = refl; fences = refl; shown = refl; dropped = refl } in
    let s : HasStayed mid mid = record { taken = refl; limit = refl; waiting = refl; places = refl } in
    on_ok_weaker c.add_known.result (λ d. has_gone c.args.sub c.args.at a old mid mid refl c.args.count c.args.news.now d m s c.requires.place refl refl c.new.ensures.items refl) c.add_known.ensures.added

pub add_known-requires-clause-right : goal.add_known-requires-clause-right
add_known-requires-clause-right c = c.requires.right

pub returns-clause-learnt : goal.returns-clause-learnt
returns-clause-learnt c = c.add_known.ensures.learnt
