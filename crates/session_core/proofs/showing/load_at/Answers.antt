use Rattle.std.proofs.Common.{◌≡◌, List, Some, None, refl, ap, sym, ◌∙◌}
use Rattle.std.specs.Prelude.{map}
use Rattle.session_core.specs.session_journal_laws.declared.stored.Stored.TheVariants.{Load}
use Rattle.session_core.specs.session_state.declared.own.Step.TheVariants.{Show}
use Rattle.session_core.specs.session_state.declared.subs.Sub.{Sub}
use Rattle.session_core.specs.session_state.Subs.{as_live, live_of}
use Rattle.merge_model.specs.Publishing.{apply}
use Rattle.ejson_value.specs.Changes.{news_of}
use Rattle.session_core.specs.declared.adding.Addition.{Addition}
use Rattle.session_core.specs.declared.inner.Inner.{Inner}
use Rattle.session_core.specs.Kept.{seen}
use Rattle.session_core.proofs.Keeping.{HasMoved, HasStayed}
use Rattle.session_core.proofs.Shown.{has_loaded, shown_kept, is_live, may}
use Rattle.session_core.proofs.showing.load_at.Goals as goal

pub returns-clause-loaded : goal.returns-clause-loaded
returns-clause-loaded c =
    let old = c.args.inner.now in
    let mid = c.add.new.inner in
    let new : Inner = record mid { parts = record mid.parts { own = c.watch.new.self } } in
    let a : Addition = record { item = Load c.args.sub c.args.at; id = None; step = Show c.args.sub c.args.at; words = c.in_ok-observer.words } in
    let d = c.in_ok-add.ensures.added in
    let m : HasMoved mid new = record { app = refl; number = refl; journal = refl; outbox = refl; own = c.watch.ensures.same; fences = refl; shown = refl; dropped = refl } in
    let s : HasStayed mid new = record { taken = refl; limit = refl; waiting = refl; places = refl } in
    let live : live_of c.args.sub (seen old).carried.own.subs ≡ Some (as_live c.in-Some.live.now) = sym (c.in-Some.ensures.live ∙ ap (λ (xs : List Sub). live_of c.args.sub (map as_live xs)) c.as_slice.ensures.value) in
    has_loaded c.args.sub c.args.at a old mid new refl c.args.contents.now c.in_ok-observer.news c.in_ok-observer.observer (as_live c.in-Some.live.now) d m s live refl refl c.in_ok-observer.ensures.words c.in_ok-observer.ensures.query
    c.in_ok-observer.ensures.cursors c.in_ok-observer.ensures.stands c.watch.ensures.observers

pub returns-clause-kept : goal.returns-clause-kept
returns-clause-kept c =
    let old = c.args.inner.now in
    let mid = c.add.new.inner in
    let new : Inner = record mid { parts = record mid.parts { own = c.watch.new.self } } in
    let a : Addition = record { item = Load c.args.sub c.args.at; id = None; step = Show c.args.sub c.args.at; words = c.in_ok-observer.words } in
    let d = c.in_ok-add.ensures.added in
    let m : HasMoved mid new = record { app = refl; number = refl; journal = refl; outbox = refl; own = c.watch.ensures.same; fences = refl; shown = refl; dropped = refl } in
    let s : HasStayed mid new = record { taken = refl; limit = refl; waiting = refl; places = refl } in
    shown_kept c.args.sub c.args.at a old mid new refl (apply c.args.sub (news_of c.in_ok-observer.news)) d m s c.requires.kept c.requires.can.room refl

pub returns-in_default-clause-loaded : goal.returns-in_default-clause-loaded
returns-in_default-clause-loaded c =
    let none = c.in_default.ensures.live ∙ ap (λ (xs : List Sub). live_of c.args.sub (map as_live xs)) c.as_slice.ensures.value in
    absurd (is_live c.args.sub c.args.at (seen c.args.inner.now).carried.own.subs (may c.args.sub c.args.at (seen c.args.inner.now) c.requires.can.enabled) (sym none))
