use Rattle.std.specs.Prelude.{is_ok, if◌then◌else◌}
use Rattle.std.proofs.Common.{ℕ, List, [], ◌∷◌, ◌++◌, ◌+◌, refl, ap, ◌∙◌, arith}
use Rattle.ddp_messages.specs.ClientMessage.{client_view}
use Rattle.session_core.specs.declared.inner.Inner.{Inner}
use Rattle.session_core.proofs.Keeping.{HasMoved}
use Rattle.session_core.proofs.Queues.{has_place}
use Rattle.session_core.proofs.Answering.{seen_queued, queued_kept}
use Rattle.session_core.proofs.taking.put.Goals as goal

pub returns-clause-queued : goal.returns-clause-queued
returns-clause-queued c =
    let old = c.args.inner.now in
    let new : Inner = record old { taken = old.taken + 1; queue = c.push.new.queue; places = c.push_back.new.self } in
    let m : HasMoved old new = record { app = refl; number = refl; journal = refl; outbox = refl; own = refl; fences = refl; shown = refl; dropped = refl } in
    let with_place : List ℕ → List ℕ = λ xs. xs ++ old.taken ∷ [] in
    let places = c.push_back.ensures.items ∙ (ap (λ r. if is_ok r then with_place c.make_place.new.places.items else c.make_place.new.places.items) c.unwrap.ensures ∙ ap with_place c.make_place.ensures.same) in
    (has_place old c.requires c.args.bytes c.in_ok-push.ensures.free, seen_queued old new (client_view c.args.message) c.args.bytes m (omega arith) c.in_ok-push.ensures.pushed places refl)

pub returns-clause-kept : goal.returns-clause-kept
returns-clause-kept c =
    let old = c.args.inner.now in
    let new : Inner = record old { taken = old.taken + 1; queue = c.push.new.queue; places = c.push_back.new.self } in
    let m : HasMoved old new = record { app = refl; number = refl; journal = refl; outbox = refl; own = refl; fences = refl; shown = refl; dropped = refl } in
    let with_place : List ℕ → List ℕ = λ xs. xs ++ old.taken ∷ [] in
    let places = c.push_back.ensures.items ∙ (ap (λ r. if is_ok r then with_place c.make_place.new.places.items else c.make_place.new.places.items) c.unwrap.ensures ∙ ap with_place c.make_place.ensures.same) in
    queued_kept old new (client_view c.args.message) c.args.bytes c.requires m (omega arith) c.in_ok-push.ensures.pushed places
