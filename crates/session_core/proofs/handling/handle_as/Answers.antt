use Rattle.std.proofs.Common.{◌≡◌, ℕ, true, Option, Some, refl, ap, sym, subst, ◌∙◌}
use Rattle.merge_model.specs.Publishing.{Call}
use Rattle.value_model.specs.Val.{Entries}
use Rattle.ejson_value.specs.declared.key.Key.{Key}
use Rattle.method_queue.specs.Queue.{Queue}
use Rattle.session_core.specs.session_laws.Session.{ASession}
use Rattle.session_core.specs.session_laws.Events.{HasHandled}
use Rattle.session_core.specs.declared.inner.Inner.{Inner}
use Rattle.session_core.specs.Kept.{seen}
use Rattle.session_core.specs.Adding.{IsAddedTo, AreAlike}
use Rattle.session_core.specs.Handling.{IsNext, passed}
use Rattle.session_core.proofs.Keeping.{HasMoved, moved_alike}
use Rattle.session_core.proofs.Nexts.{is_free, none_blocks}
use Rattle.session_core.proofs.Handled.{handled, handled_kept, next_follows}
use Rattle.session_core.proofs.handling.handle_as.Goals as goal

same_but_room : (old : Inner) (q : Queue) → q.limit ≡ old.queue.limit → q.waiting ≡ old.queue.waiting → q.blocks ≡ old.queue.blocks → AreAlike old (record old { queue = q })
same_but_room old q limit waiting blocks =
    moved_alike old (record old { queue = q }) (record { app = refl; number = refl; journal = refl; outbox = refl; own = refl; fences = refl; shown = refl; dropped = refl }) (record { taken = refl; limit = limit; waiting = waiting; places = refl }) blocks refl

reserved_alike : (old : Inner) (q : Queue) → q ≡ record old.queue { has_room = true } → AreAlike old (record old { queue = q })
reserved_alike old q e = same_but_room old q (ap (λ (x : Queue). x.limit) e) (ap (λ (x : Queue). x.waiting) e) (ap (λ (x : Queue). x.blocks) e)

same_alike : (old : Inner) (q : Queue) → q ≡ old.queue → AreAlike old (record old { queue = q })
same_alike old q e = same_but_room old q (ap (λ (x : Queue). x.limit) e) (ap (λ (x : Queue). x.waiting) e) (ap (λ (x : Queue). x.blocks) e)

pub add-requires-clause-kept : goal.add-requires-clause-kept
add-requires-clause-kept c = (reserved_alike c.args.inner.now c.reserve.new.self c.in_ok-reserve.ensures.ok).kept c.requires.kept

pub add-requires-clause-room : goal.add-requires-clause-room
add-requires-clause-room c = c.requires.can.room

pub add-requires-clause-follows : goal.add-requires-clause-follows
add-requires-clause-follows c = next_follows (seen c.args.inner.now) c.args.addition c.requires.next

pub pass-requires-clause-free : goal.pass-requires-clause-free
pass-requires-clause-free c = ap (λ (q : Queue). q.blocks) (c.in_ok-add.ensures.added.stays.queue ∙ c.in_ok-reserve.ensures.ok) ∙ is_free c.args.inner.now c.requires.kept c.requires.can.enabled

pub pass-requires-clause-room : goal.pass-requires-clause-room
pass-requires-clause-room c = ap (λ (q : Queue). q.has_room) (c.in_ok-add.ensures.added.stays.queue ∙ c.in_ok-reserve.ensures.ok)

pub returns-clause-handled : goal.returns-clause-handled
returns-clause-handled c =
    let old = c.args.inner.now in
    let a = c.args.addition in
    let x : Inner = record old { queue = c.reserve.new.self } in
    let mid = c.add.new.inner in
    let new : Inner = record mid { queue = c.pass.new.queue; places = c.pass.new.places } in
    let d = subst (λ (call : Call Key Entries). IsAddedTo a call x mid) c.news_of-news.ensures c.in_ok-add.ensures.added in
    let m : HasMoved mid new = record { app = refl; number = refl; journal = refl; outbox = refl; own = refl; fences = refl; shown = refl; dropped = refl } in
    let alike = reserved_alike old c.reserve.new.self c.in_ok-reserve.ensures.ok in
    let next = subst (λ (s : ASession). IsNext s.places s.carried.waiting s (Some a)) (sym alike.same) c.requires.next in
    subst (λ (s : ASession). HasHandled s.places s.carried.waiting s (seen new)) alike.same
    (handled a x mid new d m refl (c.pass.ensures.queue ∙ ap (λ (o : Option ℕ). passed o mid.queue) c.started-started.ensures) c.pass.ensures.places refl next)

pub returns-clause-kept : goal.returns-clause-kept
returns-clause-kept c =
    let old = c.args.inner.now in
    let a = c.args.addition in
    let x : Inner = record old { queue = c.reserve.new.self } in
    let mid = c.add.new.inner in
    let new : Inner = record mid { queue = c.pass.new.queue; places = c.pass.new.places } in
    let d = subst (λ (call : Call Key Entries). IsAddedTo a call x mid) c.news_of-news.ensures c.in_ok-add.ensures.added in
    let m : HasMoved mid new = record { app = refl; number = refl; journal = refl; outbox = refl; own = refl; fences = refl; shown = refl; dropped = refl } in
    let alike = reserved_alike old c.reserve.new.self c.in_ok-reserve.ensures.ok in
    handled_kept a x mid new d m refl (c.pass.ensures.queue ∙ ap (λ (o : Option ℕ). passed o mid.queue) c.started-started.ensures) c.pass.ensures.places refl (alike.kept c.requires.kept) c.requires.can.room
    (none_blocks old c.requires.can.enabled) (ap (λ (q : Queue). q.blocks) c.in_ok-reserve.ensures.ok ∙ is_free old c.requires.kept c.requires.can.enabled)
