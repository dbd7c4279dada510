use Rattle.std.proofs.Common.{◌+◌, ◌≤◌, length, None, replicate, refl, sym, subst, arith}
use Rattle.std.specs.Arc.{arc_value}
use Rattle.publication.specs.Published.{published}
use Rattle.live_observer.specs.Observing.{cursors_of, IsDifference}
use Rattle.store_machine.specs.State.{held_after}
use Rattle.multiplexer.specs.Known.{AreKnown}
use Rattle.multiplexer.specs.Looks.{looks}
use Rattle.multiplexer.specs.Telling.{AnEntry, news_in}
use Rattle.multiplexer.specs.Inside.{seen_entry}
use Rattle.multiplexer.proofs.Counts.{told_one}
use Rattle.multiplexer.proofs.Texts.{nothing_known}
use Rattle.multiplexer.proofs.Growing.{told_kept, entries_lead, documents_by_key}
use Rattle.multiplexer.proofs.source.Source.tell.Goals as goal

pub returns-clause-told : goal.returns-clause-told
returns-clause-told g c = λ m are none told.
    let cs = cursors_of c.args.observer.now in
    let place = c.next.result in
    let before = published cs (held_after m place).rows in
    let one = seen_entry c.in_ok-told.told in
    let news = arc_value c.in_ok-told.told.news in
    let differs : IsDifference before (published cs (held_after m (place + 1)).rows) (news_in one) =
    c.in_ok-told.ensures.differs none (held_after m place).rows (held_after m (place + 1)).rows (documents_by_key cs m place) (entries_lead cs m place 1 c.changes_at-changes.result.now (c.changes_at-changes.ensures m are)) in
    let known = subst (λ (e : AnEntry). AreKnown before (news_in e) e.texts) (sym c.in_ok-told.ensures.entry) (nothing_known before news (length news) (replicate (length news) None) refl refl) in
    told_kept cs m c.keep.result c.args.self.now c.keep.new.self one c.keep.ensures.ok c.keep.ensures.err (omega (arith, c.requires.next, c.begins.ensures.within m are))
    (subst (λ n. IsDifference (published cs (held_after m n).rows) (published cs (held_after m (n + 1)).rows) (news_in one)) c.next.ensures differs)
    (subst (λ n. AreKnown (published cs (held_after m n).rows) (news_in one) one.texts) c.next.ensures known) told

pub returns-in_err-told-clause-ticks : goal.returns-in_err-told-clause-ticks
returns-in_err-told-clause-ticks g c = λ m are.
    subst (λ p. c.observed.new.steps ≤ c.args.steps.now + looks (length c.args.observer.now) m p (p + 1)) c.next.ensures
    (told_one (length c.args.observer.now) m c.next.result c.args.steps.now c.observed.new.steps c.changes_at-changes.result.now (c.changes_at-changes.ensures m are) c.observed.ensures.ticks)

pub returns-clause-ticks : goal.returns-clause-ticks
returns-clause-ticks g c = λ m are.
    subst (λ p. c.observed.new.steps ≤ c.args.steps.now + looks (length c.args.observer.now) m p (p + 1)) c.next.ensures
    (told_one (length c.args.observer.now) m c.next.result c.args.steps.now c.observed.new.steps c.changes_at-changes.result.now (c.changes_at-changes.ensures m are) c.observed.ensures.ticks)
