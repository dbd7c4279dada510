use Rattle.std.proofs.Common.{◌≡◌, ◌+◌, ◌-◌, length, ap, ◌∙◌, arith}
use Rattle.history_log.specs.declared.batch.Batch.{Batch}
use Rattle.live_observer.specs.Observing.{cursors_of}
use Rattle.store_machine.specs.State.{held_after}
use Rattle.multiplexer.proofs.Counts.{told_looks}
use Rattle.multiplexer.proofs.Growing.{entries_lead, documents_by_key}
use Rattle.multiplexer.proofs.Texts.{tells_by}
use Rattle.multiplexer.proofs.source.at_once.Goals as goal

pub returns-clause-told : goal.returns-clause-told
returns-clause-told g c = λ m are none.
    let cs = cursors_of c.args.observer.now in
    let from = c.args.from in
    let count = c.args.until - from in
    let is = c.as_slice.ensures ∙ ap (λ (b : Batch). b.changes) (c.in_ok-batch.ensures m are) in
    let ends : from + count ≡ c.args.until = omega (arith, c.requires.order) in
    let differs = c.observed.ensures.differs none (held_after m from).rows (held_after m (from + count)).rows (documents_by_key cs m from) (entries_lead cs m from count c.as_slice.result.now is) in
    tells_by cs m from count c.args.until c.observed.result ends differs c.observed.ensures.entry

pub returns-clause-ticks : goal.returns-clause-ticks
returns-clause-ticks g c = λ m are.
    told_looks (length c.args.observer.now) m c.args.from (c.args.until - c.args.from) c.args.steps.now c.observed.new.steps c.as_slice.result.now (c.as_slice.ensures ∙ ap (λ (b : Batch). b.changes) (c.in_ok-batch.ensures m are)) c.observed.ensures.ticks
