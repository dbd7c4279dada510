use Rattle.std.proofs.Common.{ap, sym, ◌∙◌}
use Rattle.std.specs.Prelude.{ℕ, ◌-◌, List, length, slice_get}
use Rattle.session_state.proofs.InPlace.{item_there}
use Rattle.connection.proofs.PrintingLemmas.{get_first, get_second}
use Rattle.connection.proofs.texts.text_at.Goals as goal

pub returns-then-place-sent : goal.returns-then-place-sent
returns-then-place-sent c =
    let sent = c.args.sent.now in
    item_there sent c.args.place c.get.result c.get.ensures.lookup ∙ sym (get_first c.args.place sent c.args.session.now.carried.outbox c.if-place-sent.true)

pub returns-else-place-sent : goal.returns-else-place-sent
returns-else-place-sent c =
    let sent = c.args.sent.now in
    c.waiting_at.ensures
    ∙ (ap (λ (ts : List (List ℕ)). slice_get ts (c.args.place - length sent)) c.outbox.ensures ∙ sym (get_second c.args.place sent c.args.session.now.carried.outbox c.if-place-sent.false))
