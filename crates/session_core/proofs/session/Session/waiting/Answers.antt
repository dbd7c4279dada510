-- waiting
use Rattle.std.proofs.Common.{◌≡◌, rules, length, ap, sym, ◌∙◌}
use Rattle.std.proofs.lemmas.List.{length-map}
use Rattle.method_queue.specs.Queue.{Waiting}
use Rattle.session_core.specs.session_laws.Session.{ASession}
use Rattle.session_core.proofs.session.Session.waiting.Goals as goal

pub returns : goal.returns
returns c =
    let held : c.len.result ≡ length c.self.inside.inner.places.items = search rules in
    held ∙ (c.self.invariant.places ∙ (sym (length-map c.self.inside.inner.queue.waiting (λ (w : Waiting). w.message)) ∙ ap (λ (s : ASession). length s.carried.waiting) c.self.view_is))
