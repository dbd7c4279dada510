use Rattle.std.specs.Prelude.{◌≡◌, Bool, Result, Err}
use Rattle.std.proofs.Common.{ap, ◌∙◌}
use Rattle.server_connection.specs.declared.ended.Ended.{Ended}
use Rattle.server_connection.specs.declared.ended.Ended.TheVariants as ended
use Rattle.server_connection.proofs.serving.listen.Goals as goal

pub returns-in-Ok-clause-closed : goal.returns-in-Ok-clause-closed
returns-in-Ok-clause-closed g c is first m = c.hear.ensures.closed is first (c.offer_all.ensures.keeps first m)

pub returns-in-Err-clause-closed : goal.returns-in-Err-clause-closed
returns-in-Err-clause-closed g c is =
    let end : c.in-Err.end ≡ ended.PeerClosed = cc is in
    (c.offer_all.ensures.closed (c.in-Err.is ∙ ap (λ (e : Ended). let r : Result Bool Ended = Err e in r) end)).1
