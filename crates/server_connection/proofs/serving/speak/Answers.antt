use Rattle.std.specs.Prelude.{◌≡◌, Bool, Result, Err, refl}
use Rattle.std.proofs.Common.{ap, sym, subst, ◌∙◌}
use Rattle.shared_session.specs.Held.{StandsFor}
use Rattle.server_connection.specs.declared.desk.Desk.{Desk}
use Rattle.server_connection.specs.declared.ended.Ended.{Ended}
use Rattle.server_connection.specs.declared.ended.Ended.TheVariants as ended
use Rattle.server_connection.specs.Serving.{Serving}
use Rattle.server_connection.specs.AtRest.{IsAtRest}
use Rattle.server_connection.proofs.Turns.{taken_again}
use Rattle.server_connection.proofs.serving.speak.Goals as goal

pub returns-in-Ok-clause-keeps : goal.returns-in-Ok-clause-keeps
returns-in-Ok-clause-keeps g c first m =
    let d = c.offer_all.new.desk in
    subst (λ (x : Desk). Serving StandsFor IsAtRest g.L.Link.steps g.L.Link.faults first c.offer_all.new.link c.take_held.new.session x) (sym c.take_held.ensures.same)
    (taken_again StandsFor IsAtRest g.L.Link.steps g.L.Link.faults c.offer_all.new.link c.offer_all.new.session c.take_held.new.session d d.held c.take_held.new.desk.held refl c.take_held.ensures.takes first (c.offer_all.ensures.keeps first m))

pub returns-in-Err-clause-closed : goal.returns-in-Err-clause-closed
returns-in-Err-clause-closed g c is =
    let end : c.in-Err.end ≡ ended.PeerClosed = cc is in
    (c.offer_all.ensures.closed (c.in-Err.is ∙ ap (λ (e : Ended). let r : Result Bool Ended = Err e in r) end)).1
