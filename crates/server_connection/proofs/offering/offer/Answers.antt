use Rattle.std.specs.Prelude.{ℕ, List, Some, true, refl}
use Rattle.std.proofs.Common.{sym, subst, arith}
use Rattle.duct.specs.Calls.{handed_back}
use Rattle.duct.specs.Sends.{send_failed}
use Rattle.duct.specs.declared.link.SendFault.{SendFault}
use Rattle.shared_session.specs.Held.{StandsFor}
use Rattle.server_connection.specs.Serving.{Serving, IsClosed}
use Rattle.server_connection.specs.AtRest.{IsAtRest}
use Rattle.server_connection.proofs.Turns.{said_more, handed_more, handed_close}
use Rattle.server_connection.proofs.Rounds.{counts_least}
use Rattle.server_connection.proofs.offering.offer.Goals as goal

pub returns-in-Ok-clause-keeps : goal.returns-in-Ok-clause-keeps
returns-in-Ok-clause-keeps g c first m =
    let same = c.in-Ok.ensures.sound in
    said_more StandsFor IsAtRest g.L.Link.steps g.L.Link.faults first c.args.link.now c.send.new.self c.args.session.now c.next.new.session c.args.desk.now c.next.new.desk c.in-Some.text m c.in-Some.ensures.some c.in-Ok.ensures.made (omega (arith, same))

pub returns-in-Closed-clause-keeps : goal.returns-in-Closed-clause-keeps
returns-in-Closed-clause-keeps g c first m =
    subst (λ (t : List ℕ). Serving StandsFor IsAtRest g.L.Link.steps g.L.Link.faults first c.send.new.self c.next.new.session (record c.next.new.desk { back = Some t; refused = true })) (sym c.in-Err.ensures.back)
    (handed_more StandsFor IsAtRest g.L.Link.steps g.L.Link.faults first c.args.link.now c.send.new.self c.args.session.now c.next.new.session c.args.desk.now c.next.new.desk c.in-Some.text m c.in-Some.ensures.some c.in-Err.fault c.in-Err.ensures.made
    (counts_least (send_failed c.in-Err.fault) _ _ c.in-Err.ensures.faults))

pub returns-in-Closed-clause-gone : goal.returns-in-Closed-clause-gone
returns-in-Closed-clause-gone g c is = (
  refl,
  λ first m.
      subst (λ (t : List ℕ). IsClosed StandsFor IsAtRest g.L.Link.steps g.L.Link.faults first c.send.new.self c.next.new.session (record c.next.new.desk { back = Some t; refused = true })) (sym c.in-Err.ensures.back)
      (handed_close StandsFor IsAtRest g.L.Link.steps g.L.Link.faults first c.args.link.now c.send.new.self c.args.session.now c.next.new.session c.args.desk.now c.next.new.desk c.in-Some.text m c.in-Some.ensures.some
      (subst (λ (f : SendFault). g.L.Link.steps c.args.link.now (handed_back c.in-Some.text f) c.send.new.self) c.in-Closed.is c.in-Err.ensures.made)
      (counts_least (send_failed c.in-Err.fault) _ _ c.in-Err.ensures.faults)),
)

pub returns-in-Failed-clause-keeps : goal.returns-in-Failed-clause-keeps
returns-in-Failed-clause-keeps g c first m =
    subst (λ (t : List ℕ). Serving StandsFor IsAtRest g.L.Link.steps g.L.Link.faults first c.send.new.self c.next.new.session (record c.next.new.desk { back = Some t; refused = true })) (sym c.in-Err.ensures.back)
    (handed_more StandsFor IsAtRest g.L.Link.steps g.L.Link.faults first c.args.link.now c.send.new.self c.args.session.now c.next.new.session c.args.desk.now c.next.new.desk c.in-Some.text m c.in-Some.ensures.some c.in-Err.fault c.in-Err.ensures.made
    (counts_least (send_failed c.in-Err.fault) _ _ c.in-Err.ensures.faults))

pub returns-in-Memory-clause-keeps : goal.returns-in-Memory-clause-keeps
returns-in-Memory-clause-keeps g c first m =
    subst (λ (t : List ℕ). Serving StandsFor IsAtRest g.L.Link.steps g.L.Link.faults first c.send.new.self c.next.new.session (record c.next.new.desk { back = Some t; refused = true })) (sym c.in-Err.ensures.back)
    (handed_more StandsFor IsAtRest g.L.Link.steps g.L.Link.faults first c.args.link.now c.send.new.self c.args.session.now c.next.new.session c.args.desk.now c.next.new.desk c.in-Some.text m c.in-Some.ensures.some c.in-Err.fault c.in-Err.ensures.made
    (counts_least (send_failed c.in-Err.fault) _ _ c.in-Err.ensures.faults))

pub returns-in-Full-clause-keeps : goal.returns-in-Full-clause-keeps
returns-in-Full-clause-keeps g c first m =
    subst (λ (t : List ℕ). Serving StandsFor IsAtRest g.L.Link.steps g.L.Link.faults first c.send.new.self c.next.new.session (record c.next.new.desk { back = Some t; refused = true })) (sym c.in-Err.ensures.back)
    (handed_more StandsFor IsAtRest g.L.Link.steps g.L.Link.faults first c.args.link.now c.send.new.self c.args.session.now c.next.new.session c.args.desk.now c.next.new.desk c.in-Some.text m c.in-Some.ensures.some c.in-Err.fault c.in-Err.ensures.made
    (counts_least (send_failed c.in-Err.fault) _ _ c.in-Err.ensures.faults))

pub returns-in-Full-2-clause-keeps : goal.returns-in-Full-2-clause-keeps
returns-in-Full-2-clause-keeps g c first m =
    subst (λ (t : List ℕ). Serving StandsFor IsAtRest g.L.Link.steps g.L.Link.faults first c.send.new.self c.next.new.session (record c.next.new.desk { back = Some t; refused = true })) (sym c.in-Err.ensures.back)
    (handed_more StandsFor IsAtRest g.L.Link.steps g.L.Link.faults first c.args.link.now c.send.new.self c.args.session.now c.next.new.session c.args.desk.now c.next.new.desk c.in-Some.text m c.in-Some.ensures.some c.in-Err.fault c.in-Err.ensures.made
    (counts_least (send_failed c.in-Err.fault) _ _ c.in-Err.ensures.faults))
