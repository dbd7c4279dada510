use Rattle.std.specs.Prelude.{true, false, refl}
use Rattle.std.proofs.Common.{sym, subst}
use Rattle.duct.specs.declared.link.Polled.TheVariants.{Quiet, Closed, Failed, Memory}
use Rattle.shared_session.specs.Held.{StandsFor}
use Rattle.server_connection.specs.declared.desk.Desk.{Desk}
use Rattle.server_connection.specs.Serving.{Serving}
use Rattle.server_connection.specs.AtRest.{IsAtRest}
use Rattle.server_connection.proofs.Turns.{heard_none, heard_close, heard_text}
use Rattle.server_connection.proofs.Rounds.{due_now, counts_least}
use Rattle.server_connection.proofs.polling.poll_once.Goals as goal

pub returns-in-Message-clause-keeps : goal.returns-in-Message-clause-keeps
returns-in-Message-clause-keeps g c first m =
    let link = c.args.link.now in
    let d = c.args.desk.now in
    let h = c.args.session.now in
    let e = c.take_in.ensures in
    subst (λ (x : Desk). Serving StandsFor IsAtRest g.L.Link.steps g.L.Link.faults first c.poll.new.self c.take_in.new.session x) (sym e.same)
    (heard_text StandsFor IsAtRest g.L.Link.steps g.L.Link.faults first link c.poll.new.self h d m (due_now h d c.requires m.taken m.sent m.means) c.in-Message.text c.take_in.new.session c.take_in.new.desk.held
    c.in-Message.ensures.made (counts_least false _ _ c.in-Message.ensures.faults) e.takes)

pub returns-in-Quiet-clause-keeps : goal.returns-in-Quiet-clause-keeps
returns-in-Quiet-clause-keeps g c first m =
    let d = c.args.desk.now in
    let h = c.args.session.now in
    heard_none StandsFor IsAtRest g.L.Link.steps g.L.Link.faults first c.args.link.now c.poll.new.self h d m (due_now h d c.requires m.taken m.sent m.means) Quiet refl c.in-Quiet.ensures.made (counts_least false _ _ c.in-Quiet.ensures.faults)

pub returns-in-Closed-clause-keeps : goal.returns-in-Closed-clause-keeps
returns-in-Closed-clause-keeps g c first m =
    let d = c.args.desk.now in
    let h = c.args.session.now in
    heard_none StandsFor IsAtRest g.L.Link.steps g.L.Link.faults first c.args.link.now c.poll.new.self h d m (due_now h d c.requires m.taken m.sent m.means) Closed refl c.in-Closed.ensures.made (counts_least false _ _ c.in-Closed.ensures.faults)

pub returns-in-Closed-clause-closed : goal.returns-in-Closed-clause-closed
returns-in-Closed-clause-closed g c is first m =
    let d = c.args.desk.now in
    let h = c.args.session.now in
    heard_close StandsFor IsAtRest g.L.Link.steps g.L.Link.faults first c.args.link.now c.poll.new.self h d m (due_now h d c.requires m.taken m.sent m.means) c.in-Closed.ensures.made (counts_least false _ _ c.in-Closed.ensures.faults)

pub returns-in-Failed-clause-keeps : goal.returns-in-Failed-clause-keeps
returns-in-Failed-clause-keeps g c first m =
    let d = c.args.desk.now in
    let h = c.args.session.now in
    heard_none StandsFor IsAtRest g.L.Link.steps g.L.Link.faults first c.args.link.now c.poll.new.self h d m (due_now h d c.requires m.taken m.sent m.means) Failed refl c.in-Failed.ensures.made (counts_least true _ _ c.in-Failed.ensures.faults)

pub returns-in-Memory-clause-keeps : goal.returns-in-Memory-clause-keeps
returns-in-Memory-clause-keeps g c first m =
    let d = c.args.desk.now in
    let h = c.args.session.now in
    heard_none StandsFor IsAtRest g.L.Link.steps g.L.Link.faults first c.args.link.now c.poll.new.self h d m (due_now h d c.requires m.taken m.sent m.means) Memory refl c.in-Memory.ensures.made (counts_least false _ _ c.in-Memory.ensures.faults)
