use Rattle.std.specs.Prelude.{ℕ, Option}
use Rattle.std.proofs.Common.{ap, ◌∙◌}
use Rattle.timed_connection.specs.Timing.{comes_to}
use Rattle.timed_connection.proofs.Watched.{serves_timed}
use Rattle.timed_connection.proofs.timing.serve_connection_timed.Goals as goal

pub returns-clause-serves : goal.returns-clause-serves
returns-clause-serves g c =
    let e = c.serve_connection-end.ensures in
    let end = c.serve_connection-end.result in
    serves_timed g.L.Link.steps g.C.Clock.told g.L.Link.faults g.N.StoreName.app
    c.args.link.now c.serve_connection-end.new.link c.serve_connection-end.new.caller c.serve_connection-end.new.pass
    c.serve_connection-end.new.session c.leave.new.session end c.comes_to-timed.result c.requires.fresh e.serves e.cause e.runs
    (c.comes_to-timed.ensures ∙ ap (λ (o : Option (ℕ × ℕ)). comes_to end o) c.given_up.ensures) c.leave.ensures
