use Rattle.std.proofs.Common.{sym, refl, ◌∙◌}
use Rattle.client_script.specs.Ends.{is_link_fault, is_write_fault}
use Rattle.console_run.proofs.Watched.{same_faults, given_up_closes, consoles_given_up, consoles_on}
use Rattle.console_run.proofs.timing.console_timed.Goals as goal

pub returns-in-Some-clause-ran : goal.returns-in-Some-clause-ran
returns-in-Some-clause-ran g c =
    consoles_given_up g.L.Link.steps g.C.Clock.told c.args.app.now c.args.script.now
    c.args.link.now (g.O.Sink.written c.args.output.now) c.console-end.new.link (g.O.Sink.written c.console-end.new.output)
    c.console-end.result c.in-Some.pinged c.in-Some.now c.requires c.console-end.ensures.ran (sym c.given_up.ensures ∙ c.in-Some.is)

pub returns-in-Some-clause-link : goal.returns-in-Some-clause-link
returns-in-Some-clause-link g c =
    let closed = given_up_closes g.L.Link.steps g.C.Clock.told c.args.app.now c.args.script.now
    c.args.link.now (g.O.Sink.written c.args.output.now) c.console-end.new.link (g.O.Sink.written c.console-end.new.output)
    c.console-end.result (c.in-Some.pinged, c.in-Some.now) c.requires c.console-end.ensures.ran (sym c.given_up.ensures ∙ c.in-Some.is) in
    same_faults is_link_fault c.console-end.result _ _ closed refl c.console-end.ensures.link

pub returns-in-Some-clause-sink : goal.returns-in-Some-clause-sink
returns-in-Some-clause-sink g c =
    let closed = given_up_closes g.L.Link.steps g.C.Clock.told c.args.app.now c.args.script.now
    c.args.link.now (g.O.Sink.written c.args.output.now) c.console-end.new.link (g.O.Sink.written c.console-end.new.output)
    c.console-end.result (c.in-Some.pinged, c.in-Some.now) c.requires c.console-end.ensures.ran (sym c.given_up.ensures ∙ c.in-Some.is) in
    same_faults is_write_fault c.console-end.result _ _ closed refl c.console-end.ensures.sink

pub returns-in-None-clause-ran : goal.returns-in-None-clause-ran
returns-in-None-clause-ran g c =
    consoles_on g.L.Link.steps g.C.Clock.told c.args.app.now c.args.script.now
    c.args.link.now (g.O.Sink.written c.args.output.now) c.console-end.new.link (g.O.Sink.written c.console-end.new.output)
    c.console-end.result c.requires c.console-end.ensures.ran (sym c.given_up.ensures ∙ c.in-None.is)
