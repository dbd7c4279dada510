use Rattle.client_script.proofs.Stopping.{stopped}
use Rattle.client_script.proofs.Turning.{link_failed, no_memory, all_done, polled}
use Rattle.client_script.proofs.turns.turn.Goals as goal

pub returns-in-Err-clause-turns : goal.returns-in-Err-clause-turns
returns-in-Err-clause-turns g c =
    stopped g.S.Speaker.look g.S.Speaker.does g.L.Link.steps c.args.script.now c.args.line.now c.args.speaker.now c.args.link.now (g.O.Sink.written c.args.output.now) c.args.kept.now
    c.run_lines.new.line c.run_lines.new.speaker (g.O.Sink.written c.run_lines.new.output) c.in-Err.end c.requires.going c.in-Err.ensures.runs

pub returns-then-is_over-clause-turns : goal.returns-then-is_over-clause-turns
returns-then-is_over-clause-turns g c =
    let over = c.is_over.ensures c.if-is_over.true in
    let nothing = c.offer_all-offered.ensures.nothing over.1 in
    all_done g.S.Speaker.look g.S.Speaker.does g.L.Link.steps c.args.script.now c.args.line.now c.args.speaker.now c.args.link.now (g.O.Sink.written c.args.output.now) c.args.kept.now
    c.run_lines.new.line c.run_lines.new.speaker (g.O.Sink.written c.run_lines.new.output) c.offer_all-offered.new.speaker c.offer_all-offered.new.link c.offer_all-offered.new.kept c.in-Ok.all c.requires.going
    c.in-Ok.ensures.runs c.offer_all-offered.ensures.moves over.0 nothing.0 nothing.1 over.2 over.3

pub returns-in-Failed-clause-turns : goal.returns-in-Failed-clause-turns
returns-in-Failed-clause-turns g c =
    link_failed g.S.Speaker.look g.S.Speaker.does g.L.Link.steps c.args.script.now c.args.line.now c.args.speaker.now c.args.link.now (g.O.Sink.written c.args.output.now) c.args.kept.now
    c.run_lines.new.line c.run_lines.new.speaker (g.O.Sink.written c.run_lines.new.output) c.offer_all-offered.new.speaker c.offer_all-offered.new.link c.offer_all-offered.new.kept c.in-Ok.all c.requires.going
    c.in-Ok.ensures.runs c.offer_all-offered.ensures.moves

pub returns-in-Memory-clause-turns : goal.returns-in-Memory-clause-turns
returns-in-Memory-clause-turns g c =
    no_memory g.S.Speaker.look g.S.Speaker.does g.L.Link.steps c.args.script.now c.args.line.now c.args.speaker.now c.args.link.now (g.O.Sink.written c.args.output.now) c.args.kept.now
    c.run_lines.new.line c.run_lines.new.speaker (g.O.Sink.written c.run_lines.new.output) c.offer_all-offered.new.speaker c.offer_all-offered.new.link c.offer_all-offered.new.kept c.in-Ok.all c.requires.going
    c.in-Ok.ensures.runs c.offer_all-offered.ensures.moves

pub returns-in_default-clause-turns : goal.returns-in_default-clause-turns
returns-in_default-clause-turns g c =
    polled g.S.Speaker.look g.S.Speaker.does g.L.Link.steps c.args.script.now c.args.line.now c.args.speaker.now c.args.link.now (g.O.Sink.written c.args.output.now) c.args.kept.now
    c.run_lines.new.line c.run_lines.new.speaker (g.O.Sink.written c.run_lines.new.output) c.offer_all-offered.new.speaker c.offer_all-offered.new.link c.offer_all-offered.new.kept c.in-Ok.all c.requires.going
    c.in-Ok.ensures.runs c.offer_all-offered.ensures.moves c.listen.new.speaker c.listen.new.link c.listen.result c.listen.ensures.polls
