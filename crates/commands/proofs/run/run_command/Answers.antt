use Rattle.std.proofs.Common.{[], refl}
use Rattle.commands.proofs.Causes.{by_reading, by_none, reading_is_used, ending_is_used}
use Rattle.commands.proofs.run.run_command.Goals as goal

pub returns-then-reads-clause-cause : goal.returns-then-reads-clause-cause
returns-then-reads-clause-cause g c =
    by_reading c.args.command c.reads.result (g.I.Source.left c.args.input.now) (g.I.Source.left c.run_reading.new.input) (g.O.Sink.written c.args.output.now) (g.O.Sink.written c.run_reading.new.output) c.run_reading.result
    c.reads.ensures c.if-reads.true c.run_reading.ensures.cause

pub returns-then-reads-clause-usage : goal.returns-then-reads-clause-usage
returns-then-reads-clause-usage g c =
    reading_is_used c.args.command (g.I.Source.left c.args.input.now) (g.I.Source.left c.run_reading.new.input) (g.O.Sink.written c.args.output.now) (g.O.Sink.written c.run_reading.new.output) c.run_reading.result
    c.run_reading.ensures.cause

pub returns-else-reads-clause-cause : goal.returns-else-reads-clause-cause
returns-else-reads-clause-cause g c =
    by_none c.args.command c.reads.result (g.I.Source.left c.args.input.now) (g.I.Source.left c.args.input.now) (g.O.Sink.written c.args.output.now) (g.O.Sink.written c.run_input.new.output) c.run_input.result
    c.reads.ensures c.if-reads.false refl c.run_input.ensures.ends

pub returns-else-reads-clause-usage : goal.returns-else-reads-clause-usage
returns-else-reads-clause-usage g c = ending_is_used c.args.command [] (g.O.Sink.written c.args.output.now) (g.O.Sink.written c.run_input.new.output) c.run_input.result c.run_input.ensures.ends
