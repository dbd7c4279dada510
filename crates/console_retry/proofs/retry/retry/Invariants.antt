use Rattle.std.proofs.Common.{◌≡◌, ◌≤◌, length, true}
use Rattle.client_script.specs.declared.end.ConsoleEnd.{ConsoleEnd}
use Rattle.client_script.specs.Speaking.{goes_on}
use Rattle.revived_client.specs.Speaking.{look_of}
use Rattle.console_retry.specs.Retries.{Moment, moment, Ends}
use Rattle.console_retry.proofs.retry.retry.Given as goal

abbrev pub invariant-links : goal.invariant-links
invariant-links g l = record {
  back : (after : Moment) (end : ConsoleEnd) →
      Ends g.N.Link.Link.steps g.N.Link.Link.faults l.script l.left (moment l.client l.line (g.O.Sink.written l.output) (g.N.Network.given l.net) (g.N.Network.faults l.net)) after end →
      Ends g.N.Link.Link.steps g.N.Link.Link.faults l.script l.tries (moment l.fn.client l.fn.line (g.O.Sink.written l.fn.output) (g.N.Network.given l.fn.net) (g.N.Network.faults l.fn.net)) after end;
  line : l.line ≤ length l.script;
  going : goes_on (look_of l.client) ≡ true;
  sink : g.O.Sink.faults l.output ≡ g.O.Sink.faults l.fn.output;
}

abbrev pub decreases-links : goal.decreases-links
decreases-links g l = l.left
