use Rattle.std.proofs.Common.{refl}
use Rattle.console_retry.specs.Retries.{moment}
use Rattle.console_retry.proofs.retry.next_leg.Goals as goal

pub returns-clause-tried : goal.returns-clause-tried
returns-clause-tried g c = (
  record {
    before = moment c.args.client.now c.args.line.now (g.O.Sink.written c.args.output.now) (g.N.Network.given c.args.net.now) (g.N.Network.faults c.args.net.now);
    after = moment c.leg.new.client c.leg.new.line (g.O.Sink.written c.leg.new.output) (g.N.Network.given c.connect.new.self) (g.N.Network.faults c.connect.new.self);
    end = c.leg.result;
    given = c.in-Ok.ensures.given;
    faults = c.in-Ok.ensures.sound;
    first = c.in-Ok.link;
    last = c.leg.new.link;
    ran = c.leg.ensures.ran;
    link = c.leg.ensures.link;
  },
  refl,
  refl,
  refl,
)
