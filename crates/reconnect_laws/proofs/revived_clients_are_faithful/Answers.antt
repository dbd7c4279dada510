use Rattle.reconnect_laws.specs.GivenLaws.{faithful_new, faithful_as, faithful_queues, faithful_says, faithful_loses, faithful_hears}
use Rattle.reconnect_laws.proofs.revived_clients_are_faithful.Goals as goal

pub returns : goal.returns
returns c = record {
  new = faithful_new;
  same = faithful_as;
  queues = faithful_queues;
  says = faithful_says;
  loses = faithful_loses;
  hears = faithful_hears;
}
