use Rattle.std.proofs.Common.{refl}
use Rattle.reconnect_model.specs.RevivalLaws.{queues-shown, loses-shown, hears-shown}
use Rattle.reconnect_model.proofs.revived_clients_have_what_the_session_sent.Goals as goal

pub returns : goal.returns
returns c = record {
  new = λ revived. refl;
  queues = queues-shown;
  says = λ r w. w;
  loses = λ r w. loses-shown r;
  hears = hears-shown;
}
