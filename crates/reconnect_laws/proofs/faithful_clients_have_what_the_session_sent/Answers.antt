use Rattle.reconnect_laws.specs.GivenLaws.{has_what_was_sent}
use Rattle.reconnect_laws.proofs.faithful_clients_have_what_the_session_sent.Goals as goal

pub returns : goal.returns
returns c = has_what_was_sent
