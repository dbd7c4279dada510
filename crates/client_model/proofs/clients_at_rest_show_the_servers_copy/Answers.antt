use Rattle.client_model.specs.TakingLaws.{rest_shown}
use Rattle.client_model.proofs.clients_at_rest_show_the_servers_copy.Goals as goal

pub returns : goal.returns
returns c = rest_shown
