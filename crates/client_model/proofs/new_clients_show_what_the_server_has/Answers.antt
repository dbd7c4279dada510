use Rattle.client_model.specs.TakingLaws.{new_shown}
use Rattle.client_model.proofs.new_clients_show_what_the_server_has.Goals as goal

pub returns : goal.returns
returns c = new_shown
