use Rattle.client_model.specs.TakingLaws.{called_shown}
use Rattle.client_model.proofs.calling_clients_show_what_the_server_has.Goals as goal

pub returns : goal.returns
returns c = called_shown
