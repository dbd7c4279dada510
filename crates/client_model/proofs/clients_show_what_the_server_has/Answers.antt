use Rattle.client_model.specs.TakingLaws.{texts_shown}
use Rattle.client_model.proofs.clients_show_what_the_server_has.Goals as goal

pub returns : goal.returns
returns c = texts_shown
