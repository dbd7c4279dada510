use Rattle.ddp_messages.specs.ClientLaws.{client_ok, client_only}
use Rattle.ddp_messages.proofs.laws.client_table_is_exact.Goals as goal

pub returns : goal.returns
returns c d m = (client_ok d m, client_only d m)
