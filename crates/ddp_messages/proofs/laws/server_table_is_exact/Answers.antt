use Rattle.ddp_messages.specs.ServerLaws.{server_ok, server_only}
use Rattle.ddp_messages.proofs.laws.server_table_is_exact.Goals as goal

pub returns : goal.returns
returns c d m = (server_ok d m, server_only d m)
