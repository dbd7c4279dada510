use Rattle.ejson_codec.specs.ExactLaws.{exact-written}
use Rattle.ddp_messages.proofs.written_values_are_exact.Goals as goal

pub returns : goal.returns
returns c = exact-written
