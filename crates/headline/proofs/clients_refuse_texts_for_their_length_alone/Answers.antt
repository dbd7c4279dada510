use Rattle.headline.specs.PoliteWorldsLaws.{worlds_have_long_alone}
use Rattle.headline.proofs.clients_refuse_texts_for_their_length_alone.Goals as goal

pub returns : goal.returns
returns c = worlds_have_long_alone
