use Rattle.headline.specs.FittingLaws.{out_accepted}
use Rattle.headline.proofs.messages_fit_their_client.Goals as goal

pub returns : goal.returns
returns c = out_accepted
