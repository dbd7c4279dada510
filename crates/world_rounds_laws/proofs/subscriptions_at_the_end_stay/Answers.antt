use Rattle.world_rounds_laws.specs.ListingLaws.{advances_left, advances_none}
use Rattle.world_rounds_laws.proofs.subscriptions_at_the_end_stay.Goals as goal

pub returns : goal.returns
returns c = record { made = advances_left; none = advances_none }
