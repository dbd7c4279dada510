use Rattle.store_machine.specs.PlaceLaws.{lives_put}
use Rattle.store_machine.proofs.laws.earlier_places_keep_what_is_told.Goals as goal

pub returns : goal.returns
returns c = lives_put
