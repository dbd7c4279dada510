use Rattle.headline.specs.CallsLaws.{late_counted}
use Rattle.headline.proofs.clients_count_what_they_take.Goals as goal

pub returns : goal.returns
returns c = late_counted
