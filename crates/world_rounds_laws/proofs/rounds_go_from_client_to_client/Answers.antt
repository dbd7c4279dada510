use Rattle.world_rounds_laws.specs.VisitsLaws.{round_is, visits_sorted}
use Rattle.world_rounds_laws.proofs.rounds_go_from_client_to_client.Goals as goal

pub returns : goal.returns
returns c = record { round = round_is; sorted = visits_sorted }
