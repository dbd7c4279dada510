use Rattle.world_invariant_laws.specs.PlacesLaws as laws
use Rattle.world_invariant_laws.proofs.runs_end_where_they_say.Goals as goal

pub returns : goal.returns
returns c = laws.ended_there
