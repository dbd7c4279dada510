use Rattle.world_laws.specs.World.{as_world}
use Rattle.world_laws.specs.Settling.{seen_sorted, part_made, no_acts, acts_go_on, visit_is_acts}
use Rattle.world_laws.proofs.rounds.parts_of_rounds_are_acts.Goals as goal

pub returns-clause-part : goal.returns-clause-part
returns-clause-part c = part_made

pub returns-clause-visit : goal.returns-clause-visit
returns-clause-visit c = λ x p name. visit_is_acts (as_world x) name (seen_sorted x p)

pub returns-clause-none : goal.returns-clause-none
returns-clause-none c = no_acts

pub returns-clause-more : goal.returns-clause-more
returns-clause-more c = acts_go_on
