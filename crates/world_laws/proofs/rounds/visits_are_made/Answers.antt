use Rattle.world_laws.specs.Settling.{visit_made, nobody_is_visited}
use Rattle.world_laws.proofs.rounds.visits_are_made.Goals as goal

pub returns-clause-made : goal.returns-clause-made
returns-clause-made c = λ x p name old is new history. visit_made x p name old is new history

pub returns-clause-nobody : goal.returns-clause-nobody
returns-clause-nobody c = nobody_is_visited
