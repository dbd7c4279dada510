use Rattle.world_model.specs.StoreLaws.{moments_many, moments_at, moments_past}
use Rattle.world_model.proofs.laws.moments_are_those_of_the_history.Goals as goal

pub returns : goal.returns
returns c = record { many = moments_many; within = moments_at; past = moments_past }
