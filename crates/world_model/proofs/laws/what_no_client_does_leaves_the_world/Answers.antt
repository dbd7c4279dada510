use Rattle.world_model.specs.WorldLaws.{idle_asks_leave}
use Rattle.world_model.proofs.laws.what_no_client_does_leaves_the_world.Goals as goal

pub returns : goal.returns
returns c = idle_asks_leave
