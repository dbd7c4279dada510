use Rattle.world_model.specs.StoreLaws.{moments-append}
use Rattle.world_model.proofs.laws.longer_histories_keep_earlier_moments.Goals as goal

pub returns : goal.returns
returns c = moments-append
